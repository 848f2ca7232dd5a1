use Rattle.std.proofs.Common.{rules}
use Rattle.word_space.proofs.Meets.{value_read}
use Rattle.stm_transactions.specs.Transactions.{tx_sight}
use Rattle.stm_transactions.proofs.words.TxOverBoxDescriptorWords.read.Goals as goal

pub returns-in-Some-clause-value : goal.returns-in-Some-clause-value
returns-in-Some-clause-value g c =
    let s = tx_sight c.args.self.now in let own = c.deref_mut-own.result.now in
    value_read s (record s { reads = own.reads.items; writes = own.writes }) c.args.at c.in-Some.value c.requires.inside (search rules)

pub returns-in-Ok-clause-value : goal.returns-in-Ok-clause-value
returns-in-Ok-clause-value g c =
    let s = tx_sight c.args.self.now in let own = c.deref_mut-own.result.now in
    value_read s (record s { reads = c.push_reserved.new.self.items; writes = own.writes }) c.args.at c.in-Ok.value c.requires.inside (search rules)
