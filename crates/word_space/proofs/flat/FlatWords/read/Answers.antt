use Rattle.std.proofs.Common.{rules, Err, lit≤}
use Rattle.word_space.specs.declared.stop.Stop.TheVariants.{NoMemory}
use Rattle.word_space.specs.Flats.{flat_sight}
use Rattle.word_space.proofs.Meets.{value_read}
use Rattle.word_space.proofs.Runs.{used_none, used_more, used_read}
use Rattle.word_space.proofs.flat.FlatWords.read.Goals as goal

pub returns-in-Some-clause-uses : goal.returns-in-Some-clause-uses
returns-in-Some-clause-uses c = used_more used_none (lit≤ tt) (lit≤ tt)

pub returns-in-Some-clause-value : goal.returns-in-Some-clause-value
returns-in-Some-clause-value c =
    let s = flat_sight c.args.self.now in
    value_read s s c.args.at c.in-Some.value c.requires.inside (search rules)

pub returns-clause-value : goal.returns-clause-value
returns-clause-value c =
    let s = flat_sight c.args.self.now in
    value_read s (record s { reads = c.add.new.self.reads }) c.args.at c.index-value.result.now c.requires.inside (search rules)

pub returns-then-is_err-clause-uses : goal.returns-then-is_err-clause-uses
returns-then-is_err-clause-uses c = used_read {at = c.args.at} (Err NoMemory) (record { does = search rules }) (λ x led. led)
