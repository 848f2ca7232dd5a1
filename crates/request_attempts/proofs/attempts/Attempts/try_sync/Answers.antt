use Rattle.std.proofs.Common.{arith}
use Rattle.request_attempts.proofs.TriesMade.{pumped_again, refused_again}
use Rattle.request_attempts.proofs.attempts.Attempts.try_sync.Goals as goal

pub returns-in-Ok-2 : goal.returns-in-Ok-2
returns-in-Ok-2 g c =
    let h = c.in-Ok.ensures.ok in
    let last = h.keeps.pass.last in
    let is = c.last.ensures in
    let under = c.if-durable-last.false in
    pumped_again c.args.self.now.stm.now.events c.args.p.now c.pump.new.p c.requires.rests.numbers.few c.in-Ok.durable h (omega arith)

pub returns-in-Err-Refused : goal.returns-in-Err-Refused
returns-in-Err-Refused g c = refused_again c.args.self.now.stm.now.events c.args.p.now c.pump.new.p c.requires.rests.numbers.few (rw c.in-Err-Refused.field-0-is at c.in-Err-Refused.ensures.err)
