use Rattle.std.proofs.Common.{◌≤◌, arith}
use Rattle.std.specs.List.{Contains}
use Rattle.dude_base.specs.Records.{Covers}
use Rattle.redo_record.specs.Waiting.{Waiting}
use Rattle.dude_core.proofs.StoreLists.{tell_or}
use Rattle.dude_core.proofs.store.Store.is_on_medium.Goals as goal

pub returns : goal.returns
returns c = rw (← c.self.view_is) (tell_or (c.args.number ≤ c.self.inside.reproduced) ((w : Waiting) × Contains c.self.inside.waiting.items w × Covers w.redo c.args.number) c.is_covered.result (λ le. absurd (let upto = le in let over = c.if-number-self.false in omega arith)) (rw (c.deref.ensures.value) at c.is_covered.ensures))
