use Rattle.std.proofs.Common.{List, sym, subst}
use Rattle.stm_transactions.specs.Passes.{PassSight}
use Rattle.tiny_stm.specs.Tables.{table_of}
use Rattle.stm_runs.specs.Kept.{AreHeld}
use Rattle.stm_runs.proofs.Held.{split_on}
use Rattle.stm_runs.proofs.stage.split_off.Goals as goal

pub returns-in-Ok : goal.returns-in-Ok
returns-in-Ok c =
    let held = subst (λ (xs : List (PassSight _)). AreHeld (table_of c.args.stm.now) c.args.first.now xs) (sym c.reserve.ensures.items) c.requires in
    rw c.push_reserved.ensures.items (split_on (table_of c.args.stm.now) c.args.draws c.args.first.now c.split.new.p c.in-Ok.pass c.reserve.new.self.items held c.in-Ok.ensures.ok)
