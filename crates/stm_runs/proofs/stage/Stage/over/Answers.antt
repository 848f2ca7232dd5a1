use Rattle.std.proofs.Common.{List, sym, subst}
use Rattle.stm_transactions.specs.Passes.{PassSight}
use Rattle.tiny_stm.specs.Tables.{table_of}
use Rattle.stm_runs.specs.Kept.{AreHeld}
use Rattle.stm_runs.proofs.Held.{begun}
use Rattle.stm_runs.proofs.stage.Stage.over.Goals as goal

pub invariant_of-result : goal.invariant_of-result
invariant_of-result c = record {
  held = subst (λ (xs : List (PassSight _)). AreHeld (table_of c.in-Ok.stm) c.in-Ok.first xs) (sym c.new-in-Ok.ensures.items)
      (begun (table_of c.in-Ok.stm) c.in-Ok.first c.in-Ok.ensures.ok.within.threads.low c.in-Ok.ensures.ok.pass);
}
