use Rattle.std.proofs.Common.{vec_len}
use Rattle.tiny_stm.specs.Tables.{table_of}
use Rattle.stm_runs.specs.Kept.{AreHeld}
use Rattle.stm_runs.proofs.stage.join_all.Given as goal

-- all passes are held
abbrev pub invariant-loop-other : goal.invariant-loop-other
invariant-loop-other l = AreHeld (table_of l.stm) l.first l.others.items

abbrev pub decreases-loop-other : goal.decreases-loop-other
decreases-loop-other l = vec_len l.others
