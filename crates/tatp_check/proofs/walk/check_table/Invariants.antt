use Rattle.tatp_check.specs.Seen.{KnowsChains}
use Rattle.tatp_check.proofs.walk.check_table.Given as goal

abbrev pub invariant-loop-bucket : goal.invariant-loop-bucket
invariant-loop-bucket g l = KnowsChains (g.C.Content.MayHold l.content) l.table l.a l.bucket l.seen
