use Rattle.std.proofs.Common.{◌<◌, length}
use Rattle.tatp_check.specs.Marks.{unmarked}
use Rattle.tatp_check.specs.Seen.{KnowsPart}
use Rattle.tatp_check.proofs.walk.follow_chain.Given as goal

abbrev pub invariant-loop-link : goal.invariant-loop-link
invariant-loop-link g l = record {
  inside : l.link < length l.a;
  knows : KnowsPart (g.C.Content.MayHold l.content) l.table l.a l.bucket l.link l.seen;
}

abbrev pub decreases-loop-link : goal.decreases-loop-link
decreases-loop-link g l = unmarked l.seen.marks.marks.items
