use Rattle.std.proofs.Common.{◌≡◌, ℕ, ◌<◌, List, length}
use Rattle.tatp_check.specs.Marks.{unmarked}
use Rattle.tatp_check.specs.PoolWalk.{AreApartMarked, KnowsFree}
use Rattle.tatp_check.proofs.pool_walk.follow_free.Given as goal

abbrev pub invariant-loop-link : goal.invariant-loop-link
invariant-loop-link l = record {
  count : length l.marks.marks.items ≡ l.pool.count;
  inside : l.link < length l.a;
  knows : (taken : List ℕ) → AreApartMarked l.pool taken l.initial.marks → KnowsFree l.pool l.a taken l.link l.marks;
}

abbrev pub decreases-loop-link : goal.decreases-loop-link
decreases-loop-link l = unmarked l.marks.marks.items
