use Rattle.std.proofs.Common.{◌≡◌, ◌-◌, ◌≤◌, length}
use Rattle.back_store.specs.BackView.{state_of}
use Rattle.run_threads.specs.Handing.{HandsUpTo}
use Rattle.run_threads.proofs.persisting.persist_all.Given as goal

abbrev pub invariant-loop-from : goal.invariant-loop-from
invariant-loop-from g l = record {
  within : l.from ≤ length l.rest;
  hands : HandsUpTo l.rest 0 l.from l.fn.back l.back;
  sizes : (state_of l.back).log.sizes ≡ (state_of l.fn.back).log.sizes;
}

abbrev pub decreases-loop-from : goal.decreases-loop-from
decreases-loop-from g l = length l.rest - l.from
