use Rattle.std.proofs.Common.{◌≡◌, ◌*◌}
use Rattle.back_store.specs.BackView.{state_of}
use Rattle.dude_base.specs.declared.limits.TheConstants.{PAGE}
use Rattle.stm_slots.specs.Calls.{StaysKnown}
use Rattle.run_threads.proofs.Homes.{TakesUpTo}
use Rattle.run_threads.proofs.home.read_pages.Given as goal

abbrev pub invariant-loop-page : goal.invariant-loop-page
invariant-loop-page g l = record {
  stays : StaysKnown l.fn.back l.back;
  same : state_of l.back ≡ state_of l.fn.back;
  takes : TakesUpTo (l.page * PAGE) l.fn.back l.words;
}
