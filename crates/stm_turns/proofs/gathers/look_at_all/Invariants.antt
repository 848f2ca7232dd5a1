use Rattle.std.proofs.Common.{◌≡◌, length}
use Rattle.dude_base.specs.declared.limits.TheConstants.{MAX_RINGS}
use Rattle.stm_turns.specs.InFront.{AreFound}
use Rattle.stm_turns.specs.Turns.{SteppedOn}
use Rattle.stm_turns.proofs.gathers.look_at_all.Given as goal

abbrev pub invariant-loop-thread : goal.invariant-loop-thread
invariant-loop-thread g l = record {
  step : SteppedOn g.M.Medium.sight l.events l.fn.seat l.seat l.home l.home;
  wide : length l.fronts ≡ MAX_RINGS;
  found : AreFound l.events.setup l.places l.fronts l.thread l.fn.seat.me.0.view l.seat.me.0.view;
}
