use Rattle.std.proofs.Common.{◌≡◌, ℕ, ◌≤◌, get_or}
use Rattle.stm_turns.specs.InFront.{AreFoundAgain}
use Rattle.stm_turns.specs.Turns.{SteppedOn}
use Rattle.stm_turns.proofs.gathers.look_again.Given as goal

abbrev pub invariant-loop-thread : goal.invariant-loop-thread
invariant-loop-thread g l = record {
  step : SteppedOn g.M.Medium.sight l.events l.fn.seat l.seat l.home l.home;
  found : AreFoundAgain l.events.setup l.places l.above l.fn.fronts l.fronts l.thread l.fn.seat.me.0.view l.seat.me.0.view;
  rest : (u : ℕ) → l.thread ≤ u → get_or l.fronts u 0 ≡ get_or l.fn.fronts u 0;
}
