use Rattle.stm_turns.specs.Bundles.{SteppedWith}
use Rattle.stm_turns.specs.Gathered.{BeginsAlike}
use Rattle.stm_turns.proofs.gathers.gather.Given as goal

abbrev pub invariant-loop : goal.invariant-loop
invariant-loop g l = record { step : SteppedWith g.M.Medium.sight l.events l.fn.seat l.seat l.home l.gathering; alike : BeginsAlike l.fn.gathering l.gathering }
