use Rattle.std.proofs.Common.{◌≡◌, [], false}
use Rattle.back_store.specs.BackView.{state_of}
use Rattle.stm_turns.specs.Turns.{Advanced}
use Rattle.stm_turns.proofs.settling.persist_all.Given as goal

abbrev pub invariant-loop : goal.invariant-loop
invariant-loop g l = record { step : Advanced g.M.Medium.sight l.events l.fn.durable l.durable l.fn.seat l.seat l.home []; alive : (state_of l.home.back).dead ≡ false }
