use Rattle.stm_turns.proofs.NextRecords.{ahead_inside, ahead_wide}
use Rattle.stm_turns.proofs.Seats.{same_turn}
use Rattle.stm_turns.proofs.gathers.thread_with_next.Goals as goal

pub returns-in-Some-clause-step : goal.returns-in-Some-clause-step
returns-in-Some-clause-step g c = λ hand i. same_turn g.M.Medium.sight c.args.events.now c.args.seat.now c.args.home.now hand i

pub look_again-requires-clause-turn : goal.look_again-requires-clause-turn
look_again-requires-clause-turn g c = let w = c.requires.with in (w.hand, w.turn)

pub look_again-requires-clause-wide : goal.look_again-requires-clause-wide
look_again-requires-clause-wide g c =
    let w = c.requires.with in rw w.turn.setup (ahead_wide g.M.Medium.sight c.args.events.now c.args.seat.now c.args.home.now c.args.gathering.now w)

pub look_again-requires-clause-places : goal.look_again-requires-clause-places
look_again-requires-clause-places g c =
    let w = c.requires.with in rw w.turn.setup (ahead_inside g.M.Medium.sight c.args.events.now c.args.seat.now c.args.home.now c.args.gathering.now w)
