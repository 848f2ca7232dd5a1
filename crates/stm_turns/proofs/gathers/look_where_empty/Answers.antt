use Rattle.stm_turns.proofs.Seats.{same_turn}
use Rattle.stm_turns.proofs.gathers.look_where_empty.Goals as goal

pub returns-then-front-ne0-clause-step : goal.returns-then-front-ne0-clause-step
returns-then-front-ne0-clause-step g c = λ hand i. same_turn g.M.Medium.sight c.args.events.now c.args.seat.now c.args.home.now hand i
