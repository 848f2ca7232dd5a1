use Rattle.std.proofs.Common.{◌≤◌, arith}
use Rattle.back_store.specs.BackView.{state_of}
use Rattle.core_events.specs.Events.{raise_durable}
use Rattle.stm_turns.specs.Told.{Raised}
use Rattle.stm_turns.proofs.Holdings.{durable_fits, durable_acts_on}
use Rattle.stm_turns.proofs.Seats.{advanced_turn, may_in_turn}
use Rattle.stm_turns.proofs.raises.raise_durable.Goals as goal

pub store_by-requires-clause-fits : goal.store_by-requires-clause-fits
store_by-requires-clause-fits g c =
    let t = c.args.events.now in let r = c.requires.raise in let i = r.turn in let seat = c.args.seat.now in let h = c.args.home.now in let sight = g.M.Medium.sight in
    let le : (state_of h.back).log.durable ≤ c.args.number = omega (arith, r.durable) in
    rw i.setup (durable_fits sight t.key seat.me h r.hand i.holding seat.id c.args.number r.reached le)

pub store_by-requires-clause-may : goal.store_by-requires-clause-may
store_by-requires-clause-may g c =
    let t = c.args.events.now in let r = c.requires.raise in let i = r.turn in let seat = c.args.seat.now in let h = c.args.home.now in let sight = g.M.Medium.sight in
    let le : c.args.number ≤ (state_of h.back).log.durable = omega (arith, r.durable) in
    may_in_turn sight t seat h r.hand i.belongs i.setup i.holding (raise_durable c.args.number) (record { live = i.holding.live; threaded = i.holding.thread; named = tt; can = i.holding.turn }) (λ n. Raised sight t.key (raise_durable c.args.number) h seat.me 0)
    (durable_acts_on sight t.key seat.me h r.hand i.holding seat.id c.args.number i.same le)

pub returns-clause-step : goal.returns-clause-step
returns-clause-step g c =
    let x = c.store_by in
    advanced_turn g.M.Medium.sight c.args.events.now c.args.seat.now x.new.seat c.args.home.now c.args.number x.ensures.then x.ensures.seat.0 x.ensures.seat.1
