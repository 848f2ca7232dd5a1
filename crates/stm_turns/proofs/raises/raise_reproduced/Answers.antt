use Rattle.std.proofs.Common.{◌≤◌, refl, sym, arith}
use Rattle.back_store.specs.BackView.{state_of}
use Rattle.core_events.specs.Events.{raise_reproduced}
use Rattle.stm_turns.specs.Told.{Raised}
use Rattle.stm_turns.proofs.Holdings.{reproduced_fits, reproduced_acts_on}
use Rattle.stm_turns.proofs.Seats.{may_in_turn, raised_turn, raised_shown}
use Rattle.stm_turns.proofs.raises.raise_reproduced.Goals as goal

pub store_by-requires-clause-fits : goal.store_by-requires-clause-fits
store_by-requires-clause-fits g c =
    let t = c.args.events.now in let r = c.requires in let i = r.turn.1 in let seat = c.args.seat.now in let h = c.args.home.now in
    rw i.setup (reproduced_fits g.M.Medium.sight t.key seat.me h r.turn.0 i.holding seat.id c.args.number (sym r.raised) (sym r.number))

pub store_by-requires-clause-may : goal.store_by-requires-clause-may
store_by-requires-clause-may g c =
    let t = c.args.events.now in let r = c.requires in let i = r.turn.1 in let seat = c.args.seat.now in let h = c.args.home.now in let sight = g.M.Medium.sight in
    let le : c.args.number ≤ (state_of h.back).log.reproduced = omega (arith, r.number) in
    may_in_turn sight t seat h r.turn.0 i.belongs i.setup i.holding (raise_reproduced c.args.number) (record { live = i.holding.live; threaded = i.holding.thread; named = tt; can = i.holding.turn }) (λ n. Raised sight t.key (raise_reproduced c.args.number) h seat.me 0)
    (reproduced_acts_on sight t.key seat.me h r.turn.0 i.holding seat.id c.args.number i.same le)

pub returns-clause-step : goal.returns-clause-step
returns-clause-step g c =
    let x = c.store_by in
    raised_turn g.M.Medium.sight c.args.events.now c.args.seat.now x.new.seat c.args.home.now (raise_reproduced c.args.number) 0 x.ensures.then refl refl refl x.ensures.seat.0 x.ensures.seat.1

pub returns-clause-shown : goal.returns-clause-shown
returns-clause-shown g c = raised_shown g.M.Medium.sight c.args.events.now c.args.seat.now c.store_by.new.seat c.args.home.now c.args.number c.store_by.ensures.then
