use Rattle.std.proofs.Common.{◌<◌, refl}
use Rattle.core_events.specs.Events.{see_full}
use Rattle.stm_slots.specs.Opening.{setup_of}
use Rattle.stm_turns.specs.Told.{Raised}
use Rattle.stm_turns.proofs.Fronts.{after_on}
use Rattle.stm_turns.proofs.Holdings.{peek_acts_on}
use Rattle.stm_turns.proofs.Seats.{may_in_turn, raised_turn}
use Rattle.stm_turns.proofs.boxes.look.Goals as goal

pub load_by-requires-clause-may : goal.load_by-requires-clause-may
load_by-requires-clause-may g c =
    let t = c.args.events.now in let hand = c.requires.turn.0 in let i = c.requires.turn.1 in let seat = c.args.seat.now in let h = c.args.home.now in let sight = g.M.Medium.sight in
    let z = setup_of sight t.key in let inside : c.args.thread < z.threads = rw i.setup at c.requires.thread in let near : c.args.place < z.boxes = rw i.setup at c.requires.place in let e = see_full c.args.thread c.args.place in
    may_in_turn sight t seat h hand i.belongs i.setup i.holding e (record { live = i.holding.live; threaded = i.holding.thread; named = (inside, near); can = i.holding.turn }) (Raised sight t.key e h seat.me)
    (peek_acts_on sight t.key seat.me h hand i.holding seat.id c.args.thread c.args.place i.same)

pub returns-clause-step : goal.returns-clause-step
returns-clause-step g c =
    let x = c.load_by in let e = see_full c.args.thread c.args.place in
    raised_turn g.M.Medium.sight c.args.events.now c.args.seat.now x.new.seat c.args.home.now e x.result x.ensures.then refl refl refl x.ensures.seat.0 x.ensures.seat.1

pub returns-clause-found : goal.returns-clause-found
returns-clause-found g c =
    let t = c.args.events.now in let x = c.load_by in
    after_on t.setup (setup_of g.M.Medium.sight t.key) c.requires.turn.1.setup (see_full c.args.thread c.args.place) c.args.seat.now.me.0.view x.new.seat.me.0.view x.result x.ensures.then.went.view
