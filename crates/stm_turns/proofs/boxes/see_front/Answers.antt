use Rattle.std.proofs.Common.{◌<◌, ◌∙◌, [], refl, ap, get_or}
use Rattle.core_events.specs.Events.{see_full}
use Rattle.core_events.specs.Setups.{Setup, box_of}
use Rattle.stm_slots.specs.Opening.{setup_of}
use Rattle.stm_turns.proofs.Holdings.{saw_acts}
use Rattle.stm_turns.proofs.Seats.{may_in_turn, saw_none, saw_some, saw_front, saw_drawn_none, saw_drawn_some, turned_me}
use Rattle.stm_turns.specs.Told.{SawFront}
use Rattle.stm_turns.proofs.boxes.see_front.Goals as goal

pub load_by-found-requires-clause-may : goal.load_by-found-requires-clause-may
load_by-found-requires-clause-may g c =
    let t = c.args.events.now in let i = c.requires.turn in let seat = c.args.seat.now in let h = c.args.home.now in let sight = g.M.Medium.sight in let thread = c.args.thread in
    let inside : thread < (setup_of sight t.key).threads = rw i.setup at c.requires.thread in
    may_in_turn sight t seat h [] i.belongs i.setup i.holding (see_full thread (get_or h.next thread 0)) (record { live = i.holding.live; threaded = i.holding.thread; named = (inside, i.holding.places thread inside); can = i.holding.turn }) (SawFront sight t.key thread h seat.me)
    (saw_acts sight t.key seat.me h [] i.holding seat.id thread refl inside)

pub returns-then-found-eq0-clause-step : goal.returns-then-found-eq0-clause-step
returns-then-found-eq0-clause-step g c =
    let x = c.load_by-found in
    saw_none g.M.Medium.sight c.args.events.now c.args.seat.now x.new.seat x.result c.args.thread c.args.home.now c.requires.turn x.ensures.seat.0 x.ensures.seat.1 x.ensures.then c.if-found-eq0.true

pub returns-then-found-eq0-clause-drawn : goal.returns-then-found-eq0-clause-drawn
returns-then-found-eq0-clause-drawn g c =
    let x = c.load_by-found in
    λ own. saw_drawn_none g.M.Medium.sight c.args.events.now c.args.seat.now x.new.seat x.result c.args.thread c.args.home.now c.requires.turn x.ensures.seat.0 x.ensures.seat.1 x.ensures.then c.if-found-eq0.true own.0 own.1

pub read_record-redo-requires-clause-front : goal.read_record-redo-requires-clause-front
read_record-redo-requires-clause-front g c =
    let x = c.load_by-found in let i = c.requires.turn in
    saw_front g.M.Medium.sight c.args.events.now c.args.seat.now x.new.seat x.result c.args.thread c.args.home.now i x.ensures.seat.0 x.ensures.seat.1 x.ensures.then c.if-found-eq0.false
    c.box_number-slot.result (c.box_number-slot.ensures ∙ ap (λ (y : Setup). box_of y c.args.thread (get_or c.args.home.now.next c.args.thread 0)) i.setup)

pub returns-clause-step : goal.returns-clause-step
returns-clause-step g c =
    let x = c.load_by-found in let i = c.requires.turn in let r = c.read_record-redo in let e = c.turn.ensures in
    saw_some g.M.Medium.sight c.args.events.now c.args.seat.now x.new.seat x.result c.args.thread c.args.home.now i x.ensures.seat.0 x.ensures.seat.1 x.ensures.then c.if-found-eq0.false
    c.box_number-slot.result c.turn.new.self r.result (rw i.setup at c.requires.thread) (e.0 ∙ r.ensures.same.0) (e.1 ∙ r.ensures.same.1) (turned_me x.new.seat.me r.new.seat.me c.turn.new.self.me r.ensures.me e.2) r.ensures.was

pub returns-clause-drawn : goal.returns-clause-drawn
returns-clause-drawn g c =
    let x = c.load_by-found in let i = c.requires.turn in let r = c.read_record-redo in let e = c.turn.ensures in
    λ own. saw_drawn_some g.M.Medium.sight c.args.events.now c.args.seat.now x.new.seat x.result c.args.thread c.args.home.now i x.ensures.seat.0 x.ensures.seat.1 x.ensures.then c.if-found-eq0.false
    c.box_number-slot.result c.turn.new.self r.result (ap (λ m. m.0) (turned_me x.new.seat.me r.new.seat.me c.turn.new.self.me r.ensures.me e.2)) r.ensures.was own.0 own.1
