use Rattle.std.proofs.Common.{◌≡◌, ◌∙◌, refl, sym, ap, get_or, set}
use Rattle.core_events.specs.Setups.{Setup, box_of}
use Rattle.stm_slots.specs.Queues.{place_at}
use Rattle.stm_slots.specs.Opening.{setup_of}
use Rattle.stm_turns.specs.Turns.{place_after}
use Rattle.stm_turns.proofs.Seats.{empties_first, first_front, fits_first, may_empty_first}
use Rattle.stm_turns.proofs.letting.empty_first.Goals as goal

pub take_record-redo-requires-clause-front : goal.take_record-redo-requires-clause-front
take_record-redo-requires-clause-front g c =
    let t = c.args.events.now in let q = c.requires.may in let h = c.args.home.now in
    first_front g.M.Medium.sight t c.args.seat.now h c.args.thread q c.box_number-slot.result (c.box_number-slot.ensures ∙ ap (λ (y : Setup). box_of y c.args.thread (get_or h.next c.args.thread 0)) q.may.letting.setup)

pub store_by-requires-clause-fits : goal.store_by-requires-clause-fits
store_by-requires-clause-fits g c =
    let t = c.args.events.now in let q = c.requires.may in let h = c.args.home.now in let a = c.take_record-redo in
    rw q.may.letting.setup (fits_first g.M.Medium.sight t c.args.seat.now h c.args.thread q a.new.seat c.box_number-slot.result (c.box_number-slot.ensures ∙ ap (λ (y : Setup). box_of y c.args.thread (get_or h.next c.args.thread 0)) q.may.letting.setup) a.ensures.me)

pub store_by-requires-clause-may : goal.store_by-requires-clause-may
store_by-requires-clause-may g c =
    let t = c.args.events.now in let q = c.requires.may in let h = c.args.home.now in let a = c.take_record-redo in let thread = c.args.thread in let place = get_or h.next thread 0 in
    let after : place_at (setup_of g.M.Medium.sight t.key) place 1 ≡ c.next_place.result = sym (c.next_place.ensures ∙ ap (λ b. place_after b place) (c.boxes.ensures ∙ ap (λ (y : Setup). y.boxes) q.may.letting.setup)) in
    may_empty_first g.M.Medium.sight t c.args.seat.now h thread q a.new.seat c.box_number-slot.result (c.box_number-slot.ensures ∙ ap (λ (y : Setup). box_of y thread place) q.may.letting.setup) a.ensures.me a.ensures.same.0
    (record h { next = set h.next thread c.next_place.result }) refl refl (ap (set h.next thread) after)

pub returns-clause-emptied : goal.returns-clause-emptied
returns-clause-emptied g c =
    let t = c.args.events.now in let h = c.args.home.now in let a = c.take_record-redo in let x = c.store_by in let thread = c.args.thread in let place = get_or h.next thread 0 in let q = c.requires.may in
    let after : c.next_place.result ≡ place_at (setup_of g.M.Medium.sight t.key) place 1 = c.next_place.ensures ∙ ap (λ b. place_after b place) (c.boxes.ensures ∙ ap (λ (y : Setup). y.boxes) q.may.letting.setup) in
    λ first left may thread_is. empties_first g.M.Medium.sight t c.args.seat.now h first left thread may thread_is a.new.seat x.new.seat c.box_number-slot.result a.ensures.me a.ensures.same.0 a.ensures.same.1
    (record h { next = set h.next thread c.next_place.result }) refl (ap (set h.next thread) after) x.ensures.then x.ensures.seat.0 x.ensures.seat.1
