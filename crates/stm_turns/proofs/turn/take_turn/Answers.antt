use Rattle.std.proofs.Common.{◌≡◌, ◌*◌, ◌∙◌, sym, ap, ◌∷◌, eq-eqb}
use Rattle.atomic_table.specs.Table.{rest}
use Rattle.core_events.specs.Setups.{Setup}
use Rattle.stm_slots.specs.Queues.{back_slot}
use Rattle.stm_slots.specs.Opening.{setup_of}
use Rattle.stm_slots.specs.Turns.{Took}
use Rattle.stm_slots.specs.declared.slot.Slot.TheVariants.{Home}
use Rattle.stm_slots.proofs.Acting.{take_acts}
use Rattle.stm_turns.proofs.Holdings.{front_of}
use Rattle.stm_turns.proofs.Seats.{has_taken, home_or_empty, home_or_record, same_front}
use Rattle.stm_turns.proofs.turn.take_turn.Goals as goal

pub change_by-seen-requires-clause-may : goal.change_by-seen-requires-clause-may
change_by-seen-requires-clause-may g c =
    let t = c.args.events.now in let seat = c.args.seat.now in let r = c.requires in let sight = g.M.Medium.sight in
    record { seat = r.seat; may = r.may; acts = rw c.box_count-slot.ensures.setup (take_acts sight t.key seat.id seat.me) }

pub change_slot-requires-clause-front : goal.change_slot-requires-clause-front
change_slot-requires-clause-front g c =
    let e = c.box_count-slot.ensures in let mid = c.change_by-seen.new.seat in let z = setup_of g.M.Medium.sight c.args.events.now.key in
    let took : Took g.M.Medium.sight c.args.events.now.key c.args.seat.now.me mid.me = rw (eq-eqb c.change_by-seen.result 0 c.if-seen-ne0.false) at c.change_by-seen.ensures.then.1 in
    let is_slot : c.box_count-slot.result ≡ back_slot z = e.count ∙ ap (λ (y : Setup). y.threads * y.boxes) e.setup in
    (Home took.home, front_of mid.me.1 c.args.seat.now.me.1 c.box_count-slot.result (Home took.home) (took.slots ∙ ap (λ k. (k, Home took.home) ∷ c.args.seat.now.me.1) (sym is_slot)))

pub unreachable-requires : goal.unreachable-requires
unreachable-requires g c =
    let seat = c.args.seat.now in let mid = c.change_by-seen.new.seat in let z = setup_of g.M.Medium.sight c.args.events.now.key in let x = c.change_slot in
    let took : Took g.M.Medium.sight c.args.events.now.key seat.me mid.me = rw (eq-eqb c.change_by-seen.result 0 c.if-seen-ne0.false) at c.change_by-seen.ensures.then.1 in
    home_or_empty took.home (same_front mid.me.1 seat.me.1 (rest mid.me.1) (back_slot z) c.box_count-slot.result (Home took.home) x.result took.slots x.ensures.was ∙ c.in-Empty.is)

pub unreachable-requires-in-Record : goal.unreachable-requires-in-Record
unreachable-requires-in-Record g c =
    let seat = c.args.seat.now in let mid = c.change_by-seen.new.seat in let z = setup_of g.M.Medium.sight c.args.events.now.key in let x = c.change_slot in
    let took : Took g.M.Medium.sight c.args.events.now.key seat.me mid.me = rw (eq-eqb c.change_by-seen.result 0 c.if-seen-ne0.false) at c.change_by-seen.ensures.then.1 in
    home_or_record took.home _ (same_front mid.me.1 seat.me.1 (rest mid.me.1) (back_slot z) c.box_count-slot.result (Home took.home) x.result took.slots x.ensures.was ∙ c.in-Record.is)

pub returns-clause-ok : goal.returns-clause-ok
returns-clause-ok g c =
    let e = c.box_count-slot.ensures in let x = c.change_by-seen in let mid = x.new.seat in let z = setup_of g.M.Medium.sight c.args.events.now.key in let r = c.requires in let y = c.change_slot in
    let took : Took g.M.Medium.sight c.args.events.now.key c.args.seat.now.me mid.me = rw (eq-eqb x.result 0 c.if-seen-ne0.false) at x.ensures.then.1 in
    let is_slot : c.box_count-slot.result ≡ back_slot z = e.count ∙ ap (λ (y : Setup). y.threads * y.boxes) e.setup in
    has_taken g.M.Medium.sight c.args.events.now c.args.seat.now mid y.new.seat x.result c.box_count-slot.result c.in-Home.home r.seat e.setup r.may.live r.may.threaded r.bare
    x.ensures.seat.0 x.ensures.then.0 c.if-seen-ne0.false took is_slot y.ensures.seat.0 y.ensures.me c.in-Home.ensures.was
