use Rattle.std.proofs.Common.{◌<◌, ◌+◌, ◌∙◌, ℕ, refl, sym, ap, subst, arith, get_or}
use Rattle.core_events.specs.Setups.{Setup, box_of}
use Rattle.stm_slots.specs.Opening.{setup_of}
use Rattle.stm_turns.specs.Bundles.{MayLook, SteppedWith}
use Rattle.stm_turns.proofs.Gatherings.{alike_next}
use Rattle.stm_turns.proofs.NextRecords.{ahead_inside, alike, found_front, found_on, joined_with, last_of, looked_with, may_look, put_with}
use Rattle.stm_turns.specs.Gathered.{BeginsAlike}
use Rattle.stm_turns.proofs.gathers.join.Goals as goal

pub look_for-requires : goal.look_for-requires
look_for-requires g c =
    let t = c.args.events.now in let w = c.requires.with in let sight = g.M.Medium.sight in
    let inside : c.args.thread < (setup_of sight t.key).threads = rw w.turn.setup at c.requires.thread in
    record { look = subst (λ (n : ℕ). MayLook sight t c.args.seat.now c.args.home.now c.args.thread (get_or c.args.gathering.now.ahead c.args.thread 0) (n + 1)) (sym c.last-number.ensures) (may_look sight t c.args.seat.now c.args.home.now c.args.gathering.now w c.args.thread inside) }

pub returns-then-not-look_for-clause-step : goal.returns-then-not-look_for-clause-step
returns-then-not-look_for-clause-step g c =
    let x = c.look_for in
    looked_with g.M.Medium.sight c.args.events.now c.args.seat.now c.args.home.now c.args.gathering.now c.requires.with x.new.seat (x.ensures.missed c.if-not-look_for.true)

pub box_number-requires-clause-place : goal.box_number-requires-clause-place
box_number-requires-clause-place g c =
    let t = c.args.events.now in let w = c.requires.with in let sight = g.M.Medium.sight in
    let inside : c.args.thread < (setup_of sight t.key).threads = rw w.turn.setup at c.requires.thread in
    rw w.turn.setup (ahead_inside sight t c.args.seat.now c.args.home.now c.args.gathering.now w c.args.thread inside)

pub read_record-redo-requires-clause-front : goal.read_record-redo-requires-clause-front
read_record-redo-requires-clause-front g c =
    let t = c.args.events.now in let w = c.requires.with in let sight = g.M.Medium.sight in let x = c.look_for in let q = c.args.gathering.now in let place = get_or q.ahead c.args.thread 0 in
    found_front sight t c.args.seat.now c.args.home.now q w c.args.thread place (c.last-number.result + 1) x.new.seat (x.ensures.found c.if-not-look_for.false w.hand w.turn)
    c.box_number.result (c.box_number.ensures ∙ ap (λ (y : Setup). box_of y c.args.thread place) w.turn.setup)

pub take-requires-clause-place : goal.take-requires-clause-place
take-requires-clause-place g c =
    let t = c.args.events.now in let w = c.requires.with in let sight = g.M.Medium.sight in
    let inside : c.args.thread < (setup_of sight t.key).threads = rw w.turn.setup at c.requires.thread in
    let near = ahead_inside sight t c.args.seat.now c.args.home.now c.args.gathering.now w c.args.thread inside in
    let e = c.boxes.ensures ∙ ap (λ (y : Setup). y.boxes) w.turn.setup in omega arith

pub returns-then-take-clause-step : goal.returns-then-take-clause-step
returns-then-take-clause-step g c =
    let t = c.args.events.now in let w = c.requires.with in let sight = g.M.Medium.sight in let x = c.look_for in let q = c.args.gathering.now in let r = c.read_record-redo in let place = get_or q.ahead c.args.thread 0 in let k = c.take in let e = c.turn.ensures in
    let f = found_on sight t c.args.seat.now c.args.home.now q w c.args.thread place (c.last-number.result + 1) x.new.seat (x.ensures.found c.if-not-look_for.false w.hand w.turn) r.new.seat r.ensures.same.0 r.ensures.same.1 r.ensures.me in
    joined_with sight t c.args.seat.now c.args.home.now q w c.args.thread place (c.last-number.result + 1) r.new.seat f c.turn.new.self c.box_number.result c.cells.result c.boxes.result r.result k.new.self
    e.0 e.1 e.2 (rw (sym r.ensures.me) at r.ensures.was) refl (c.boxes.ensures ∙ ap (λ (y : Setup). y.boxes) w.turn.setup) c.cells.ensures (omega arith) (k.ensures.taken c.if-take.true)

pub returns-then-take-clause-alike : goal.returns-then-take-clause-alike
returns-then-take-clause-alike g c =
    let k = c.take in alike_next (setup_of g.M.Medium.sight c.args.events.now.key) c.args.thread c.cells.result c.boxes.result c.read_record-redo.result c.args.gathering.now k.new.self (k.ensures.taken c.if-take.true)

pub read_record-redo-requires-clause-table : goal.read_record-redo-requires-clause-table
read_record-redo-requires-clause-table g c =
    let w = c.requires.with in let x = c.look_for in
    let f = x.ensures.found c.if-not-look_for.false w.hand w.turn in f.belongs.table

pub put_last-requires : goal.put_last-requires
put_last-requires g c =
    let t = c.args.events.now in let w = c.requires.with in let sight = g.M.Medium.sight in let x = c.look_for in let q = c.args.gathering.now in let r = c.read_record-redo in let place = get_or q.ahead c.args.thread 0 in
    let f = found_on sight t c.args.seat.now c.args.home.now q w c.args.thread place (c.last-number.result + 1) x.new.seat (x.ensures.found c.if-not-look_for.false w.hand w.turn) r.new.seat r.ensures.same.0 r.ensures.same.1 r.ensures.me in
    record { found = last_of sight t c.args.seat.now c.args.home.now q w c.args.thread place (c.last-number.result + 1) r.new.seat f }

pub returns-else-take-clause-step : goal.returns-else-take-clause-step
returns-else-take-clause-step g c =
    let t = c.args.events.now in let w = c.requires.with in let sight = g.M.Medium.sight in let x = c.look_for in let q = c.args.gathering.now in let r = c.read_record-redo in let place = get_or q.ahead c.args.thread 0 in let y = c.put_last in
    let f = found_on sight t c.args.seat.now c.args.home.now q w c.args.thread place (c.last-number.result + 1) x.new.seat (x.ensures.found c.if-not-look_for.false w.hand w.turn) r.new.seat r.ensures.same.0 r.ensures.same.1 r.ensures.me in
    subst (SteppedWith sight t c.args.seat.now y.new.seat c.args.home.now) (sym (c.take.ensures.stays c.if-take.false))
    (put_with sight t c.args.seat.now c.args.home.now q w y.new.seat (y.ensures.step c.args.seat.now w.hand (c.last-number.result + 1) f))

pub returns-else-take-clause-alike : goal.returns-else-take-clause-alike
returns-else-take-clause-alike g c = subst (BeginsAlike c.args.gathering.now) (sym (c.take.ensures.stays c.if-take.false)) (alike c.args.gathering.now)
