use Rattle.std.proofs.Common.{◌≡◌, ◌∙◌, ◌+◌, sym, ap, subst, arith, get_or, set, ℕ}
use Rattle.core_events.specs.Setups.{Setup}
use Rattle.stm_slots.specs.Opening.{setup_of}
use Rattle.stm_slots.specs.Queues.{place_at}
use Rattle.stm_turns.specs.Bundles.{HasPutBack}
use Rattle.stm_turns.specs.Turns.{place_after}
use Rattle.stm_turns.proofs.LettingGo.{begins_putting, may_put_next, next_inside, put_next, put_all}
use Rattle.stm_turns.proofs.Seats.{may_put_first, puts_first}
use Rattle.stm_turns.proofs.letting.put_all_back.Goals as goal

pub loop-number-init : goal.loop-number-init
loop-number-init g c =
    let q = c.requires.may in let e = c.turn.ensures in
    record { left = (q.hand, q.threads, begins_putting g.M.Medium.sight c.args.events.now c.args.seat.now c.turn.new.self c.args.home.now q.hand e.0 e.1 e.2 c.args.home.now.next q.may) }

pub box_place-at-requires-clause-thread : goal.box_place-at-requires-clause-thread
box_place-at-requires-clause-thread g c =
    let l = c.loop-number in let v = l.invariant.left in let q = c.args.gathering.now in
    rw c.requires.may.may.letting.setup ((next_inside g.M.Medium.sight c.args.events.now c.args.seat.now l.seat c.args.home.now q.threads q.count l.number l.places v.0 v.1 (omega arith) v.2).0)

pub box_place-at-requires-clause-place : goal.box_place-at-requires-clause-place
box_place-at-requires-clause-place g c =
    let l = c.loop-number in let v = l.invariant.left in let q = c.args.gathering.now in
    rw c.requires.may.may.letting.setup ((next_inside g.M.Medium.sight c.args.events.now c.args.seat.now l.seat c.args.home.now q.threads q.count l.number l.places v.0 v.1 (omega arith) v.2).1)

pub load_by-requires-clause-may : goal.load_by-requires-clause-may
load_by-requires-clause-may g c =
    let l = c.loop-number in let v = l.invariant.left in let q = c.args.gathering.now in let thread = get_or q.threads l.number 0 in
    may_put_first g.M.Medium.sight c.args.events.now l.seat c.args.home.now thread (get_or l.places thread 0)
    (may_put_next g.M.Medium.sight c.args.events.now c.args.seat.now l.seat c.args.home.now q.threads q.count l.number l.places v.0 v.1 (omega arith) v.2)

pub bounds-places-thread : goal.bounds-places-thread
bounds-places-thread g c =
    let l = c.loop-number in let v = l.invariant.left in let q = c.args.gathering.now in
    let lt = (next_inside g.M.Medium.sight c.args.events.now c.args.seat.now l.seat c.args.home.now q.threads q.count l.number l.places v.0 v.1 (omega arith) v.2).0 in
    let wide = c.requires.may.may.letting.holding.wide in omega arith

pub offset_bounds-places-thread : goal.offset_bounds-places-thread
offset_bounds-places-thread g c =
    let l = c.loop-number in let v = l.invariant.left in let q = c.args.gathering.now in
    let lt = (next_inside g.M.Medium.sight c.args.events.now c.args.seat.now l.seat c.args.home.now q.threads q.count l.number l.places v.0 v.1 (omega arith) v.2).0 in
    let wide = c.requires.may.may.letting.holding.wide in omega arith

pub next_place-requires : goal.next_place-requires
next_place-requires g c =
    let l = c.loop-number in let v = l.invariant.left in let q = c.args.gathering.now in
    let lt = (next_inside g.M.Medium.sight c.args.events.now c.args.seat.now l.seat c.args.home.now q.threads q.count l.number l.places v.0 v.1 (omega arith) v.2).1 in
    let e = c.boxes.ensures ∙ ap (λ (y : Setup). y.boxes) c.requires.may.may.letting.setup in omega arith

pub offset_bounds-places-thread-in-loop-number : goal.offset_bounds-places-thread-in-loop-number
offset_bounds-places-thread-in-loop-number g c =
    let l = c.loop-number in let v = l.invariant.left in let q = c.args.gathering.now in
    let lt = (next_inside g.M.Medium.sight c.args.events.now c.args.seat.now l.seat c.args.home.now q.threads q.count l.number l.places v.0 v.1 (omega arith) v.2).0 in
    let wide = c.requires.may.may.letting.holding.wide in omega arith

pub bounds-places-thread-in-loop-number : goal.bounds-places-thread-in-loop-number
bounds-places-thread-in-loop-number g c =
    let l = c.loop-number in let v = l.invariant.left in let q = c.args.gathering.now in
    let lt = (next_inside g.M.Medium.sight c.args.events.now c.args.seat.now l.seat c.args.home.now q.threads q.count l.number l.places v.0 v.1 (omega arith) v.2).0 in
    let wide = c.requires.may.may.letting.holding.wide in omega arith

pub loop-number-preserved : goal.loop-number-preserved
loop-number-preserved g c =
    let t = c.args.events.now in let l = c.loop-number in let v = l.invariant.left in let q = c.args.gathering.now in let x = c.load_by in let sight = g.M.Medium.sight in let h = c.args.home.now in
    let thread = get_or q.threads l.number 0 in let place = get_or l.places thread 0 in
    let n = put_next sight t c.args.seat.now l.seat h q.threads q.count l.number l.places x.new.seat v.0 v.1 (omega arith) v.2
    (λ first left places may thread_is place_is. puts_first sight t l.seat h first left thread place x.new.seat places x.result may thread_is place_is x.ensures.then x.ensures.seat.0 x.ensures.seat.1) in
    let after : place_at (setup_of sight t.key) place 1 ≡ c.next_place.result = sym (c.next_place.ensures ∙ ap (λ b. place_after b place) (c.boxes.ensures ∙ ap (λ (y : Setup). y.boxes) c.requires.may.may.letting.setup)) in
    record { left = (n.0, n.1, subst (λ (d : ℕ). HasPutBack sight t (l.number + 1) c.args.seat.now x.new.seat h (set l.places thread d) n.0) after n.2) }

pub returns : goal.returns
returns g c =
    let l = c.loop-number in let v = l.invariant.left in let q = c.args.gathering.now in
    record { step = put_all g.M.Medium.sight c.args.events.now c.args.seat.now l.seat c.args.home.now q.threads q.count l.number l.places v.0 v.1 (omega arith) c.requires.may.some v.2 }
