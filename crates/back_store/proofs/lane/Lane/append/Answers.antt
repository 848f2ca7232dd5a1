use Rattle.std.proofs.Common.{◌≡◌, ◌≢◌, ◌-◌, ◌<◌, ◌≤◌, ◌++◌, [], ◌∷◌, ◌∙◌, ℕ, true, false, List, is_ok, All, length, get_or, sym, ap, subst, arith}
use Rattle.std.specs.Vec.{with_items}
use Rattle.std.proofs.lemmas.List.{with_items_is}
use Rattle.dude_base.specs.declared.sizes.Sizes.{Sizes}
use Rattle.dude_base.specs.declared.write.Write.{Write}
use Rattle.dude_base.specs.Records.{RedoBundle, first_of}
use Rattle.redo_record.specs.AppendLaw.{CanAppend}
use Rattle.redo_record.specs.Fits.{cells_used}
use Rattle.redo_record.specs.Record.{cells_for}
use Rattle.log_ring.specs.Ring.{RingState, next_head, with_record}
use Rattle.log_ring.specs.Appends.{IsOverfull}
use Rattle.back_store.specs.declared.entry.Entry.{Entry}
use Rattle.back_store.specs.declared.lane.Lane.TheInside.{Inside}
use Rattle.back_store.specs.Entries.{write_place, writes_in}
use Rattle.back_store.specs.KeptLane.{waiting_in_lane, IsKeptLane}
use Rattle.back_store.specs.Lane.{CanTake}
use Rattle.back_store.proofs.LaneRecords.{used_same, newest_logged, length-used, room_left}
use Rattle.back_store.proofs.KeptLanes.{extents_kept, length_waiting, lane_more, waiting_more}
use Rattle.back_store.proofs.lane.Lane.append.Given as given
use Rattle.back_store.proofs.lane.Lane.append.Goals as goal

pub append-outcome-requires-clause-may : goal.append-outcome-requires-clause-may
append-outcome-requires-clause-may g c =
    let may = c.requires.may in
    record {
      numbers = may.numbers;
      newest = newest_logged (first_of c.args.r.now) c.self.inside.ring.logged (waiting_in_lane c.self.inside) (extents_kept c.self.inside c.self.invariant) (rw (← c.self.view_is) at may.newest);
      home = rw (← c.self.view_is) at may.home;
    }

pub overflow_cast-last : goal.overflow_cast-last
overflow_cast-last g c =
    let bundle = c.len-count.ensures.bundle in
    let most = bundle.span_is in
    let first_is = bundle.first_is in
    omega (arith, c.last-then-is_ok.ensures, c.first.ensures)

pub push_reserved-requires : goal.push_reserved-requires
push_reserved-requires g c =
    let a = c.self.inside in
    let few = length-used (waiting_in_lane a) in
    let used = used_same a.ring.logged (waiting_in_lane a) (extents_kept a c.self.invariant) in
    let room = room_left c.append-outcome.result a.ring.sizes.cells (cells_used a.ring.logged) (cells_for (length c.args.r.now.writes)) (sym c.is_ok.ensures.value ∙ c.if-is_ok.true) c.append-outcome.ensures.cause.full_is in
    let some : 1 ≤ cells_for (length c.args.r.now.writes) = omega arith in
    omega (arith, c.self.invariant.room, length_waiting a, a.entries.ok)

ring_after : (g : given.Over) (c : goal.After-push_reserved g) → c.append-outcome.new.self ≡ with_record c.args.r.now c.self.inside.ring
ring_after g c =
    let ok : is_ok c.append-outcome.result ≡ true = sym c.is_ok.ensures.value ∙ c.if-is_ok.true in
    rw ok at c.append-outcome.ensures.ring

abbrev after : (g : given.Over) → goal.After-push_reserved g → Inside
after g c = record { ring = c.append-outcome.new.self; entries = c.push_reserved.new.self; writes = with_items c.self.inside.writes c.put_writes.new.writes }

-- the lane keeps one bundle more
more : (g : given.Over) (c : goal.After-push_reserved g) → (waiting_in_lane (after g c) ≡ waiting_in_lane c.self.inside ++ c.args.r.now ∷ []) × IsKeptLane (after g c)
more g c =
    let a = c.self.inside in
    let r : RedoBundle = c.args.r.now in
    let e : Entry = record { last = c.last.result; span = c.last-then-is_ok.result - c.first.result; slot = c.next-slot.result; count = c.len-count.result } in
    let kept : IsKeptLane a = c.self.invariant in
    let cells : c.sizes-cells.result.cells ≡ a.ring.sizes.cells = ap (λ (s : Sizes). s.cells) (c.sizes-cells.ensures.sizes ∙ c.place.ensures.sizes) in
    let slot : c.next-slot.result ≡ a.ring.next = c.next-slot.ensures.next in
    let bundle = c.len-count.ensures.bundle in
    let span : c.last-then-is_ok.result - c.first.result ≡ r.span = (let first_is = bundle.first_is in omega (arith, c.last-then-is_ok.ensures, c.first.ensures)) in
    let is : e ≡ record { last = r.last; span = r.span; slot = a.ring.next; count = length r.writes } =
    ap (λ n. record { last = n; span = c.last-then-is_ok.result - c.first.result; slot = c.next-slot.result; count = c.len-count.result }) c.last.ensures
    ∙ ap (λ n. record { last = r.last; span = n; slot = c.next-slot.result; count = c.len-count.result }) span
    ∙ ap (λ n. record { last = r.last; span = r.span; slot = n; count = c.len-count.result }) slot
    ∙ ap (λ n. record { last = r.last; span = r.span; slot = a.ring.next; count = n }) c.len-count.ensures.len in
    let size : length c.put_writes.new.writes ≡ a.writes.len = omega (arith, c.put_writes.auto.writes, c.deref_mut.ensures.len, a.writes.ok, ap (λ (l : List Write). length l) c.deref_mut.ensures.value) in
    let items : (with_items a.writes c.put_writes.new.writes).items ≡ c.put_writes.new.writes = with_items_is a.writes c.put_writes.new.writes size in
    let long : length (with_items a.writes c.put_writes.new.writes).items ≡ length a.writes.items = ap (λ (l : List Write). length l) items ∙ omega (arith, size, a.writes.ok) in
    let room = room_left c.append-outcome.result a.ring.sizes.cells (cells_used a.ring.logged) (cells_for (length r.writes)) (sym c.is_ok.ensures.value ∙ c.if-is_ok.true) c.append-outcome.ensures.cause.full_is in
    let can = c.append-outcome.ensures.safe.can 0 (λ over. let le = room in omega arith) in
    let own : writes_in a.ring.sizes.cells (with_items a.writes c.put_writes.new.writes).items a.ring.next (length r.writes) ≡ r.writes =
    subst (λ (l : List Write). writes_in a.ring.sizes.cells l a.ring.next (length r.writes) ≡ r.writes) (sym items)
    (subst (λ n. writes_in a.ring.sizes.cells c.put_writes.new.writes n (length r.writes) ≡ r.writes) slot (subst (λ n. writes_in n c.put_writes.new.writes c.next-slot.result (length r.writes) ≡ r.writes) cells c.put_writes.ensures.own)) in
    let others : (at : ℕ) (d : Write) → ((i : ℕ) → i < length r.writes → at ≢ write_place a.ring.sizes.cells a.ring.next i) → get_or (with_items a.writes c.put_writes.new.writes).items at d ≡ get_or a.writes.items at d =
    λ at d apart. ap (λ (l : List Write). get_or l at d) items
    ∙ c.put_writes.ensures.others at d (λ i lt same. apart i lt (same ∙ ap (λ n. write_place n c.next-slot.result i) cells ∙ ap (λ n. write_place a.ring.sizes.cells n i) slot))
    ∙ ap (λ (l : List Write). get_or l at d) c.deref_mut.ensures.value in
    let low = c.requires.may.numbers.low in
    let next : a.ring.next < a.ring.sizes.cells = (let lt = c.next-slot.ensures.inside in omega (arith, slot)) in
    let newest : All (λ (q : RedoBundle). q.last < first_of r) (waiting_in_lane a) = rw (← c.self.view_is) at c.requires.may.newest in (
      waiting_more a (after g c) kept r e bundle (omega arith) newest next is (ring_after g c) c.push_reserved.ensures.items c.push_reserved.ensures.capacity long can.free own others,
      lane_more a (after g c) kept r e bundle (omega arith) newest next is (ring_after g c) c.push_reserved.ensures.items c.push_reserved.ensures.capacity long can.free own others,
    )

pub invariant_of-self : goal.invariant_of-self
invariant_of-self g c = (more g c).1

pub invariant_of-self-else-is_ok : goal.invariant_of-self-else-is_ok
invariant_of-self-else-is_ok g c =
    let ok : is_ok c.append-outcome.result ≡ false = sym c.is_ok.ensures.value ∙ c.if-is_ok.false in
    let ring : c.append-outcome.new.self ≡ c.self.inside.ring = rw ok at c.append-outcome.ensures.ring in
    subst (λ (v : RingState). IsKeptLane (record { ring = v; entries = c.self.inside.entries; writes = c.self.inside.writes })) (sym ring) c.self.invariant

pub returns-then-is_ok-clause-untouched : goal.returns-then-is_ok-clause-untouched
returns-then-is_ok-clause-untouched g c = rw (← c.self.view_is) (rw (used_same c.self.inside.ring.logged (waiting_in_lane c.self.inside) (extents_kept c.self.inside c.self.invariant)) at c.append-outcome.ensures.untouched)

pub returns-then-is_ok-clause-lane : goal.returns-then-is_ok-clause-lane
returns-then-is_ok-clause-lane g c =
    let ok : is_ok c.append-outcome.result ≡ true = sym c.is_ok.ensures.value ∙ c.if-is_ok.true in
    let a = c.self.inside in
    rw (ok, ← c.self.view_is) (ap (λ (v : RingState). record { ring = v; waiting = waiting_in_lane (after g c) }) (ring_after g c)
    ∙ ap (λ (rs : List RedoBundle). record { ring = with_record c.args.r.now a.ring; waiting = rs }) (more g c).0)

pub returns-else-is_ok-clause-untouched : goal.returns-else-is_ok-clause-untouched
returns-else-is_ok-clause-untouched g c = rw (← c.self.view_is) (rw (used_same c.self.inside.ring.logged (waiting_in_lane c.self.inside) (extents_kept c.self.inside c.self.invariant)) at c.append-outcome.ensures.untouched)

pub returns-then-is_ok-clause-cause : goal.returns-then-is_ok-clause-cause
returns-then-is_ok-clause-cause g c = rw (← c.self.view_is) (rw (used_same c.self.inside.ring.logged (waiting_in_lane c.self.inside) (extents_kept c.self.inside c.self.invariant)) at c.append-outcome.ensures.cause)

-- the ring of a lane whose ring takes a record
can_take : (a : Inside) (r : RedoBundle) → IsKeptLane a → ((mark : ℕ) → (IsOverfull a.ring r → ⊥) → CanAppend a.ring.sizes mark a.ring.logged (next_head a.ring) r)
    → All (λ (q : RedoBundle). q.last < first_of r) (waiting_in_lane a) → CanTake (record { ring = a.ring; waiting = waiting_in_lane a }) r
can_take a r kept can newest = record {
  room = rw (used_same a.ring.logged (waiting_in_lane a) (extents_kept a kept)) at can;
  over = newest_logged (first_of r) a.ring.logged (waiting_in_lane a) (extents_kept a kept) newest;
}

pub returns-then-is_ok-clause-can : goal.returns-then-is_ok-clause-can
returns-then-is_ok-clause-can g c = rw (← c.self.view_is) (can_take c.self.inside c.args.r.now c.self.invariant c.append-outcome.ensures.safe.can (rw (← c.self.view_is) at c.requires.may.newest))

pub returns-else-is_ok-clause-cause : goal.returns-else-is_ok-clause-cause
returns-else-is_ok-clause-cause g c = rw (← c.self.view_is) (rw (used_same c.self.inside.ring.logged (waiting_in_lane c.self.inside) (extents_kept c.self.inside c.self.invariant)) at c.append-outcome.ensures.cause)

pub returns-else-is_ok-clause-can : goal.returns-else-is_ok-clause-can
returns-else-is_ok-clause-can g c = rw (← c.self.view_is) (can_take c.self.inside c.args.r.now c.self.invariant c.append-outcome.ensures.safe.can (rw (← c.self.view_is) at c.requires.may.newest))
