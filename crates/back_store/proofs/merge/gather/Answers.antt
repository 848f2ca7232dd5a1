use Rattle.std.proofs.Common.{◌≡◌, ◌+◌, ◌*◌, ◌≤◌, ◌++◌, [], ◌∷◌, List, ◌∙◌, length, get_or, set, sym, ap, subst, arith, length-append, length-set}
use Rattle.std.proofs.lemmas.List.Elements.{All-nil, All-push}
use Rattle.std.proofs.lemmas.Option.{get_or_from_slice_get}
use Rattle.dude_base.specs.declared.write.Write.{Write}
use Rattle.dude_base.specs.Records.{RedoBundle}
use Rattle.dude_base.specs.Writes.{HasDistinctPlaces}
use Rattle.redo_record.specs.Waiting.{Lead}
use Rattle.redo_record.proofs.WaitingRecords.{waiting_law}
use Rattle.group_combine.specs.Group.{GroupState}
use Rattle.group_combine.proofs.LastWrites.{writes_more}
use Rattle.back_store.specs.Lane.{LaneState}
use Rattle.back_store.specs.Lanes.{no_lane, waiting_of}
use Rattle.back_store.specs.HomeGroup.{AreLedWrites}
use Rattle.back_store.proofs.Merging.{front_is, front_of, no_record, at_front, fronts_next, taken_last, taken_leads, taken_room, front_small, few_rings, writes_next, no_further, led_up}
use Rattle.back_store.proofs.TakenCells.{taken_cells}
use Rattle.back_store.proofs.merge.gather.Goals as goal

-- with the next record there are at most three writes for each cell taken
next_few : (c : goal.After-take_writes-arg-1) → length c.merge.group.taken + length (front_of c.index-lanes-k.result c.merge.fronts c.in-Some.k).writes ≤ 3 * taken_cells 0 c.args.lanes.now (set c.merge.fronts c.in-Some.k (get_or c.merge.fronts c.in-Some.k 0 + 1))
next_few c =
    let r : RedoBundle = (front_of c.index-lanes-k.result c.merge.fronts c.in-Some.k) in
    writes_next c.args.place.now c.sizes-sizes.ensures.accepted c.args.lanes.now c.requires.lanes c.merge.fronts (c.merge.end + 1) c.in-Some.k (length c.merge.group.taken) no_lane r c.merge.invariant.len c.in-Some.ensures.some
    (at_front c.args.lanes.now c.in-Some.k (get_or c.merge.fronts c.in-Some.k 0) c.index-lanes-k.result r c.in-Some.ensures.some.0 c.index-lanes-k.is (front_is c.args.lanes.now c.merge.fronts (c.merge.end + 1) c.in-Some.k c.index-lanes-k.result c.in-Some.ensures.some c.index-lanes-k.is) no_lane r) c.merge.invariant.few

pub take_writes-requires-clause-room : goal.take_writes-requires-clause-room
take_writes-requires-clause-room c d =
    let r : RedoBundle = (front_of c.index-lanes-k.result c.merge.fronts c.in-Some.k) in
    let own : length (get_or c.index-lanes-k.result.waiting (get_or c.merge.fronts c.in-Some.k 0) d).writes ≡ length r.writes =
    ap (λ (b : RedoBundle). length b.writes) (get_or_from_slice_get c.index-lanes-k.result.waiting (get_or c.merge.fronts c.in-Some.k 0) r d (front_is c.args.lanes.now c.merge.fronts (c.merge.end + 1) c.in-Some.k c.index-lanes-k.result c.in-Some.ensures.some c.index-lanes-k.is)) in
    let few = next_few c in
    let most = taken_room c.args.place.now c.sizes-sizes.ensures.accepted c.args.lanes.now c.requires.lanes (set c.merge.fronts c.in-Some.k (get_or c.merge.fronts c.in-Some.k 0 + 1)) in
    let room : c.merge.group.room ≡ c.args.group.now.room = c.merge.invariant.room in
    omega (arith, own, c.requires.room)

pub overflow_add-fronts : goal.overflow_add-fronts
overflow_add-fronts c = let small = front_small c.args.place.now c.sizes-sizes.ensures.accepted c.args.lanes.now c.requires.lanes c.merge.fronts (c.merge.end + 1) c.in-Some.k c.in-Some.ensures.some in omega arith

pub unreachable-requires : goal.unreachable-requires
unreachable-requires c =
    let below = c.merge-test.true in
    let led = c.merge.invariant.led in
    let le = no_further c.args.lanes.now c.args.from c.args.to c.merge.end c.requires.lanes.distinct c.requires.led (record { records = led.records; lead = led.lead }) c.in_default.ensures.none in
    omega arith

pub merge-smaller : goal.merge-smaller
merge-smaller c =
    let both = taken_last c.args.place.now c.sizes-sizes.ensures.accepted c.args.lanes.now c.requires.lanes c.merge.fronts c.merge.end c.in-Some.k c.index-lanes-k.result (front_of c.index-lanes-k.result c.merge.fronts c.in-Some.k) c.in-Some.ensures.some c.index-lanes-k.is (front_is c.args.lanes.now c.merge.fronts (c.merge.end + 1) c.in-Some.k c.index-lanes-k.result c.in-Some.ensures.some c.index-lanes-k.is) in
    let low = both.1 in
    let last = (c.last-end.ensures no_record) in
    let below = c.merge-test.true in
    omega arith

pub merge-init : goal.merge-init
merge-init c =
    let none : c.clear.new.self.taken ≡ [] = ap (λ (s : GroupState). s.taken) c.clear.ensures in
    record {
      len = c.fronts_at-fronts.ensures.len;
      fronts = c.fronts_at-fronts.ensures.fronts;
      led = record {
        records = [];
        lead = waiting_law.here (waiting_of c.args.lanes.now) c.args.from;
        distinct = All-nil (λ (r : RedoBundle). HasDistinctPlaces r.writes);
        all = none;
      };
      few = rw none (omega arith);
      room = ap (λ (s : GroupState). s.room) c.clear.ensures;
      upto = led_up c.args.lanes.now c.args.from c.args.to c.requires.led;
    }

pub merge-preserved : goal.merge-preserved
merge-preserved c =
    let lanes : List LaneState = c.args.lanes.now in
    let r : RedoBundle = (front_of c.index-lanes-k.result c.merge.fronts c.in-Some.k) in
    let led = c.merge.invariant.led in
    let on = taken_leads c.args.lanes.now c.requires.lanes.distinct c.merge.fronts c.args.from c.merge.end c.in-Some.k c.index-lanes-k.result r led.records c.in-Some.ensures.some c.index-lanes-k.is (front_is c.args.lanes.now c.merge.fronts (c.merge.end + 1) c.in-Some.k c.index-lanes-k.result c.in-Some.ensures.some c.index-lanes-k.is) led.lead in
    let is : get_or c.index-lanes-k.result.waiting (get_or c.merge.fronts c.in-Some.k 0) r ≡ r = get_or_from_slice_get c.index-lanes-k.result.waiting (get_or c.merge.fronts c.in-Some.k 0) r r (front_is c.args.lanes.now c.merge.fronts (c.merge.end + 1) c.in-Some.k c.index-lanes-k.result c.in-Some.ensures.some c.index-lanes-k.is) in
    let taken : c.take_writes.new.group.taken ≡ c.merge.group.taken ++ r.writes = c.take_writes.ensures.taken r ∙ ap (λ (b : RedoBundle). c.merge.group.taken ++ b.writes) is in
    let few = next_few c.before in
    record {
      len = length-set c.merge.fronts c.in-Some.k (get_or c.merge.fronts c.in-Some.k 0 + 1) ∙ c.merge.invariant.len;
      fronts = fronts_next c.args.lanes.now c.requires.lanes.distinct c.merge.fronts c.merge.end c.in-Some.k c.last-end.result (let rings = few_rings c.args.place.now c.sizes-sizes.ensures.accepted c.args.lanes.now c.requires.lanes in omega (arith, c.merge.invariant.len)) c.merge.invariant.fronts c.in-Some.ensures.some
          (λ d q. ap (λ (b : RedoBundle). b.last) (at_front c.args.lanes.now c.in-Some.k (get_or c.merge.fronts c.in-Some.k 0) c.index-lanes-k.result (front_of c.index-lanes-k.result c.merge.fronts c.in-Some.k) c.in-Some.ensures.some.0 c.index-lanes-k.is (front_is c.args.lanes.now c.merge.fronts (c.merge.end + 1) c.in-Some.k c.index-lanes-k.result c.in-Some.ensures.some c.index-lanes-k.is) d q) ∙ sym (c.last-end.ensures no_record));
      led = record {
        records = led.records ++ r ∷ [];
        lead = subst (Lead (waiting_of lanes) c.args.from (led.records ++ r ∷ [])) (sym (c.last-end.ensures no_record)) on.0;
        distinct = All-push (λ (r : RedoBundle). HasDistinctPlaces r.writes) led.records r led.distinct (subst (λ (b : RedoBundle). HasDistinctPlaces b.writes) is (c.take_writes.ensures.distinct r));
        all = taken ∙ ap (λ (l : List Write). l ++ r.writes) led.all ∙ writes_more led.records r;
      };
      few = rw taken (omega (arith, length-append c.merge.group.taken r.writes, few));
      room = c.take_writes.ensures.room ∙ c.merge.invariant.room;
      upto = (let upto = on.1 c.args.to c.requires.led.records c.requires.led.lead c.merge-test.true in let last = (c.last-end.ensures no_record) in omega arith);
    }

pub returns-clause-led : goal.returns-clause-led
returns-clause-led c =
    let upto = c.merge.invariant.upto in
    let end = c.merge-test.false in
    let last : c.merge.end ≡ c.args.to = omega arith in
    subst (λ n. AreLedWrites c.args.lanes.now c.args.from n c.merge.group.taken) last c.merge.invariant.led

pub returns-clause-few : goal.returns-clause-few
returns-clause-few c =
    let most = taken_room c.args.place.now c.sizes-sizes.ensures.accepted c.args.lanes.now c.requires.lanes c.merge.fronts in
    let few = c.merge.invariant.few in
    omega arith
