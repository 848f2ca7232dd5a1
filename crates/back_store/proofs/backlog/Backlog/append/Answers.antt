use Rattle.std.proofs.Common.{◌≡◌, ◌<◌, is_ok, ◌∙◌, arith}
use Rattle.std.proofs.lemmas.List.{get_or_default}
use Rattle.back_store.specs.Lane.{IsLaneFull, full_lane}
use Rattle.back_store.specs.Lanes.{lane_at, no_lane}
use Rattle.back_store.specs.KeptBacklog.{backlog_state}
use Rattle.back_store.proofs.AddedRecords.{can_persist, lawful_after, ok_not_full}
use Rattle.back_store.proofs.backlog.Backlog.append.Given.{Over}
use Rattle.back_store.proofs.backlog.Backlog.append.Goals as goal

below : (g : Over) (c : goal.After-self-1 g) → c.args.ring < c.self.inside.place.rings
below g c = rw (← c.self.view_is) at c.requires.may.exists

-- the lane that the record is appended to
lane : (g : Over) (c : goal.After-self-1 g) → c.index_mut-lane.result.now ≡ lane_at c.self.inside.lanes.items c.args.ring
lane g c =
    let rings = below g c in
    let count = c.self.invariant.lawful.lanes.count in
    c.index_mut-lane.ensures.value ∙ get_or_default c.self.inside.lanes.items c.args.ring c.index_mut-lane.result.now no_lane (omega arith)

pub invariant_of-self : goal.invariant_of-self
invariant_of-self g c = record {
  lawful = lawful_after (backlog_state c.self.inside) c.args.ring c.args.r.now (is_ok c.append.result) c.append.new.self c.self.invariant.lawful (below g c)
      (λ ok. ok_not_full c.append.result (full_lane (lane_at c.self.inside.lanes.items c.args.ring) c.args.r.now) (IsLaneFull (lane_at c.self.inside.lanes.items c.args.ring) c.args.r.now) ok (rw (lane g c) at c.append.ensures.cause.full_is))
      c.requires.may.numbers (rw (← c.self.view_is) at c.requires.may.home) (rw (← c.self.view_is) at c.requires.may.new) (rw (← c.self.view_is) at c.requires.may.over) (rw (lane g c) at c.append.ensures.lane);
  group = c.self.invariant.group;
}

pub returns-clause-can : goal.returns-clause-can
returns-clause-can g c home left =
    rw (← c.self.view_is) (can_persist (backlog_state c.self.inside) c.args.ring c.args.r.now home c.self.invariant.lawful (below g c)
    ((rw (lane g c) at c.append.ensures.can.room) c.self.inside.reproduced (rw (← c.self.view_is) at left)) (rw (lane g c) at c.append.ensures.can.over) (rw (← c.self.view_is) at c.requires.may.over) (rw (← c.self.view_is) at c.requires.may.new))
