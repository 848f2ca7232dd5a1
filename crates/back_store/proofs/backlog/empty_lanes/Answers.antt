use Rattle.std.proofs.Common.{◌++◌, [], ◌∷◌, ℕ, map, sym, ap, ◌∙◌, arith}
use Rattle.std.specs.List.{range_with_len}
use Rattle.std.proofs.lemmas.List.FromFn.{map-range_with_len_more}
use Rattle.back_store.specs.Lane.{LaneState, empty_lane}
use Rattle.back_store.proofs.backlog.empty_lanes.Goals as goal

pub loop-ring-preserved : goal.loop-ring-preserved
loop-ring-preserved c =
    let k : ℕ = c.loop-ring.ring in
    record {
      lanes = c.push_reserved.ensures.items ∙ ap (λ l. l ++ c.in_ok-new.field-0 ∷ []) c.loop-ring.invariant.lanes ∙ ap (λ (v : LaneState). map (empty_lane c.args.place.now) (range_with_len 0 k) ++ v ∷ []) c.in_ok-new.ensures
          ∙ sym (map-range_with_len_more (empty_lane c.args.place.now) 0 k k (omega arith));
      len = omega (arith, c.push_reserved.ensures.len, c.loop-ring.invariant.len);
      capacity = c.push_reserved.ensures.capacity ∙ c.loop-ring.invariant.capacity;
    }
