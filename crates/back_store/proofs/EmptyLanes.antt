-- Lanes without records.
use Rattle.std.proofs.Common.{◌≡◌, ℕ, ◌*◌, ◌<◌, ◌≤◌, List, [], All, length, map, get_or, refl, subst, arith}
use Rattle.std.specs.List.{Contains, range_with_len}
use Rattle.std.proofs.lemmas.List.Elements.{All-nil}
use Rattle.std.proofs.lemmas.List.FromFn.{length-map-range_with_len, get_or-map-range_with_len}
use Rattle.dude_base.specs.declared.limits.TheConstants.{MAX_NUMBER}
use Rattle.dude_base.specs.declared.sizes.Sizes.{Sizes}
use Rattle.dude_base.specs.Records.{RedoBundle, HasNumbers, first_of}
use Rattle.dude_base.specs.Sizes.{IsAccepted}
use Rattle.redo_record.specs.Waiting.{Waiting}
use Rattle.redo_record.proofs.WaitingRecords.{waiting_law}
use Rattle.back_store.specs.Lane.{LaneState, empty_lane}
use Rattle.back_store.specs.Lanes.{no_lane, waiting_of}
use Rattle.back_store.specs.Backlog.{IsLawful}
use Rattle.back_store.proofs.WaitingLanes.{waits_in}

no_element : (r : RedoBundle) → Contains [] r → ⊥
no_element r (k, lt, is) = absurd (omega arith)

module _ (s : Sizes) where
  abbrev pub empty_lanes : List LaneState
  empty_lanes = map (empty_lane s) (range_with_len 0 s.rings)

  long : length empty_lanes ≡ s.rings
  long = length-map-range_with_len (empty_lane s) 0 s.rings

  pub lane_empty : (k : ℕ) (d : LaneState) → k < s.rings → get_or empty_lanes k d ≡ empty_lane s k
  lane_empty k d lt = get_or-map-range_with_len (empty_lane s) 0 s.rings k k d lt (omega arith)

  pub none_waiting : (w : Waiting) → Contains (waiting_of empty_lanes) w → ⊥
  none_waiting w among =
      let at = waits_in 0 empty_lanes w among in
      let here : Contains [] w.redo = subst (λ (v : LaneState). Contains v.waiting w.redo) (lane_empty at.lane no_lane (let lt = at.within in omega (arith, long))) (at.among no_lane) in
      no_element w.redo here

  pub empty_lawful : (number : ℕ) → IsAccepted s → number ≤ MAX_NUMBER → IsLawful (record { sizes = s; lanes = empty_lanes; durable = number; reproduced = number })
  empty_lawful number accepted small = record {
    accepted = accepted;
    lanes = record {
      count = long;
      each = λ k d lt. rw (lane_empty k d (omega (arith, long))) (record {
        sizes = refl;
        ring_is = refl;
        used = omega arith;
        numbers = All-nil HasNumbers;
        home = All-nil (λ (r : RedoBundle). All (λ w. w.at < s.pages * 64) r.writes);
      });
      distinct = λ v w number one other covers too. absurd (none_waiting v one);
    };
    over = λ k d lt. rw (lane_empty k d (omega (arith, long))) (All-nil (λ (r : RedoBundle). number < first_of r));
    led = record { records = []; lead = waiting_law.here (waiting_of empty_lanes) number };
    small = small;
  }
