-- The home of a medium at rest is what reads give.
use Rattle.std.proofs.Common.{◌≡◌, ℕ, ◌+◌, ◌*◌, ◌≤◌, IsTrue, List, [], ◌∷◌, length, map, refl, sym, ap, ◌∙◌, subst, arith}
use Rattle.std.specs.List.{range_with_len}
use Rattle.std.proofs.lemmas.List.{ext_get_or}
use Rattle.std.proofs.lemmas.List.FromFn.{length-map-range_with_len, get_or-map-range_with_len}
use Rattle.dude_base.specs.declared.limits.TheConstants.{MAX_NUMBER, VERSION}
use Rattle.dude_base.specs.declared.sizes.Sizes.{Sizes}
use Rattle.dude_base.specs.Sizes.{IsAccepted}
use Rattle.dude_base.specs.Image.{home_word}
use Rattle.pmem_trait.specs.Words.{State, value_of}
use Rattle.pmem_trait.specs.Sights.{Sight, state_now}
use Rattle.redo_record.specs.LogState.{HoldsLog}
use Rattle.redo_record.specs.Rest.{RestsAt}
use Rattle.redo_record.proofs.HeldLog.{empty_log_law}
use Rattle.back_store.specs.Lane.{LaneState, empty_lane}
use Rattle.back_store.specs.Lanes.{no_lane, rings_of, waiting_from}
use Rattle.back_store.proofs.EmptyLanes.{lane_empty}
use Rattle.back_store.specs.Back.{home_now, idle}
use Rattle.back_store.specs.Images.{IsIdleMedium, HoldsStore}

-- the home of a state, as reads give it
abbrev pub home_in : Sizes → State → List ℕ
home_in s p = map (λ i. value_of (p.word (home_word s i))) (range_with_len 0 (s.pages * 64))

pub home_is : (version : ℕ) (s : Sizes) (number : ℕ) (home : List ℕ) (p : State) → RestsAt version s number home p → home_in s p ≡ home
home_is version s number home p rest =
    let f : ℕ → ℕ = λ i. value_of (p.word (home_word s i)) in
    let long : length (home_in s p) ≡ s.pages * 64 = length-map-range_with_len f 0 (s.pages * 64) in
    ext_get_or 0 (home_in s p) home (long ∙ sym rest.count) (λ i lt.
    get_or-map-range_with_len f 0 (s.pages * 64) i i 0 (omega arith) (omega arith) ∙ ap value_of (rest.words i (let count = rest.count in omega arith)))

-- nothing waits in lanes without records
pub none_in_empty : (s : Sizes) (ring : ℕ) (rings : List ℕ) → waiting_from ring (map (empty_lane s) rings) ≡ []
none_in_empty s ring [] = refl
none_in_empty s ring (r ∷ rings) = none_in_empty s (ring + 1) rings

-- A medium at rest is that of a back where nothing waits.
pub idle_keeps : (before : ℕ) (s : Sizes) (number : ℕ) (home : List ℕ) (t : Sight) → IsAccepted s → number ≤ MAX_NUMBER → (IsTrue t.is_visible → IsIdleMedium before s number home (state_now t)) → HoldsStore before (idle s number) t
idle_keeps before s number home t accepted small idle_medium = record {
  holds = λ alive told.
      let medium = idle_medium told in
      let same : home ≡ home_now s t = sym (home_is VERSION s number home (state_now t) medium.rest) in
      let none : [] ≡ waiting_from 0 (map (empty_lane s) (range_with_len 0 s.rings)) = sym (none_in_empty s 0 (range_with_len 0 s.rings)) in
      subst (λ waiting. HoldsLog (record { sizes = s; reproduced = number; home = home_now s t; rings = rings_of (map (empty_lane s) (range_with_len 0 s.rings)); waiting = waiting }) (state_now t)) none
      (empty_log_law s number (home_now s t) (rings_of (map (empty_lane s) (range_with_len 0 s.rings))) (state_now t) accepted small (subst (λ h. RestsAt VERSION s number h (state_now t)) same medium.rest) medium.heads
      (λ ring lt. ap (λ (v : LaneState). record { logged = v.ring.logged; released = v.ring.released }) (lane_empty s ring no_lane lt)));
  told = λ alive told. (idle_medium told).told;
}
