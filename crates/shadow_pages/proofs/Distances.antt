-- Every frame is at some distance from the hand.
use Rattle.std.proofs.Common.{◌≡◌, ℕ, ◌+◌, ◌-◌, ◌%◌, ◌<◌, ◌∙◌, length, Some, None, slice_get, ap, sym, subst, arith, ⊎_elim}
use Rattle.std.proofs.Math.Nat.{mod-eq_of_lt, add-mod_right}
use Rattle.std.proofs.lemmas.Bool.{cases_lt}
use Rattle.std.proofs.lemmas.Option.{slice_get_within, same_Some, none-some}
use Rattle.shadow_pages.specs.PageMap.{PageMap, IsFree, IsOccupied, frame_at}

-- the frame is at this distance from the hand
pub record IsAt (hand frames frame : ℕ) : Type 0 where
  pub distance : ℕ
  pub below : distance < frames
  pub is : (hand + distance) % frames ≡ frame

pub some_distance : (hand frames frame : ℕ) → hand < frames → frame < frames → IsAt hand frames frame
some_distance hand frames frame in_range inside =
    ⊎_elim
    (λ before.
    let again : hand + (frame + frames - hand) ≡ frame + frames = omega arith in
    record {
      distance = frame + frames - hand;
      below = omega arith;
      is = ap (λ n. n % frames) again ∙ (add-mod_right frame frames ∙ mod-eq_of_lt inside);
    })
    (λ behind.
    let again : hand + (frame - hand) ≡ frame = omega arith in
    record { distance = frame - hand; below = omega arith; is = ap (λ n. n % frames) again ∙ mod-eq_of_lt inside })
    (cases_lt frame hand)

pub none_occupied : (map : PageMap) → map.hand < length map.frames →
    ((lesser : ℕ) → lesser < length map.frames → IsFree map (frame_at map lesser)) → ¬ IsOccupied map
none_occupied map in_range free occupied =
    let inside = slice_get_within map.frames occupied.frame (Some occupied.page) occupied.holds in
    let at = some_distance map.hand (length map.frames) occupied.frame in_range inside in
    let empty : slice_get map.frames occupied.frame ≡ Some None = subst (λ f. slice_get map.frames f ≡ Some None) at.is (free at.distance at.below) in
    none-some occupied.page (same_Some _ _ (sym empty ∙ occupied.holds))
