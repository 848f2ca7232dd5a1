-- What two lists that say the same say after a change of both, and that they are one to one.
use Rattle.std.proofs.Common.{◌≡◌, ◌≢◌, ℕ, ◌<◌, ◌↔◌, ◌∙◌, List, length, Option, Some, None, slice_get, slice_set, replicate, sym, subst, arith, ⊎_elim, inl, inr, ◌⊎◌, length-set}
use Rattle.std.proofs.lemmas.List.{length-replicate}
use Rattle.std.proofs.lemmas.Bool.{cases_eq}
use Rattle.std.proofs.lemmas.Option.{slice_get_within, same_Some, none-some}
use Rattle.shadow_pages.specs.PageMap.{IsOneToOne}
use Rattle.shadow_pages.specs.Pager.{IsSound}
use Rattle.shadow_pages.proofs.Elements.{set_same, set_other, of_replicate}

-- this list has this value at this place
abbrev pub Has : List (Option ℕ) → ℕ → ℕ → Type 0
Has xs i x = slice_get xs i ≡ Some (Some x)

pub same_value : (xs : List (Option ℕ)) (i x y : ℕ) → Has xs i x → Has xs i y → x ≡ y
same_value xs i x y e h = same_Some x y (same_Some (Some x) (Some y) (sym e ∙ h))

pub not_empty : (xs : List (Option ℕ)) (i x : ℕ) → slice_get xs i ≡ Some None → ¬ Has xs i x
not_empty xs i x e h = none-some x (same_Some None (Some x) (sym e ∙ h))

-- A value is set at i: it is there, or the place is another one and has what it had.
pub set_has : (xs : List (Option ℕ)) (i x j y : ℕ) → i < length xs →
    Has (slice_set xs i (Some x)) j y ↔ (((j ≡ i) × (y ≡ x)) ⊎ ((j ≢ i) × Has xs j y))
set_has xs i x j y inside =
    ⊎_elim
    (λ same.
    let there : Has (slice_set xs i (Some x)) j x = subst (λ k. Has (slice_set xs i (Some x)) k x) (sym same) (set_same xs i (Some x) inside) in (
      (λ h. inl (same, same_value (slice_set xs i (Some x)) j y x h there)),
      (λ which. ⊎_elim (λ is. subst (λ z. Has (slice_set xs i (Some x)) j z) (sym is.1) there) (λ other. absurd (other.0 same)) which),
    ))
    (λ other.
    let kept = set_other xs i j (Some x) other in (
      (λ h. inr (other, sym kept ∙ h)),
      (λ which. ⊎_elim (λ is. absurd (other is.0)) (λ is. kept ∙ is.1) which),
    ))
    (cases_eq j i)

-- The place i is emptied: the others have what they had.
pub unset_has : (xs : List (Option ℕ)) (i j y : ℕ) → i < length xs →
    Has (slice_set xs i None) j y ↔ ((j ≢ i) × Has xs j y)
unset_has xs i j y inside =
    ⊎_elim
    (λ same.
    let there : slice_get (slice_set xs i None) j ≡ Some None = subst (λ k. slice_get (slice_set xs i None) k ≡ Some None) (sym same) (set_same xs i None inside) in
    ((λ h. absurd (not_empty (slice_set xs i None) j y there h)), (λ is. absurd (is.0 same))))
    (λ other.
    let kept = set_other xs i j None other in
    ((λ h. (other, sym kept ∙ h)), (λ is. kept ∙ is.1)))
    (cases_eq j i)

pub one_to_one : (fs ps : List (Option ℕ)) (hand : ℕ) → IsSound fs ps hand →
    IsOneToOne (record { pages = length ps; frames = fs; hand = hand })
one_to_one fs ps hand sound = record {
  once = λ f g p a b. same_value ps p f g ((sound.same f p).0 a) ((sound.same g p).0 b);
  inside = λ f p a. slice_get_within ps p (Some f) ((sound.same f p).0 a);
  hand = sound.in_range;
}

pub fresh_sound : (frames pages : ℕ) → 0 < frames → IsSound (replicate frames None) (replicate pages None) 0
fresh_sound frames pages some = record {
  same = λ f p. ((λ e. absurd (none-some p (of_replicate frames f None (Some p) e))), (λ e. absurd (none-some f (of_replicate pages p None (Some f) e))));
  in_range = omega (arith, length-replicate {A = Option ℕ} frames None);
}

pub placed_sound : (fs ps : List (Option ℕ)) (hand f p : ℕ) → IsSound fs ps hand → slice_get fs f ≡ Some None → p < length ps →
    ((g : ℕ) → ¬ Has fs g p) → IsSound (slice_set fs f (Some p)) (slice_set ps p (Some f)) hand
placed_sound fs ps hand f p sound free below not_in =
    let inside = slice_get_within fs f None free in
    record {
      same = λ g q. (
        (λ h. (set_has ps p f q g below).1 (⊎_elim
            (λ is. inl (is.1, is.0))
            (λ is. inr ((λ e. not_in g (subst (λ r. Has fs g r) e is.1)), (sound.same g q).0 is.1))
            ((set_has fs f p g q inside).0 h))),
        (λ h. (set_has fs f p g q inside).1 (⊎_elim
            (λ is. inl (is.1, is.0))
            (λ is. inr ((λ e. not_empty fs f q free (subst (λ r. Has fs r q) e ((sound.same g q).1 is.1))), (sound.same g q).1 is.1))
            ((set_has ps p f q g below).0 h))),
      );
      in_range = omega (arith, sound.in_range, length-set fs f (Some p));
    }

pub dropped_sound : (fs ps : List (Option ℕ)) (hand f p : ℕ) → IsSound fs ps hand → Has fs f p →
    IsSound (slice_set fs f None) (slice_set ps p None) hand
dropped_sound fs ps hand f p sound holds =
    let inside = slice_get_within fs f (Some p) holds in
    let back = (sound.same f p).0 holds in
    let below = slice_get_within ps p (Some f) back in
    record {
      same = λ g q. (
        (λ h.
            let is = (unset_has fs f g q inside).0 h in
            (unset_has ps p q g below).1 ((λ e. is.0 (same_value ps p g f (subst (λ r. Has ps r g) e ((sound.same g q).0 is.1)) back)), (sound.same g q).0 is.1)),
        (λ h.
            let is = (unset_has ps p q g below).0 h in
            (unset_has fs f g q inside).1 ((λ e. is.0 (same_value fs f q p (subst (λ r. Has fs r q) e ((sound.same g q).1 is.1)) holds)), (sound.same g q).1 is.1)),
      );
      in_range = omega (arith, sound.in_range, length-set fs f None);
    }
