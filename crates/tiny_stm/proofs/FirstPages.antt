-- The first pages are placed, one after another.
use Rattle.std.proofs.Common.{◌≡◌, ◌⊎◌, ℕ, zero, suc, ◌+◌, ◌<◌, ◌≤◌, length, replicate, slice_get, slice_set, refl, sym, ap, ◌∙◌, subst, inl, inr, ⊎_elim, length-set, arith}
use Rattle.std.specs.Prelude.{Option, Some, None}
use Rattle.std.proofs.lemmas.Bool.{cases_eq}
use Rattle.std.proofs.lemmas.List.{length-replicate}
use Rattle.std.proofs.lemmas.Option.{slice_get_within}
use mathlib.Core.Logic.{dite}
use native.Mathlib.Decide.{dec_lt}
use Rattle.shadow_pages.specs.PageMap.{PageMap, Holds, IsFree, IsIn, IsOneToOne, empty_map, map_with}
use Rattle.shadow_pages.proofs.Elements.{set_same, set_other}
use Rattle.shadow_pages.proofs.Pagers.{not_empty, same_value}
use Rattle.tiny_stm.specs.Rooms.{HasFirst}

free_at : (n i : ℕ) → i < n → slice_get {X = Option ℕ} (replicate n None) i ≡ Some None
free_at zero i lt = absurd (omega arith)
free_at (suc n) zero lt = refl
free_at (suc n) (suc i) lt = free_at n i (omega arith)

pub none_placed : (pages frames : ℕ) (m : PageMap) → m ≡ empty_map pages frames → IsOneToOne m → HasFirst pages frames 0 m
none_placed pages frames m is lawful = record {
  pages_are = ap (λ (x : PageMap). x.pages) is;
  frames_are = ap (λ (x : PageMap). length x.frames) is ∙ length-replicate frames None;
  one_to_one = lawful;
  each = λ frame lt. absurd (omega arith);
  free = λ frame low lt. subst (λ (x : PageMap). IsFree x frame) (sym is) (free_at frames frame lt);
}

module _ (pages frames f : ℕ) (m : PageMap) (first : HasFirst pages frames f m) (lt : f < frames) where
  pub not_in : IsIn m f → ⊥
  not_in is = ⊎_elim
      (λ below. let same = same_value m.frames is.frame is.frame f (first.each is.frame below) is.holds in omega arith)
      (λ behind. not_empty m.frames is.frame f (first.free is.frame behind (let e = first.frames_are in let w = within is.frame is.holds in omega arith)) is.holds)
      (before_or is.frame)
    where
      before_or : (k : ℕ) → (k < f) ⊎ (f ≤ k)
      before_or k = dite (dec_lt k f) (λ l. inl l) (λ g. inr (omega arith))

      within : (k : ℕ) → Holds m k f → k < length m.frames
      within k h = slice_get_within m.frames k (Some f) h

  pub one_placed : (n : PageMap) → n ≡ map_with m f (Some f) → IsOneToOne n → HasFirst pages frames (f + 1) n
  one_placed n is lawful = record {
    pages_are = ap (λ (x : PageMap). x.pages) is ∙ first.pages_are;
    frames_are = ap (λ (x : PageMap). length x.frames) is ∙ (length-set m.frames f (Some f) ∙ first.frames_are);
    one_to_one = lawful;
    each = λ frame below. subst (λ (x : PageMap). Holds x frame frame) (sym is)
        (⊎_elim
        (λ same. subst (λ (k : ℕ). slice_get (slice_set m.frames f (Some f)) k ≡ Some (Some k)) (sym same) (set_same m.frames f (Some f) (let e = first.frames_are in omega arith)))
        (λ other. set_other m.frames f frame (Some f) other ∙ first.each frame (omega arith))
        (cases_eq frame f));
    free = λ frame low inside. subst (λ (x : PageMap). IsFree x frame) (sym is) (set_other m.frames f frame (Some f) (λ e. absurd (omega arith)) ∙ first.free frame (omega arith) inside);
  }
