-- The writes of a record, put into a list one after another.
use Rattle.std.proofs.Common.{◌≡◌, ◌≢◌, ◌↔◌, ℕ, ◌+◌, ◌<◌, List, ◌∷◌, [], ◌++◌, length, take, get_or, All, Some, Result, Ok, Err, IsOk, IsErr, OnOk, refl, sym, ap, subst, ◌∙◌, arith, get_or-take, length-take-le}
use Rattle.std.specs.Prelude.{slice_get}
use Rattle.std.proofs.lemmas.List.{take_more}
use Rattle.std.proofs.lemmas.Option.{get_or_from_slice_get}
use Rattle.dude_base.specs.declared.write.Write.{Write}
use Rattle.dude_base.specs.Writes.{put_write, IsWide, IsWriteList}
use Rattle.dude_base.proofs.WriteLists.{put_absent}

unless_err : {A B : Type 0} (r : Result A B) → (IsErr r → ⊥) → IsOk r
unless_err (Ok a) h = refl
unless_err (Err b) h = absurd (h refl)

on_ok : {A B : Type 0} (r : Result A B) (x : A) (P : Type 0) → r ≡ Ok x → OnOk r P → P
on_ok {A} {B} r x P is p = subst (λ (q : Result A B). OnOk q P) is p

module _ (ws : List Write) (k : ℕ) (list : IsWriteList ws) (lt : k < length ws) where
  apart : (w : Write) → slice_get ws k ≡ Some w → All (λ v. v.at ≢ w.at) (take k ws)
  apart w at i d il =
      let n = length-take-le k ws (omega arith) in
      let pair : (get_or ws i d).at ≢ (get_or ws k d).at = list.distinct i k d (omega arith) lt in
      λ e. pair (ap (λ (v : Write). v.at) (sym (get_or-take k ws i d (omega arith))) ∙ (e ∙ ap (λ (v : Write). v.at) (sym (get_or_from_slice_get ws k w d at))))

  pub put_next : {A B : Type 0} (r : Result A B) (x : A) (w : Write) (us vs : List Write) → us ≡ take k ws → slice_get ws k ≡ Some w → r ≡ Ok x → OnOk r (vs ≡ put_write us w) → vs ≡ take (k + 1) ws
  put_next r x w us vs us_is at ok vs_is =
      on_ok r x (vs ≡ put_write us w) ok vs_is ∙ (ap (λ (l : List Write). put_write l w) us_is ∙ (put_absent (take k ws) w (apart w at)
      ∙ (ap (λ (v : Write). take k ws ++ v ∷ []) (sym (get_or_from_slice_get ws k w w at)) ∙ sym (take_more ws k w lt))))

  pub fits : {A B : Type 0} (r : Result A B) (us : List Write) (i : ℕ) → us ≡ take k ws → IsErr r ↔ IsWide us i → IsOk r
  fits r us i us_is wide = unless_err r (λ e.
      let w : IsWide us i = wide.0 e in
      let n = length-take-le k ws (omega arith) in let few = list.few in let full = w.full in let m : length us ≡ length (take k ws) = ap length us_is in omega arith)
