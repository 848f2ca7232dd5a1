-- A home of which some words are already those that recovery gives them recovers to the same array.
use Rattle.std.proofs.Common.{◌≡◌, ◌⊎◌, inl, inr, ⊎_elim, ℕ, ◌<◌, List, [], ◌∷◌, length, slice_index, Option, Some, None, unwrap_or, sym, ap, ◌∙◌, arith, refl}
use Rattle.std.proofs.lemmas.Grind.{same_number_lists}
use Rattle.dude_base.specs.Records.{RedoBundle, overwritten_by_all}
use Rattle.dude_base.specs.Writes.{written, overwritten}
use Rattle.dude_base.proofs.Overwriting.{length-overwritten, index-overwritten}

-- each word is the one or the other
abbrev pub IsMixed : List ℕ → List ℕ → List ℕ → Type 0
IsMixed one other mixed = (i : ℕ) → i < length one → (slice_index mixed i ≡ slice_index one i) ⊎ (slice_index mixed i ≡ slice_index other i)

pub mixed_home : (rs : List RedoBundle) (home mixed : List ℕ) → length mixed ≡ length home → IsMixed home (overwritten_by_all rs home) mixed → overwritten_by_all rs mixed ≡ overwritten_by_all rs home
mixed_home [] home mixed long each = same_number_lists mixed home long (λ i lt. ⊎_elim (λ e. e) (λ e. e) (each i (omega arith)))
mixed_home (r ∷ rs) home mixed long each =
    mixed_home rs (overwritten r.writes home) (overwritten r.writes mixed)
    (length-overwritten r.writes mixed ∙ (long ∙ sym (length-overwritten r.writes home)))
    (λ i lt. let below : i < length home = omega (arith, length-overwritten r.writes home) in by i below (omega arith) (written r.writes i) refl)
  where
    by : (i : ℕ) → i < length home → i < length mixed → (o : Option ℕ) → written r.writes i ≡ o
        → (slice_index (overwritten r.writes mixed) i ≡ slice_index (overwritten r.writes home) i)
        ⊎ (slice_index (overwritten r.writes mixed) i ≡ slice_index (overwritten_by_all rs (overwritten r.writes home)) i)
    by i below small (Some x) is =
        let one = index-overwritten r.writes mixed i small ∙ ap (λ (o : Option ℕ). unwrap_or o (slice_index mixed i)) is in
        let other = index-overwritten r.writes home i below ∙ ap (λ (o : Option ℕ). unwrap_or o (slice_index home i)) is in
        inl (one ∙ sym other)
    by i below small None is =
        let one : slice_index (overwritten r.writes mixed) i ≡ slice_index mixed i = index-overwritten r.writes mixed i small ∙ ap (λ (o : Option ℕ). unwrap_or o (slice_index mixed i)) is in
        let other : slice_index (overwritten r.writes home) i ≡ slice_index home i = index-overwritten r.writes home i below ∙ ap (λ (o : Option ℕ). unwrap_or o (slice_index home i)) is in
        ⊎_elim (λ old. inl (one ∙ (old ∙ sym other))) (λ new. inr (one ∙ new)) (each i below)
