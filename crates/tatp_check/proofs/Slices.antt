-- Records that are read from an array, one after another.
use Rattle.std.proofs.Common.{◌≡◌, ℕ, ◌+◌, ◌-◌, ◌<◌, ◌≤◌, List, [], ◌∷◌, ◌++◌, length, map, take, drop, slice_index, get_or, sym, ap, ◌∙◌, arith, add-zero}
use Rattle.std.proofs.lemmas.List.{get_or-drop, get_or-take, length-drop, length-take-le, map-append, take_more}
use Rattle.tatp_layout.specs.RecordWords.{AreOfRecord}

-- the words of a record, as a slice
pub of_slice : (count width at : ℕ) (array : List ℕ) → width ≡ count → 2 ≤ count → at + count ≤ length array → AreOfRecord count array at (take (at + width - at) (drop at array))
of_slice count width at array is some inside =
    let words = take (at + width - at) (drop at array) in
    let word : (k : ℕ) → k < count → slice_index words k ≡ slice_index array (at + k) = λ k below. get_or-take (at + width - at) (drop at array) k 0 (omega arith) ∙ get_or-drop at array k 0 in
    record {
      long = length-take-le (at + width - at) (drop at array) (omega (arith, length-drop at array)) ∙ omega arith;
      key = word 0 (omega arith) ∙ ap (slice_index array) (add-zero at);
      fields = λ k low below. word k below;
    }

-- one row more
pub rows_more : {R : Type 0} (f : ℕ → R) (records : List ℕ) (i : ℕ) (row : R) (items after : List R) → i < length records → items ≡ map f (take i records) → after ≡ items ++ row ∷ [] → row ≡ f (get_or records i 0)
    → after ≡ map f (take (i + 1) records)
rows_more f records i row items after inside before pushed is =
    pushed ∙ ap (λ l. l ++ row ∷ []) before ∙ ap (λ r. map f (take i records) ++ r ∷ []) is ∙ sym (ap (map f) (take_more records i 0 inside) ∙ map-append f (take i records) (get_or records i 0 ∷ []))
