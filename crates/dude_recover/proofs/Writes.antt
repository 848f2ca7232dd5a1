-- Where the writes of a group lie, and what a group leaves of the words beside them.
use Rattle.std.proofs.Common.{◌≡◌, ◌≢◌, ℕ, zero, suc, ◌+◌, ◌*◌, ◌/◌, ◌<◌, ◌≤◌, List, [], ◌∷◌, ◌++◌, length, map, refl, ◌∙◌, ap, arith, inl, inr, ◌⊎◌, ne_eqb}
use Rattle.std.proofs.lemmas.Bool.{cases_eq, cases_lt}
use Rattle.std.proofs.lemmas.List.{get_or_append_left, get_or-append_right}
use Rattle.std.proofs.lemmas.List.FromFn.{length-map-range_with_len}
use Rattle.std.specs.Prelude.{slice_index}
use Rattle.std.specs.List.{range_with_len, enumerate_from}
use Rattle.dude_base.specs.declared.sizes.Sizes.{Sizes}
use Rattle.pmem_trait.specs.Words.{State, IsIn, IsSettled, settled_at, after_all}
use Rattle.pmem_trait.specs.Groups.{values_put, group_calls}
use Rattle.pmem_trait.proofs.GroupLaw.{left_word, group_word}
use Rattle.redo_record.proofs.RingHeads.{is_settled}
use Rattle.dude_recover.specs.FormatCalls.{empty_cells}

-- the places of the writes lie from low on, below high
abbrev pub Within : ℕ → ℕ → List (ℕ × ℕ) → Type 0
Within low high [] = Unit {0}
Within low high (w ∷ ws) = (low ≤ w.0) × (w.0 < high) × Within low high ws

-- nothing is written outside
pub written-outside : (low high : ℕ) (ws : List (ℕ × ℕ)) (k : ℕ) → Within low high ws → (k < low) ⊎ (high ≤ k) → values_put ws k ≡ []
written-outside low high [] k inside out = refl
written-outside low high (w ∷ ws) k inside out =
    let ne : k ≢ w.0 = apart k w.0 inside.0 inside.1 out in
    rw (ne_eqb k w.0 ne) (written-outside low high ws k inside.2 out)
  where
    apart : (k p : ℕ) → low ≤ p → p < high → (k < low) ⊎ (high ≤ k) → k ≢ p
    apart k p a b (inl c) e = omega arith
    apart k p a b (inr c) e = omega arith

-- a group leaves a settled word outside as it is
pub left : (low high : ℕ) (p : State) (ws : List (ℕ × ℕ)) (ls : List ℕ) → Within low high ws
    → (k x : ℕ) → (k < low) ⊎ (high ≤ k) → p.word k ≡ settled_at x → (after_all (group_calls ws ls) p).word k ≡ settled_at x
left low high p ws ls inside k x out is = left_word ws ls p k x (written-outside low high ws k inside out) is

-- A settled medium stays settled by a group that flushes the lines of all words that it may write.
pub stays_settled : (low high len : ℕ) (p : State) (ws : List (ℕ × ℕ)) (ls : List ℕ) → Within low high ws
    → ((k : ℕ) → low ≤ k → k < high → IsIn (k / 8) ls) → IsSettled len p → IsSettled len (after_all (group_calls ws ls) p)
stays_settled low high len p ws ls inside flushed settled k below =
    is_settled (group_word ws ls p k (p.word k).settled (settled k below) (by (cases_lt k low) (cases_lt k high)))
  where
    by : (k < low) ⊎ (low ≤ k) → (k < high) ⊎ (high ≤ k) → (values_put ws k ≡ []) ⊎ IsIn (k / 8) ls
    by (inl out) side = inl (written-outside low high ws k inside (inl out))
    by (inr from) (inl lt) = inr (flushed k from lt)
    by (inr from) (inr out) = inl (written-outside low high ws k inside (inr out))

-- a number of a range is in its list
pub IsIn-range : (a n k : ℕ) → a ≤ k → k < a + n → IsIn k (range_with_len a n)
IsIn-range a zero k low high = absurd (omega arith)
IsIn-range a (suc n) k low high = elim (cases_eq k a) [ inl e ↦ inl e | inr ne ↦ inr (IsIn-range (a + 1) n k (omega arith) (omega arith)) ]

-- numbered values lie from the first number on
pub within-enumerate : (from : ℕ) (values : List ℕ) → (low high : ℕ) → low ≤ from → from + length values ≤ high → Within low high (enumerate_from from values)
within-enumerate from [] low high a b = tt
within-enumerate from (v ∷ vs) low high a b = (a, omega arith, within-enumerate (from + 1) vs low high (omega arith) (omega arith))

-- numbered values, one list behind another
pub enumerate_from-append : (a b : ℕ) (xs ys : List ℕ) → a + length xs ≡ b → enumerate_from a (xs ++ ys) ≡ enumerate_from a xs ++ enumerate_from b ys
enumerate_from-append a b [] ys is = let same : a ≡ b = omega arith in ap (λ (n : ℕ). enumerate_from n ys) same
enumerate_from-append a b (x ∷ xs) ys is = ap (λ (l : List (ℕ × ℕ)). (a, x) ∷ l) (enumerate_from-append (a + 1) b xs ys (omega arith))

-- how many words the cells have, and that their values are 0
pub length-empty_cells : (s : Sizes) → length (empty_cells s) ≡ s.rings * s.cells * 8
length-empty_cells s = length-map-range_with_len (λ _. 0) 0 (s.rings * s.cells * 8)

zeros : (a n j : ℕ) → slice_index (map (λ _. 0) (range_with_len a n)) j ≡ 0
zeros a zero j = refl
zeros a (suc n) zero = refl
zeros a (suc n) (suc j) = zeros (a + 1) n j

pub empty_value : (s : Sizes) (j : ℕ) → slice_index (empty_cells s) j ≡ 0
empty_value s j = zeros 0 (s.rings * s.cells * 8) j

-- the values of the words behind the header
pub cell_value : (s : Sizes) (home : List ℕ) (j : ℕ) → j < s.rings * s.cells * 8 → slice_index (empty_cells s ++ home) j ≡ 0
cell_value s home j below = get_or_append_left (empty_cells s) home 0 j (omega (arith, length-empty_cells s)) ∙ empty_value s j

pub home_value : (s : Sizes) (home : List ℕ) (k : ℕ) → slice_index (empty_cells s ++ home) (s.rings * s.cells * 8 + k) ≡ slice_index home k
home_value s home k =
    get_or-append_right (empty_cells s) home (s.rings * s.cells * 8) (s.rings * s.cells * 8 + k) 0 (length-empty_cells s) (omega arith) ∙ ap (slice_index home) (omega arith)
