-- Which lines hold heads over a number, and what clearing them leaves.
use Rattle.std.proofs.Common.{◌≡◌, inl, inr, ℕ, zero, suc, ◌+◌, ◌*◌, ◌==◌, ◌<◌, ◌≤◌, Bool, true, false, cond, if◌then◌else◌, List, [], ◌∷◌, slice_index, nat_lt, refl, sym, ap, ◌∙◌, subst, arith, eqb-true, eq-eqb, ne_eqb}
use Rattle.std.specs.List.{range_with_len, filter}
use Rattle.std.proofs.Math.Nat.{mul-le-mul_right}
use Rattle.std.proofs.lemmas.Bool.{and_parts, and_from, lt-ltb}
use Rattle.dude_base.specs.declared.sizes.Sizes.{Sizes}
use Rattle.dude_base.specs.Image.{Cell, cell_start, home_word}
use Rattle.pmem_trait.specs.Words.{IsIn, newest}
use Rattle.pmem_trait.specs.Groups.{values_put, final}
use Rattle.redo_record.specs.Tags.{kind_of, number_of, IsHeadOver}
use Rattle.redo_record.specs.Cells.{IsCell, line_of}
use Rattle.dude_recover.specs.OpeningCalls.{is_head_over, stale_lines, clear_puts}
use Rattle.dude_recover.proofs.OpeningImages.{IsHeadWord}

-- what a filter keeps
kept_in : (p : ℕ → Bool) (x : ℕ) (xs : List ℕ) → IsIn x xs → p x ≡ true → IsIn x (filter p xs)
kept_in p x [] is passes = absurd is
kept_in p x (y ∷ ys) (inl same) passes = rw (ap p (sym same) ∙ passes) (inl same)
kept_in p x (y ∷ ys) (inr is) passes = by (kept_in p x ys is passes) (p y)
  where
    by : IsIn x (filter p ys) → (b : Bool) → IsIn x (cond b (y ∷ filter p ys) (filter p ys))
    by rest true = inr rest
    by rest false = rest

in_kept : (p : ℕ → Bool) (x : ℕ) (xs : List ℕ) → IsIn x (filter p xs) → IsIn x xs × (p x ≡ true)
in_kept p x [] is = absurd is
in_kept p x (y ∷ ys) is = by (λ rest. let both = in_kept p x ys rest in (inr both.0, both.1)) (p y) refl is
  where
    by : (IsIn x (filter p ys) → IsIn x (y ∷ ys) × (p x ≡ true)) → (b : Bool) → p y ≡ b → IsIn x (cond b (y ∷ filter p ys) (filter p ys)) → IsIn x (y ∷ ys) × (p x ≡ true)
    by more true passes (inl same) = (inl same, ap p same ∙ passes)
    by more true passes (inr rest) = more rest
    by more false fails rest = more rest

pub in_range : (a n k : ℕ) → k < n → IsIn (a + k) (range_with_len a n)
in_range a zero k lt = absurd (omega arith)
in_range a (suc n) zero lt = inl (omega arith)
in_range a (suc n) (suc k) lt = inr (subst (λ (i : ℕ). IsIn i (range_with_len (a + 1) n)) (omega arith) (in_range (a + 1) n k (omega arith)))

range_bounds : (a n x : ℕ) → IsIn x (range_with_len a n) → (a ≤ x) × (x < a + n)
range_bounds a zero x is = absurd is
range_bounds a (suc n) x (inl same) = (omega arith, omega arith)
range_bounds a (suc n) x (inr is) = let rest = range_bounds (a + 1) n x is in let low = rest.0 in let high = rest.1 in (omega arith, omega arith)

module _ (s : Sizes) (number : ℕ) (content : List ℕ) where
  abbrev is_stale : ℕ → Bool
  is_stale line = is_head_over number (slice_index content (8 * line))

  -- such a line lies in the rings, and its first word is that of a head
  pub stale_head : (line : ℕ) → IsIn line (stale_lines s number content) → (16 ≤ 8 * line) × (8 * line < home_word s 0) × IsHeadWord content (8 * line)
  unfolding stale_lines
  stale_head line is =
      let both = in_kept is_stale line (range_with_len 2 (s.rings * s.cells)) is in
      let bounds = range_bounds 2 (s.rings * s.cells) line both.0 in
      let low = bounds.0 in
      let high = bounds.1 in
      let parts = and_parts (kind_of (slice_index content (8 * line)) == 1) (nat_lt number (number_of (slice_index content (8 * line)))) both.1 in
      (omega arith, omega arith, record { line = line; first = refl; head = eqb-true (kind_of (slice_index content (8 * line))) 1 parts.0 })

  -- the line of each head over the number is one
  pub head_stale : (cell : Cell) → IsCell s cell → IsHeadOver number (slice_index content (cell_start s cell)) → IsIn (line_of s cell) (stale_lines s number content)
  unfolding stale_lines
  head_stale cell is over =
      let lt = is.slot_is in
      let ring = is.ring_is in
      let rings : (cell.ring + 1) * s.cells ≤ s.rings * s.cells = mul-le-mul_right s.cells (omega arith) in
      let at : cell_start s cell ≡ 8 * line_of s cell = omega arith in
      let here : IsHeadOver number (slice_index content (8 * line_of s cell)) = subst (λ (k : ℕ). IsHeadOver number (slice_index content k)) at over in
      let among : IsIn (line_of s cell) (range_with_len 2 (s.rings * s.cells)) =
      subst (λ (i : ℕ). IsIn i (range_with_len 2 (s.rings * s.cells))) (omega arith) (in_range 2 (s.rings * s.cells) (cell.ring * s.cells + cell.slot) (omega arith)) in
      kept_in is_stale (line_of s cell) (range_with_len 2 (s.rings * s.cells)) among
      (and_from (kind_of (slice_index content (8 * line_of s cell)) == 1) (nat_lt number (number_of (slice_index content (8 * line_of s cell))))
      (eq-eqb (kind_of (slice_index content (8 * line_of s cell))) 1 here.kind) (lt-ltb number (number_of (slice_index content (8 * line_of s cell))) here.over))

-- what is put is 0, in the first word of one of the lines
pub record IsCleared (lines : List ℕ) (k x : ℕ) : Type 0 where
  pub zero_is : x ≡ 0
  pub line : ℕ
  pub among : IsIn line lines
  pub first : k ≡ 8 * line

pub cleared_value : (lines : List ℕ) (k x : ℕ) → IsIn x (values_put (clear_puts lines) k) → IsCleared lines k x
cleared_value [] k x is = absurd is
cleared_value (l ∷ ls) k x is =
    by (λ rest. let one = cleared_value ls k x rest in record { zero_is = one.zero_is; line = one.line; among = inr one.among; first = one.first }) (k == 8 * l) refl is
  where
    by : (IsIn x (values_put (clear_puts ls) k) → IsCleared (l ∷ ls) k x) → (b : Bool) → (k == 8 * l) ≡ b
        → IsIn x (if b then 0 ∷ values_put (clear_puts ls) k else values_put (clear_puts ls) k) → IsCleared (l ∷ ls) k x
    by later true same (inl zero_is) = record { zero_is = zero_is; line = l; among = inl refl; first = eqb-true k (8 * l) same }
    by later true same (inr rest) = later rest
    by later false other rest = later rest

pub not_cleared : (lines : List ℕ) (k : ℕ) → ((line : ℕ) → IsIn line lines → k ≡ 8 * line → ⊥) → values_put (clear_puts lines) k ≡ []
not_cleared [] k none = refl
not_cleared (l ∷ ls) k none = rw (ne_eqb k (8 * l) (none l (inl refl))) (not_cleared ls k (λ line is same. none line (inr is) same))

zeros : (lines : List ℕ) (k : ℕ) → newest 0 (values_put (clear_puts lines) k) ≡ 0
zeros [] k = refl
zeros (l ∷ ls) k = by (zeros ls k) (k == 8 * l)
  where
    by : newest 0 (values_put (clear_puts ls) k) ≡ 0 → (b : Bool) → newest 0 (if b then 0 ∷ values_put (clear_puts ls) k else values_put (clear_puts ls) k) ≡ 0
    by rest true = rest
    by rest false = rest

-- in the end the first word of each line is 0
pub cleared_last : (lines : List ℕ) (line x : ℕ) → IsIn line lines → final (clear_puts lines) (8 * line) x ≡ 0
cleared_last [] line x is = absurd is
cleared_last (l ∷ ls) line x (inl same) = rw (eq-eqb (8 * line) (8 * l) (ap (λ (i : ℕ). 8 * i) same)) (zeros ls (8 * line))
cleared_last (l ∷ ls) line x (inr is) = by (cleared_last ls line x is) (8 * line == 8 * l)
  where
    by : newest x (values_put (clear_puts ls) (8 * line)) ≡ 0 → (b : Bool) → newest x (if b then 0 ∷ values_put (clear_puts ls) (8 * line) else values_put (clear_puts ls) (8 * line)) ≡ 0
    by rest true = zeros ls (8 * line)
    by rest false = rest
