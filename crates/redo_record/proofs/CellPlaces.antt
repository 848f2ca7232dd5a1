-- Where the words of cells stand: cells of a ring are apart, and inside the image.
use Rattle.std.proofs.Common.{◌≡◌, ◌≢◌, ◌⊎◌, inl, inr, ⊎_elim, ℕ, zero, suc, ◌+◌, ◌-◌, ◌*◌, ◌/◌, ◌%◌, ◌<◌, ◌≤◌, map, sym, ap, ◌∙◌, subst, arith}
use Rattle.std.specs.List.{range_with_len}
use Rattle.std.proofs.Math.Nat.{mod-add-mod, mod-eq_of_lt, mod-eq-sub-mod, mod-lt, mul-le-mul_right}
use Rattle.std.proofs.lemmas.Bool.{cases_lt, cases_eq, cases_order}
use Rattle.dude_base.specs.declared.sizes.Sizes.{Sizes}
use Rattle.dude_base.specs.Image.{image_words, Cell, cell_start}
use Rattle.pmem_trait.specs.Words.{IsIn}
use Rattle.redo_record.specs.Cells.{IsCell, cell_after, line_of, word_at}
use Rattle.redo_record.specs.Calls.{lines_from}

-- k slots on, in a ring of c cells
pub wrapped : (c p k : ℕ) → p < c → k ≤ c → ((p + k < c) × ((p + k) % c ≡ p + k)) ⊎ ((c ≤ p + k) × ((p + k) % c + c ≡ p + k))
wrapped c p k below few = ⊎_elim
    (λ (lt : p + k < c). inl (lt, mod-eq_of_lt lt))
    (λ (over : c ≤ p + k).
    let less : p + k - c < c = omega arith in
    let is : (p + k) % c ≡ p + k - c = mod-eq-sub-mod over ∙ mod-eq_of_lt less in
    inr (over, omega arith))
    (cases_lt (p + k) c)

-- different steps lead to different slots
pub steps_same : (c p i k : ℕ) → p < c → i < c → k < c → (p + i) % c ≡ (p + k) % c → i ≡ k
steps_same c p i k below a b same = by (wrapped c p i below (omega arith)) (wrapped c p k below (omega arith))
  where
    by : ((p + i < c) × ((p + i) % c ≡ p + i)) ⊎ ((c ≤ p + i) × ((p + i) % c + c ≡ p + i))
        → ((p + k < c) × ((p + k) % c ≡ p + k)) ⊎ ((c ≤ p + k) × ((p + k) % c + c ≡ p + k)) → i ≡ k
    by (inl u) (inl v) = let first = u.1 in let second = v.1 in omega arith
    by (inl u) (inr v) = let first = u.1 in let second = v.1 in omega arith
    by (inr u) (inl v) = let first = u.1 in let second = v.1 in omega arith
    by (inr u) (inr v) = let first = u.1 in let second = v.1 in omega arith

-- some slots on, and then some more
pub steps_more : (c p i k : ℕ) → ((p + i) % c + k) % c ≡ (p + (i + k)) % c
steps_more c p i k = mod-add-mod (p + i) c k ∙ ap (λ x. x % c) (omega arith)

-- a slot is one of the n from p on, or none of them
pub among : (c p x n : ℕ) → ((k : ℕ) × (k < n) × (x ≡ (p + k) % c)) ⊎ ((k : ℕ) → k < n → x ≡ (p + k) % c → ⊥)
among c p x zero = inr (λ k lt is. omega arith)
among c p x (suc n) = ⊎_elim
    (λ (found : (k : ℕ) × (k < n) × (x ≡ (p + k) % c)). inl (found.0, (let lt = found.1 in omega arith), found.2))
    (λ (none : (k : ℕ) → k < n → x ≡ (p + k) % c → ⊥). ⊎_elim
    (λ (is : x ≡ (p + n) % c). inl (n, omega arith, is))
    (λ (other : x ≢ (p + n) % c). inr (λ k lt is. ⊎_elim
    (λ (last : k ≡ n). other (is ∙ ap (λ j. (p + j) % c) last))
    (λ (less : k ≢ n). let below : k < n = omega arith in none k below is)
    (cases_eq k n)))
    (cases_eq x ((p + n) % c)))
    (among c p x n)

-- words with one number are the same word of the same cell
pub words_same : (base x y j m : ℕ) → j < 8 → m < 8 → 16 + (base + x) * 8 + j ≡ 16 + (base + y) * 8 + m → (x ≡ y) × (j ≡ m)
words_same base x y j m a b same = (omega arith, omega arith)

-- cells with the same number in the image are of the same ring
pub rings_same : (c a b x y : ℕ) → x < c → y < c → a * c + x ≡ b * c + y → a ≡ b
rings_same c a b x y below small same = by (cases_order a b)
  where
    lower : (a b x y : ℕ) → x < c → a < b → a * c + x ≡ b * c + y → ⊥
    lower a b x y below lt same = let rings : (a + 1) * c ≤ b * c = mul-le-mul_right c (omega arith) in omega arith

    by : (a ≡ b) ⊎ ((a < b) ⊎ (b < a)) → a ≡ b
    by (inl is) = is
    by (inr (inl lt)) = absurd (lower a b x y below lt same)
    by (inr (inr gt)) = absurd (lower b a y x small gt (sym same))

module _ (s : Sizes) (head : Cell) (is_cell : IsCell s head) where
  cell_below : (k : ℕ) → (head.slot + k) % s.cells < s.cells
  cell_below k = let lt = is_cell.slot_is in mod-lt (head.slot + k) (omega arith)

  -- the head's own cell is the first
  pub first_cell : (j : ℕ) → word_at s head 0 j ≡ cell_start s head + j
  first_cell j =
      let lt = is_cell.slot_is in
      let is : (head.slot + 0) % s.cells ≡ head.slot = ap (λ x. x % s.cells) (omega arith) ∙ mod-eq_of_lt lt in
      ap (λ x. 16 + (head.ring * s.cells + x) * 8 + j) is

  -- a word of a cell lies in its line
  pub word_line : (k j : ℕ) → j < 8 → word_at s head k j / 8 ≡ line_of s (cell_after s head k)
  word_line k j small = omega arith

  pub head_line : cell_start s head / 8 ≡ line_of s head
  head_line = omega arith

  -- two words of the record's cells
  pub places_same : (n : ℕ) → n ≤ s.cells → (k i j m : ℕ) → k < n → i < n → j < 8 → m < 8 → word_at s head k j ≡ word_at s head i m → (k ≡ i) × (j ≡ m)
  places_same n few k i j m a b small tiny same =
      let apart = words_same (head.ring * s.cells) ((head.slot + k) % s.cells) ((head.slot + i) % s.cells) j m small tiny same in
      (steps_same s.cells head.slot k i is_cell.slot_is (omega arith) (omega arith) apart.0, apart.1)

  -- inside the image
  pub word_inside : (k j : ℕ) → j < 8 → word_at s head k j < image_words s
  word_inside k j small =
      let below = cell_below k in
      let ring = is_cell.ring_is in
      let rings : (head.ring + 1) * s.cells ≤ s.rings * s.cells = mul-le-mul_right s.cells (omega arith) in
      omega arith

-- a line is among those of the cells
pub line_in : (s : Sizes) (head : Cell) (n k : ℕ) → k < n → IsIn (line_of s (cell_after s head k)) (lines_from s head n)
line_in s head n k lt = subst (λ i. IsIn (line_of s (cell_after s head i)) (lines_from s head n)) same (go 0 n k lt)
  where
    same : 0 + k ≡ k
    same = omega arith

    go : (a n k : ℕ) → k < n → IsIn (line_of s (cell_after s head (a + k))) (map (λ i. line_of s (cell_after s head i)) (range_with_len a n))
    go a zero k lt = absurd (omega arith)
    go a (suc n) zero lt = inl (ap (λ i. line_of s (cell_after s head i)) (omega arith))
    go a (suc n) (suc k) lt = inr (subst (λ i. IsIn (line_of s (cell_after s head i)) (map (λ i. line_of s (cell_after s head i)) (range_with_len (a + 1) n))) (omega arith) (go (a + 1) n k (omega arith)))
