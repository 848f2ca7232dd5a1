-- What the writes of a record's cells put into each word.
use Rattle.std.proofs.Common.{◌≡◌, ◌≢◌, ◌⊎◌, inl, inr, ⊎_elim, ℕ, zero, suc, ◌+◌, ◌<◌, ◌≤◌, List, [], ◌∷◌, ◌++◌, length, drop, flat_map, slice_index, refl, sym, ap, ◌∙◌, arith, append-nil, eq-eqb, ne_eqb}
use Rattle.std.specs.List.{range_with_len}
use Rattle.std.proofs.lemmas.Bool.{cases_eq}
use Rattle.dude_base.specs.declared.sizes.Sizes.{Sizes}
use Rattle.dude_base.specs.Records.{RedoBundle}
use Rattle.pmem_trait.specs.Groups.{values_put}
use Rattle.pmem_trait.proofs.GroupLists.{written-append, words_outside, words_inside}
use Rattle.redo_record.specs.Tags.{head_tag}
use Rattle.dude_base.specs.Image.{Cell, cell_start}
use Rattle.redo_record.specs.Cells.{IsCell, cell_after, word_at}
use Rattle.redo_record.specs.Record.{cells_for}
use Rattle.redo_record.specs.Encoding.{encoded}
use Rattle.redo_record.specs.Calls.{cell_writes, record_writes, body_writes, tag_write}
use Rattle.redo_record.specs.AppendLaw.{IsElsewhere}
use Rattle.redo_record.proofs.CellPlaces.{first_cell, places_same}

-- lists of writes, one behind another
module _ (f : ℕ → List (ℕ × ℕ)) (i : ℕ) where
  pub flat_none : (a n : ℕ) → ((k : ℕ) → a ≤ k → k < a + n → values_put (f k) i ≡ []) → values_put (flat_map f (range_with_len a n)) i ≡ []
  flat_none a zero none = refl
  flat_none a (suc n) none =
      written-append (f a) (flat_map f (range_with_len (a + 1) n)) i
      ∙ (ap (λ (l : List ℕ). l ++ values_put (flat_map f (range_with_len (a + 1) n)) i) (none a (omega arith) (omega arith))
      ∙ flat_none (a + 1) n (λ k low high. none k (omega arith) (omega arith)))

  pub flat_one : (a n k : ℕ) → a ≤ k → k < a + n → ((m : ℕ) → a ≤ m → m < a + n → m ≢ k → values_put (f m) i ≡ []) → values_put (flat_map f (range_with_len a n)) i ≡ values_put (f k) i
  flat_one a zero k low high others = absurd (omega arith)
  flat_one a (suc n) k low high others =
      written-append (f a) (flat_map f (range_with_len (a + 1) n)) i ∙ ⊎_elim
      (λ (is : a ≡ k).
      ap (λ (l : List ℕ). values_put (f a) i ++ l) (flat_none (a + 1) n (λ m from below. others m (omega arith) (omega arith) (omega arith)))
      ∙ (append-nil (values_put (f a) i) ∙ ap (λ (m : ℕ). values_put (f m) i) is))
      (λ (ne : a ≢ k).
      ap (λ (l : List ℕ). l ++ values_put (flat_map f (range_with_len (a + 1) n)) i) (others a (omega arith) (omega arith) ne)
      ∙ flat_one (a + 1) n k (omega arith) (omega arith) (λ m from below other. others m (omega arith) (omega arith) other))
      (cases_eq a k)

-- the writes of a record
module _ (s : Sizes) (head : Cell) (is_cell : IsCell s head) (r : RedoBundle) where
  -- the first is that of the tag
  pub record_writes_first : record_writes s head r ≡ (cell_start s head, head_tag r.last) ∷ body_writes s head r
  record_writes_first = by (cells_for (length r.writes)) (omega arith)
    where
      at : cell_start s (cell_after s head 0) ≡ cell_start s head
      at = let first = first_cell s head is_cell 0 in omega arith

      by : (n : ℕ) → 1 ≤ n → flat_map (cell_writes s head r) (range_with_len 0 n) ≡ (cell_start s head, head_tag r.last) ∷ drop 1 (flat_map (cell_writes s head r) (range_with_len 0 n))
      by zero some = absurd (omega arith)
      by (suc n) some = ap (λ (i : ℕ). (i, head_tag r.last) ∷ drop 1 (flat_map (cell_writes s head r) (range_with_len 0 (suc n)))) at

  -- at another word than the tag's the body writes what the record does
  body_skip : (i : ℕ) → i ≢ cell_start s head → values_put (body_writes s head r) i ≡ values_put (record_writes s head r) i
  body_skip i ne = sym (ap (λ (l : List (ℕ × ℕ)). values_put l i) record_writes_first ∙ rw (ne_eqb i (cell_start s head) ne) refl)

  pub body_elsewhere : (i : ℕ) → IsElsewhere s head r i → values_put (body_writes s head r) i ≡ []
  body_elsewhere i other =
      body_skip i (λ is. other 0 0 (omega arith) (omega arith) (is ∙ (omega arith ∙ sym (first_cell s head is_cell 0))))
      ∙ flat_none (cell_writes s head r) i 0 (cells_for (length r.writes))
      (λ k low high. words_outside (cell_start s (cell_after s head k)) (encoded r k) i (λ j lt is. other k j (omega arith) lt is))

  module _ (few : cells_for (length r.writes) ≤ s.cells) where
    -- each word of the record's cells is written once
    record_word : (k j : ℕ) → k < cells_for (length r.writes) → j < 8 → values_put (record_writes s head r) (word_at s head k j) ≡ slice_index (encoded r k) j ∷ []
    record_word k j a small =
        flat_one (cell_writes s head r) (word_at s head k j) 0 (cells_for (length r.writes)) k (omega arith) (omega arith)
        (λ m low below ne. words_outside (cell_start s (cell_after s head m)) (encoded r m) (word_at s head k j)
        (λ i lt same. ne (sym (places_same s head is_cell (cells_for (length r.writes)) few k m j i a (omega arith) small lt same).0)))
        ∙ words_inside (cell_start s (cell_after s head k)) (encoded r k) j (word_at s head k j) refl small

    -- so it is by the body, but for the tag
    pub body_word : (k j : ℕ) → k < cells_for (length r.writes) → j < 8 → (1 ≤ k) ⊎ (1 ≤ j) → values_put (body_writes s head r) (word_at s head k j) ≡ slice_index (encoded r k) j ∷ []
    body_word k j a small other = body_skip (word_at s head k j) (λ is. apart other (is ∙ (omega arith ∙ sym (first_cell s head is_cell 0)))) ∙ record_word k j a small
      where
        apart : (1 ≤ k) ⊎ (1 ≤ j) → word_at s head k j ≡ word_at s head 0 0 → ⊥
        apart (inl low) same = let it = places_same s head is_cell (cells_for (length r.writes)) few k 0 j 0 a (omega arith) small (omega arith) same in let first = it.0 in omega arith
        apart (inr low) same = let it = places_same s head is_cell (cells_for (length r.writes)) few k 0 j 0 a (omega arith) small (omega arith) same in let second = it.1 in omega arith

    -- which isn't in the body
    pub body_tag : values_put (body_writes s head r) (cell_start s head) ≡ []
    body_tag =
        let at : word_at s head 0 0 ≡ cell_start s head = first_cell s head is_cell 0 ∙ omega arith in
        let whole : values_put (record_writes s head r) (cell_start s head) ≡ head_tag r.last ∷ [] =
        ap (values_put (record_writes s head r)) (sym at) ∙ record_word 0 0 (omega arith) (omega arith) in
        let first : values_put (record_writes s head r) (cell_start s head) ≡ head_tag r.last ∷ values_put (body_writes s head r) (cell_start s head) =
        ap (λ (l : List (ℕ × ℕ)). values_put l (cell_start s head)) record_writes_first ∙ rw (eq-eqb (cell_start s head) (cell_start s head) refl) refl in
        cc

-- the group of the tag writes the head's tag and nothing else
pub tag_elsewhere : (s : Sizes) (head : Cell) (r : RedoBundle) (i : ℕ) → i ≢ cell_start s head → values_put (tag_write s head r) i ≡ []
tag_elsewhere s head r i ne = rw (ne_eqb i (cell_start s head) ne) refl

pub tag_there : (s : Sizes) (head : Cell) (r : RedoBundle) (i : ℕ) → i ≡ cell_start s head → values_put (tag_write s head r) i ≡ head_tag r.last ∷ []
tag_there s head r i is = rw (eq-eqb i (cell_start s head) is) refl
