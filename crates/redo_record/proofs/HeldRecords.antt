-- Cells with the same words hold the same record.
use Rattle.std.proofs.Common.{◌≡◌, ℕ, zero, suc, ◌+◌, ◌*◌, ◌/◌, ◌%◌, ◌<◌, ◌≤◌, List, [], ◌∷◌, length, map, get_or, refl, sym, ap, ◌∙◌, subst, arith, All}
use Rattle.std.specs.List.{range_with_len}
use Rattle.dude_base.specs.declared.sizes.Sizes.{Sizes}
use Rattle.dude_base.specs.declared.write.Write.{Write}
use Rattle.dude_base.specs.Writes.{HasDistinctPlaces}
use Rattle.redo_record.specs.Tags.{kind_of, number_of, IsNumber}
use Rattle.redo_record.specs.Record.{cells_for, count_of, span_of, write_of, writes_of, record_of, IsContinuation, HoldRecord, HoldComplete}

-- two functions that agree on a range
pub map_same : {X : Type 0} (f g : ℕ → X) (a n : ℕ) → ((i : ℕ) → a ≤ i → i < a + n → f i ≡ g i) → map f (range_with_len a n) ≡ map g (range_with_len a n)
map_same f g a zero same = refl
map_same f g a (suc n) same =
    let first : f a ≡ g a = same a (omega arith) (omega arith) in
    let rest = map_same f g (a + 1) n (λ i low high. same i (omega arith) (omega arith)) in
    cc

-- a function that gives the elements of a list
pub map_range : {X : Type 0} (f : ℕ → X) (a : ℕ) (xs : List X) → ((i : ℕ) (d : X) → i < length xs → f (a + i) ≡ get_or xs i d) → map f (range_with_len a (length xs)) ≡ xs
map_range f a [] each = refl
map_range f a (x ∷ xs) each =
    let first : f a ≡ x = ap f (omega arith) ∙ each 0 x (omega arith) in
    let rest = map_range f (a + 1) xs (λ i d lt. ap f (omega arith) ∙ each (suc i) d (omega arith)) in
    cc

-- the first n cells have the same words
pub record AreSame (cells others : ℕ → ℕ → ℕ) (n : ℕ) : Type 0 where
  pub word : (k j : ℕ) → k < n → j < 8 → others k j ≡ cells k j

module _ {cells others : ℕ → ℕ → ℕ} (same : AreSame cells others (cells_for (count_of cells))) where
  pub tag_same : others 0 0 ≡ cells 0 0
  tag_same = same.word 0 0 (omega arith) (omega arith)

  pub word_one_same : others 0 1 ≡ cells 0 1
  word_one_same = same.word 0 1 (omega arith) (omega arith)

  pub count_same : count_of others ≡ count_of cells
  count_same = ap (λ (x : ℕ). x % 256) word_one_same

  pub span_same : span_of others ≡ span_of cells
  span_same = ap (λ (x : ℕ). x / 256) word_one_same

  write_same : (i : ℕ) → i < count_of cells → write_of others i ≡ write_of cells i
  write_same i lt =
      let at = same.word (i / 3) (2 + 2 * (i % 3)) (omega arith) (omega arith) in
      let value = same.word (i / 3) (3 + 2 * (i % 3)) (omega arith) (omega arith) in
      cc

  pub writes_same : writes_of others ≡ writes_of cells
  writes_same = ap (λ n. map (write_of others) (range_with_len 0 n)) count_same ∙ map_same (write_of others) (write_of cells) 0 (count_of cells) (λ i low high. write_same i (omega arith))

  pub record_same : record_of others ≡ record_of cells
  record_same =
      let last : number_of (others 0 0) ≡ number_of (cells 0 0) = ap number_of tag_same in
      let span = span_same in
      let writes = writes_same in
      cc

  continues_same : HoldRecord cells → (k : ℕ) → 1 ≤ k → k < cells_for (count_of cells) → IsContinuation (number_of (others 0 0)) k (others k)
  continues_same held k low high =
      let next = held.continued k low high in
      record {
        kind = ap kind_of (same.word k 0 high (omega arith)) ∙ next.kind;
        same_number = ap number_of (same.word k 0 high (omega arith)) ∙ (next.same_number ∙ ap number_of (sym tag_same));
        same_index = same.word k 1 high (omega arith) ∙ next.same_index;
      }

  pub holds_same : HoldRecord cells → HoldRecord others
  holds_same held = record {
    head = ap kind_of tag_same ∙ held.head;
    number = subst (λ (t : ℕ). IsNumber (number_of t)) (sym tag_same) held.number;
    span = subst (λ (n : ℕ). n ≤ 255) (sym span_same) held.span;
    first = (let first = held.first in let tag = tag_same in let span = span_same in omega arith);
    count = subst (λ (n : ℕ). n ≤ 96) (sym count_same) held.count;
    continued = λ k low high. continues_same held k low (subst (λ (n : ℕ). k < cells_for n) count_same high);
    distinct = subst HasDistinctPlaces (sym writes_same) held.distinct;
  }

  pub complete_same : {s : Sizes} → HoldComplete s cells → HoldComplete s others
  complete_same {s} held = record {
    whole = holds_same held.whole;
    room = subst (λ (n : ℕ). cells_for n ≤ s.cells) (sym count_same) held.room;
    home = subst (λ (ws : List Write). All (λ w. w.at < s.pages * 64) ws) (sym writes_same) held.home;
  }
