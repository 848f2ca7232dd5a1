-- Linked lists in arrays that differ in a few words.
use Rattle.std.proofs.Common.{◌≡◌, ℕ, ◌+◌, List, [], ◌∷◌, slice_index, slice_set, refl, ◌∙◌, length-set, get_or-set_other}
use Rattle.std.specs.List.{AllByRecursion}
use Rattle.record_heap.specs.Changes.{IsNoneOf, ChangesOnly}
use Rattle.record_heap.specs.Links.{Linked}

-- A list that is linked from the word p of an array is linked from the word q of another one, where the
-- two words agree and so do the links of its records.
pub linked_from : (a b : List ℕ) (p q : ℕ) (xs : List ℕ) → slice_index b q ≡ slice_index a p → AllByRecursion (λ x. slice_index b (x + 1) ≡ slice_index a (x + 1)) xs → Linked a p xs → Linked b q xs
linked_from a b p q [] same each linked = same ∙ linked
linked_from a b p q (x ∷ xs) same each linked = (same ∙ linked.0, linked_from a b (x + 1) (x + 1) xs each.0 each.1 linked.1)

-- nothing was written
pub changes_none : {a : List ℕ} → ChangesOnly [] a a
changes_none {a} = record { size = refl; others = λ i none. refl }

-- one more word was written
pub changes_more : {words : List ℕ} {a b : List ℕ} (word value : ℕ) → ChangesOnly words a b → ChangesOnly (word ∷ words) a (slice_set b word value)
changes_more {words} {a} {b} word value changes = record {
  size = length-set b word value ∙ changes.size;
  others = λ i none. get_or-set_other b word i value 0 none.0 ∙ changes.others i none.1;
}

-- fewer words bound the change more closely
pub changes_by : {words others : List ℕ} {a b : List ℕ} → ((i : ℕ) → IsNoneOf others i → IsNoneOf words i) → ChangesOnly words a b → ChangesOnly others a b
changes_by weaker changes = record { size = changes.size; others = λ i none. changes.others i (weaker i none) }

-- words that are none of the changed ones agree
pub links_agree : {words : List ℕ} {a b : List ℕ} → ChangesOnly words a b → (xs : List ℕ) → AllByRecursion (λ x. IsNoneOf words (x + 1)) xs → AllByRecursion (λ x. slice_index b (x + 1) ≡ slice_index a (x + 1)) xs
links_agree changes [] none = tt
links_agree changes (x ∷ xs) none = (changes.others (x + 1) none.0, links_agree changes xs none.1)
