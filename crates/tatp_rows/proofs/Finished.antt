-- The free list of a pool whose first records are taken.
use Rattle.std.proofs.Common.{◌≡◌, ℕ, zero, suc, ◌+◌, ◌-◌, ◌<◌, ◌≤◌, cond, inl, inr, List, [], ◌∷◌, length, map, slice_index, slice_set, sym, ap, ◌∙◌, arith, get_or-set_other, get_or-set_same}
use Rattle.std.proofs.lemmas.Bool.{cases_eq, lt-ltb, le-ltb}
use Rattle.std.specs.List.{range_with_len}
use Rattle.record_heap.specs.declared.pool.Pool.{Pool}
use Rattle.record_heap.specs.Links.{Linked}
use Rattle.tatp_rows.specs.Filled.{free_from, record_at}
use Rattle.tatp_rows.specs.Filling.{free_link}
use Rattle.tatp_rows.proofs.ChainLists.{record_before}

pub free_link-some : (pool : Pool) (n : ℕ) → n < pool.count → free_link pool n ≡ record_at pool n
free_link-some pool n below = ap (λ b. cond b (record_at pool n) 0) (lt-ltb n pool.count below)

pub free_link-none : (pool : Pool) (n : ℕ) → pool.count ≤ n → free_link pool n ≡ 0
free_link-none pool n past = ap (λ b. cond b (record_at pool n) 0) (le-ltb n pool.count past)

-- where each link is the next free record, they are one list
pub links_free : (pool : Pool) (a : List ℕ) (m n link : ℕ) → n + m ≡ pool.count → slice_index a link ≡ free_link pool n
    → ((j : ℕ) → n ≤ j → j < pool.count → slice_index a (record_at pool j + 1) ≡ free_link pool (j + 1)) → Linked a link (map (record_at pool) (range_with_len n m))
links_free pool a zero n link whole begins links = begins ∙ free_link-none pool n (omega arith)
links_free pool a (suc m) n link whole begins links =
    (begins ∙ free_link-some pool n (omega arith), links_free pool a m (n + 1) (record_at pool n + 1) (omega arith) (links n (omega arith) (omega arith)) (λ j from below. links j (omega arith) below))

-- where they are one list, each link is the next free record
pub linked_next : (pool : Pool) (a : List ℕ) (m n link : ℕ) → n + m ≡ pool.count → Linked a link (map (record_at pool) (range_with_len n m))
    → (slice_index a link ≡ free_link pool n) × ((j : ℕ) → n ≤ j → j < pool.count → slice_index a (record_at pool j + 1) ≡ free_link pool (j + 1))
linked_next pool a zero n link whole linked = (linked ∙ sym (free_link-none pool n (omega arith)), λ j from below. absurd (omega arith))
linked_next pool a (suc m) n link whole linked =
    let rest = linked_next pool a m (n + 1) (record_at pool n + 1) (omega arith) linked.1 in (
      linked.0 ∙ sym (free_link-some pool n (omega arith)),
      λ j from below. elim (cases_eq j n) [
        | inl same ↦ ap (λ i. slice_index a (record_at pool i + 1)) same ∙ rest.0 ∙ ap (λ i. free_link pool (i + 1)) (sym same)
        | inr other ↦ rest.1 j (omega arith) below
      ],
    )

-- the first of the free records
pub free_next : (pool : Pool) (n : ℕ) → n < pool.count → free_from pool n ≡ record_at pool n ∷ free_from pool (n + 1)
free_next pool n below =
    let more : pool.count - n ≡ suc (pool.count - (n + 1)) = omega arith in
    ap (λ m. map (record_at pool) (range_with_len n m)) more

-- one list in two arrays begins at the same record
pub linked_head : (a b : List ℕ) (link : ℕ) (xs : List ℕ) → Linked a link xs → Linked b link xs → slice_index a link ≡ slice_index b link
linked_head a b link [] la lb = la ∙ sym lb
linked_head a b link (x ∷ xs) la lb = la.0 ∙ sym lb.0

-- one link more
pub links_more : (pool : Pool) (a : List ℕ) (rows k value : ℕ) → 1 ≤ pool.size → record_at pool k + 1 < length a → value ≡ free_link pool (k + 1)
    → ((j : ℕ) → rows ≤ j → j < k → slice_index a (record_at pool j + 1) ≡ free_link pool (j + 1))
    → (j : ℕ) → rows ≤ j → j < k + 1 → slice_index (slice_set a (record_at pool k + 1) value) (record_at pool j + 1) ≡ free_link pool (j + 1)
links_more pool a rows k value wide inside is before j from below =
    elim (cases_eq j k) [
      | inl same ↦ ap (λ i. slice_index (slice_set a (record_at pool k + 1) value) (record_at pool i + 1)) same ∙ get_or-set_same a (record_at pool k + 1) value 0 inside ∙ is ∙ ap (λ i. free_link pool (i + 1)) (sym same)
      | inr other ↦
          let less = record_before pool j k (omega arith) in
          get_or-set_other a (record_at pool k + 1) (record_at pool j + 1) value 0 (omega (arith, less, wide)) ∙ before j from (omega arith)
    ]
