-- A pool stays where none of the words that it uses changes.
use Rattle.std.proofs.Common.{◌≡◌, ◌≢◌, ℕ, ◌+◌, List, [], ◌∷◌, slice_index, sym, ◌∙◌}
use Rattle.std.specs.List.{AllByRecursion}
use Rattle.record_heap.specs.declared.pool.Pool.{Pool}
use Rattle.record_heap.specs.Changes.{IsNoneOf, ChangesOnly}
use Rattle.record_heap.specs.Pool.{IsRecord, IsPool}
use Rattle.record_heap.proofs.Arrays.{linked_from}
use Rattle.record_heap.proofs.Pools.{free_records}

-- the words that a pool uses are the same in both arrays: the header's two, and the links of the records
pub record SamePool (pool : Pool) (a b : List ℕ) : Type 0 where
  pub first : slice_index b pool.base ≡ slice_index a pool.base
  pub live : slice_index b (pool.base + 1) ≡ slice_index a (pool.base + 1)
  pub links : (x : ℕ) → IsRecord pool x → slice_index b (x + 1) ≡ slice_index a (x + 1)

pub same_pool-then : {pool : Pool} {a b c : List ℕ} → SamePool pool a b → SamePool pool b c → SamePool pool a c
same_pool-then s t = record { first = t.first ∙ s.first; live = t.live ∙ s.live; links = λ x r. t.links x r ∙ s.links x r }

each_link : {pool : Pool} {a b : List ℕ} → SamePool pool a b → (xs : List ℕ) → AllByRecursion (IsRecord pool) xs → AllByRecursion (λ x. slice_index b (x + 1) ≡ slice_index a (x + 1)) xs
each_link same [] all = tt
each_link same (x ∷ xs) all = (same.links x all.0, each_link same xs all.1)

-- the same records are free and taken
pub pool_stays : {pool : Pool} {a b free taken : List ℕ} → SamePool pool a b → IsPool pool a free taken → IsPool pool b free taken
pool_stays {pool} {a} {b} {free} same lawful = record {
  links = linked_from a b pool.base pool.base free same.first (each_link same free (free_records lawful)) lawful.links;
  live = same.live ∙ lawful.live;
  once = lawful.once;
}

-- a word that a pool doesn't use
pub record IsOutsidePool (pool : Pool) (i : ℕ) : Type 0 where
  pub first : i ≢ pool.base
  pub live : i ≢ pool.base + 1
  pub links : (x : ℕ) → IsRecord pool x → i ≢ x + 1

-- a word that differs from each of these is none of them
pub none_of : {P : ℕ → Type 0} (words : List ℕ) (i : ℕ) → ((w : ℕ) → P w → w ≢ i) → AllByRecursion P words → IsNoneOf words i
none_of [] i differ all = tt
none_of (w ∷ words) i differ all = ((λ same. differ w all.0 (sym same)), none_of words i differ all.1)

-- only such words change
pub same_pool : {pool : Pool} {words a b : List ℕ} → AllByRecursion (IsOutsidePool pool) words → ChangesOnly words a b → SamePool pool a b
same_pool {pool} {words} outside changes = record {
  first = changes.others pool.base (none_of words pool.base (λ w (o : IsOutsidePool pool w). o.first) outside);
  live = changes.others (pool.base + 1) (none_of words (pool.base + 1) (λ w (o : IsOutsidePool pool w). o.live) outside);
  links = λ x r. changes.others (x + 1) (none_of words (x + 1) (λ w (o : IsOutsidePool pool w). o.links x r) outside);
}
