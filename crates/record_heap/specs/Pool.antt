-- A pool of records over an array of words: its records, and which of them are free.
use Rattle.std.specs.Prelude.{◌≡◌, ℕ, ◌+◌, ◌*◌, ◌<◌, ◌≤◌, ◌⊎◌, List, [], ◌∷◌, ◌++◌, Contains, length, map, Option, Some, None, is_some, if◌then◌else◌, slice_index, slice_set}
use Rattle.std.specs.List.{range_with_len}
use Rattle.std.specs.List.Sorted.{IsPermutation}
use Rattle.record_heap.specs.declared.pool.Header.{Header}
use Rattle.record_heap.specs.declared.pool.Pool.{Pool}
use Rattle.record_heap.specs.Changes.{ChangesOnly}
use Rattle.record_heap.specs.Links.{Linked}

-- the records, by their first words: one every `size` words from `first` on
abbrev pub records_of : Pool → List ℕ
records_of pool = map (λ k. pool.first + pool.size * k) (range_with_len 0 pool.count)

-- a record begins at this word
pub record IsRecord (pool : Pool) (at : ℕ) : Type 0 where
  pub index : ℕ
  pub below : index < pool.count
  pub is : at ≡ pool.first + pool.size * index

-- m words from p on and n words from q on have none in common
abbrev pub AreApart : ℕ → ℕ → ℕ → ℕ → Type 0
AreApart p m q n = (p + m ≤ q) ⊎ (q + n ≤ p)

-- The pool may be used over n words: words 0 and 1 of the header and all words of the records lie below
-- n and apart, no record is at word 0, and a record has a word 0 and a word 1.
pub record FitsPool (pool : Pool) (n : ℕ) : Type 0 where
  pub header : pool.base + 2 ≤ n
  pub size : 2 ≤ pool.size
  pub not_at_zero : (at : ℕ) → IsRecord pool at → 0 < at
  pub inside : (at : ℕ) → IsRecord pool at → at + pool.size ≤ n
  pub apart : (at : ℕ) → IsRecord pool at → AreApart pool.base 2 at pool.size

-- the words of the header in this array
pub record IsHeader (pool : Pool) (array : List ℕ) (link count : ℕ) : Type 0 where
  pub first : link ≡ slice_index array pool.base
  pub live : count ≡ slice_index array (pool.base + 1)

-- In the pool of this array these records are free, in the order of the free list, and these are taken:
-- word 0 of the header links the free ones, word 1 counts the taken ones, and the two lists together
-- have each record of the pool once.
pub record IsPool (pool : Pool) (array : List ℕ) (free taken : List ℕ) : Type 0 where
  pub links : Linked array pool.base free
  pub live : slice_index array (pool.base + 1) ≡ length taken
  pub once : IsPermutation (records_of pool) (free ++ taken)

-- The first record of the free list in any array: the one that word 0 of the header links, or None where
-- that word is no record's.
abbrev pub IsFirstFree : Pool → List ℕ → Option ℕ → Type 0
IsFirstFree pool array None = ¬ IsRecord pool (slice_index array pool.base)
IsFirstFree pool array (Some at) = IsRecord pool at × (slice_index array pool.base ≡ at)

-- `take` of a pool with these free and taken records: it answers the first free record, which is a taken
-- one afterwards, or None where none is free. It changes no word but the header's two.
abbrev pub Takes : Pool → List ℕ → List ℕ → Option ℕ → List ℕ → List ℕ → Type 0
Takes pool [] taken result old new = (result ≡ None) × (new ≡ old)
Takes pool (at ∷ free) taken result old new = (result ≡ Some at) × IsPool pool new free (at ∷ taken) × ChangesOnly (pool.base ∷ (pool.base + 1) ∷ []) old new

-- `give` of the record `at` to a pool with these free and taken records, where it is not a free one: it is
-- the first free record afterwards, and the others stay taken. It changes no word but the header's two
-- and the record's link.
pub record Gives (pool : Pool) (at : ℕ) (free taken : List ℕ) (old new : List ℕ) : Type 0 where
  pub others : List ℕ
  pub were : IsPermutation taken (at ∷ others)
  pub lawful : IsPool pool new (at ∷ free) others
  pub changes : ChangesOnly ((at + 1) ∷ pool.base ∷ (pool.base + 1) ∷ []) old new

-- in every way in which the array is a pool, `take` does so
abbrev pub TakesFree : Pool → List ℕ → List ℕ → Option ℕ → Type 0
TakesFree pool old new result = (free taken : List ℕ) → IsPool pool old free taken → Takes pool free taken result old new

-- how many words `take` writes: none where no record is free
abbrev pub take_writes : Option ℕ → ℕ
take_writes result = if is_some result then 2 else 0

-- in every way in which the array is a pool where the record is not free, `give` does so
abbrev pub GivesBack : Pool → ℕ → List ℕ → List ℕ → Unit {0} → Type 0
GivesBack pool at old new done = (free taken : List ℕ) → IsPool pool old free taken → ¬ Contains free at → Gives pool at free taken old new

-- in every way in which the array is a pool, so many records are taken
abbrev pub CountsTaken : Pool → List ℕ → ℕ → Type 0
CountsTaken pool array n = (free taken : List ℕ) → IsPool pool array free taken → n ≡ length taken

-- the header that was read is that of this array
abbrev pub HasHeader : Pool → List ℕ → Header → Type 0
HasHeader pool array header = IsHeader pool array header.first header.live

-- the array with another header
abbrev pub with_header : Pool → Header → List ℕ → List ℕ
with_header pool header array = slice_set (slice_set array pool.base header.first) (pool.base + 1) header.live
