-- What the calls see in any array, also in one that is no lawful table.
use Rattle.std.specs.Prelude.{◌≡◌, ℕ, ◌+◌, ◌*◌, ◌%◌, ◌<◌, ◌≤◌, List, [], ◌∷◌, length, Bool, true, false, Option, Some, None, All, slice_index}
use Rattle.record_heap.specs.declared.pool.Pool.{Pool}
use Rattle.record_heap.specs.Pool.{IsFirstFree, IsRecord}
use Rattle.hash_table.specs.declared.put.Put.{Put}
use Rattle.hash_table.specs.declared.put.Put.TheVariants.{There, Full, Stored}
use Rattle.hash_table.specs.declared.table.Table.{Table}
use Rattle.hash_table.specs.Table.{link_after, lookup}

-- each of these is linked from the one before, and the first from the word `link`
abbrev pub IsPath : List ℕ → ℕ → List ℕ → Type 0
IsPath array link [] = Unit {0}
IsPath array link (at ∷ others) = (slice_index array link ≡ at) × IsPath array (at + 1) others

-- The chain that begins at the word `link`: records, each linked from the one before. It ends where the next
-- link is no record, or after so many records.
pub record IsChain (pool : Pool) (most : ℕ) (array : List ℕ) (link : ℕ) (chain : List ℕ) : Type 0 where
  pub path : IsPath array link chain
  pub records : All (IsRecord pool) chain
  pub few : length chain ≤ most
  pub ends : length chain < most → ¬ IsRecord pool (slice_index array (link_after link chain))

-- the chain of the key's bucket, which ends after as many records as the pool has
abbrev pub IsChainOf : Table → ℕ → List ℕ → List ℕ → Type 0
IsChainOf table key array chain = IsChain table.pool table.pool.count array (table.at + key % table.buckets) chain

-- the answer is the first record with the key in the chain of the key's bucket, or None where it has none
pub record FindsFirst (table : Table) (key : ℕ) (array : List ℕ) (found : Option ℕ) : Type 0 where
  pub chain : List ℕ
  pub is : IsChainOf table key array chain
  pub answer : found ≡ lookup array chain key

-- what `remove` answers: whether that chain has the key
abbrev pub RemovesFirst : Table → ℕ → List ℕ → Bool → Type 0
RemovesFirst table key array false = FindsFirst table key array None
RemovesFirst table key array true = (at : ℕ) × FindsFirst table key array (Some at)

-- what `insert` answers: by that chain, and by the first free record where the chain doesn't have the key
abbrev pub PutsFirst : Table → ℕ → List ℕ → Put → Type 0
PutsFirst table key array (There at) = FindsFirst table key array (Some at)
PutsFirst table key array Full = FindsFirst table key array None × IsFirstFree table.pool array None
PutsFirst table key array (Stored at) = FindsFirst table key array None × IsFirstFree table.pool array (Some at)

-- the most reads of a walk along a chain: two for each record of the pool
abbrev pub walk_reads : Table → ℕ
walk_reads table = 2 * table.pool.count

-- the most reads of `insert`: the walk, the bucket's link, and the free list
abbrev pub insert_reads : Table → ℕ
insert_reads table = walk_reads table + 4

-- the most reads of `remove`: the walk, the record's link, and the header
abbrev pub remove_reads : Table → ℕ
remove_reads table = walk_reads table + 3
