-- A walk through a table: bucket by bucket along the chains, and then through its pool. `content` says which words the
-- records may hold: at offset 0 a key that is in range, from offset 2 on the words behind the link.
use Rattle.std.specs.Prelude.{◌≡◌, ◌≢◌, ℕ, zero, suc, ◌+◌, ◌%◌, ◌<◌, List, [], ◌++◌, length, All, AllPairs, slice_index}
use Rattle.record_heap.specs.Links.{Linked}
use Rattle.record_heap.specs.Pool.{IsRecord}
use Rattle.hash_table.specs.declared.table.Table.{Table}
use Rattle.hash_table.specs.Table.{chain_of, records_in}
use Rattle.hash_table.specs.Walk.{IsPath}
use Rattle.tatp_check.specs.Pools.{IsWholePool}

-- What a record of this bucket's chain has to hold at each offset: a key that is in range and belongs to the bucket, and
-- behind the link words that are in range.
abbrev pub Fits : (ℕ → ℕ → Type 0) → Table → List ℕ → ℕ → ℕ → ℕ → Type 0
Fits content table array bucket at zero = content 0 (slice_index array at) × (slice_index array at % table.buckets ≡ bucket)
Fits content table array bucket at (suc zero) = Unit {0}
Fits content table array bucket at (suc (suc behind)) = content (suc (suc behind)) (slice_index array (at + suc (suc behind)))

-- a record's place, and at each offset what fits
pub record IsSound (content : ℕ → ℕ → Type 0) (table : Table) (array : List ℕ) (bucket at : ℕ) : Type 0 where
  pub place : IsRecord table.pool at
  pub fits : (offset : ℕ) → offset < table.pool.size → Fits content table array bucket at offset

-- The chains of the first buckets, each followed to its end, and a part of the next bucket's: sound records, no two of which
-- have one key.
pub record HasMet (content : ℕ → ℕ → Type 0) (table : Table) (array : List ℕ) (chains : List (List ℕ)) (part : List ℕ) : Type 0 where
  pub ended : (bucket : ℕ) → bucket < length chains → Linked array (table.at + bucket) (chain_of chains bucket)
  pub sound : (bucket : ℕ) → bucket < length chains → All (IsSound content table array bucket) (chain_of chains bucket)
  pub path : IsPath array (table.at + length chains) part
  pub part_sound : All (IsSound content table array (length chains)) part
  pub keys_differ : AllPairs (λ x y. slice_index array x ≢ slice_index array y) (records_in chains ++ part)

-- a walk has met the chains of all buckets
pub record HasMetChains (content : ℕ → ℕ → Type 0) (table : Table) (array : List ℕ) (chains : List (List ℕ)) : Type 0 where
  pub met : HasMet content table array chains []
  pub all : length chains ≡ table.buckets

-- nothing is wrong in the table: its chains are followed to their ends, and its pool has all else
pub record IsWhole (content : ℕ → ℕ → Type 0) (table : Table) (array : List ℕ) (chains : List (List ℕ)) (free : List ℕ) : Type 0 where
  pub met : HasMetChains content table array chains
  pub pool : IsWholePool table.pool array (records_in chains) free
