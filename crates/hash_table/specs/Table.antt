-- A table over an array of words: its chains, and the map from keys to records that they make.
use Rattle.std.specs.Prelude.{◌≡◌, ◌≢◌, ◌==◌, ℕ, ◌+◌, ◌%◌, ◌<◌, ◌≤◌, List, [], ◌∷◌, ◌++◌, length, Bool, true, false, Option, Some, None, All, Contains, find, slice_index, slice_index_or, slice_set}
use Rattle.std.specs.List.{flat_map}
use Rattle.record_heap.specs.Changes.{ChangesOnly}
use Rattle.record_heap.specs.Links.{Linked}
use Rattle.record_heap.specs.Pool.{AreApart, FitsPool, IsPool, IsRecord}
use Rattle.hash_table.specs.declared.put.Put.{Put}
use Rattle.hash_table.specs.declared.put.Put.TheVariants.{There, Full, Stored}
use Rattle.hash_table.specs.declared.table.Table.{Table}

-- The table may be used over n words: there is a bucket, the pool may be used, and the links of the
-- buckets lie below n, apart from the header and from the records.
pub record FitsTable (table : Table) (n : ℕ) : Type 0 where
  pub buckets : 0 < table.buckets
  pub pool : FitsPool table.pool n
  pub links : table.at + table.buckets ≤ n
  pub header : AreApart table.at table.buckets table.pool.base 2
  pub records : (at : ℕ) → IsRecord table.pool at → AreApart table.at table.buckets at table.pool.size

-- the chain of a bucket
abbrev pub chain_of : List (List ℕ) → ℕ → List ℕ
chain_of chains bucket = slice_index_or chains bucket []

-- the records of all chains
abbrev pub records_in : List (List ℕ) → List ℕ
records_in chains = flat_map (λ chain. chain) chains

-- The table of this array has these chains, one for each bucket, and these free records: each bucket's
-- word links its chain, the records of the chains are the taken ones of the pool, each key belongs to its
-- bucket, and no key is in two records.
pub record IsTable (table : Table) (array : List ℕ) (chains : List (List ℕ)) (free : List ℕ) : Type 0 where
  pub pool : IsPool table.pool array free (records_in chains)
  pub buckets : length chains ≡ table.buckets
  pub links : (bucket : ℕ) → bucket < table.buckets → Linked array (table.at + bucket) (chain_of chains bucket)
  pub homes : (bucket : ℕ) → bucket < table.buckets → All (λ at. slice_index array at % table.buckets ≡ bucket) (chain_of chains bucket)
  pub keys : (x y : ℕ) → Contains (records_in chains) x → Contains (records_in chains) y → slice_index array x ≡ slice_index array y → x ≡ y

-- the map from keys to records: the record among these whose word 0 is the key
abbrev pub lookup : List ℕ → List ℕ → ℕ → Option ℕ
lookup array records key = find (λ at. slice_index array at == key) records

-- the word that links what stands in a chain after these records, where the word `link` links the first
abbrev pub link_after : ℕ → List ℕ → ℕ
link_after link [] = link
link_after link (at ∷ others) = link_after (at + 1) others

-- The key was not there, and is in the first free record now, which is the first of its chain. Each other
-- key is in the record where it was, and no word changes but the record's first two, the header's two
-- and the bucket's link.
pub record Stores (table : Table) (key at : ℕ) (chains : List (List ℕ)) (free : List ℕ) (old new : List ℕ) : Type 0 where
  pub left : List ℕ
  pub first : free ≡ at ∷ left
  pub absent : lookup old (records_in chains) key ≡ None
  pub after : List (List ℕ)
  pub pushed : after ≡ slice_set chains (key % table.buckets) (at ∷ chain_of chains (key % table.buckets))
  pub lawful : IsTable table new after left
  pub there : lookup new (records_in after) key ≡ Some at
  pub others : (k : ℕ) → k ≢ key → lookup new (records_in after) k ≡ lookup old (records_in chains) k
  pub changes : ChangesOnly (at ∷ (at + 1) ∷ table.pool.base ∷ (table.pool.base + 1) ∷ (table.at + key % table.buckets) ∷ []) old new

-- what `insert` of a key answers and does, of a table with these chains and free records
abbrev pub Inserts : Table → ℕ → List (List ℕ) → List ℕ → Put → List ℕ → List ℕ → Type 0
Inserts table key chains free (There at) old new = (lookup old (records_in chains) key ≡ Some at) × (new ≡ old)
Inserts table key chains free Full old new = (lookup old (records_in chains) key ≡ None) × (free ≡ []) × (new ≡ old)
Inserts table key chains free (Stored at) old new = Stores table key at chains free old new

-- how many words `insert` writes
abbrev pub write_count : Put → ℕ
write_count (There at) = 0
write_count Full = 0
write_count (Stored at) = 5

-- the record that has the key, where it is there
abbrev pub put_record : Put → Option ℕ
put_record (There at) = Some at
put_record Full = None
put_record (Stored at) = Some at

-- The key was in a record, which is the first free one now, and its chain has the records before and
-- after it. Each other key is in the record where it was, and no word changes but the record's link, the
-- header's two, and the link that led to the record.
pub record Drops (table : Table) (key : ℕ) (chains : List (List ℕ)) (free : List ℕ) (old new : List ℕ) : Type 0 where
  pub at : ℕ
  pub there : lookup old (records_in chains) key ≡ Some at
  pub before : List ℕ
  pub behind : List ℕ
  pub chain : chain_of chains (key % table.buckets) ≡ before ++ at ∷ behind
  pub after : List (List ℕ)
  pub rest : after ≡ slice_set chains (key % table.buckets) (before ++ behind)
  pub lawful : IsTable table new after (at ∷ free)
  pub gone : lookup new (records_in after) key ≡ None
  pub others : (k : ℕ) → k ≢ key → lookup new (records_in after) k ≡ lookup old (records_in chains) k
  pub changes : ChangesOnly ((at + 1) ∷ table.pool.base ∷ (table.pool.base + 1) ∷ link_after (table.at + key % table.buckets) before ∷ []) old new

-- what `remove` of a key answers and does, of a table with these chains and free records
abbrev pub Removes : Table → ℕ → List (List ℕ) → List ℕ → Bool → List ℕ → List ℕ → Type 0
Removes table key chains free false old new = (lookup old (records_in chains) key ≡ None) × (new ≡ old)
Removes table key chains free true old new = Drops table key chains free old new

-- in every way in which the array is this table, the answer is the record that has the key
abbrev pub FindsAll : Table → List ℕ → ℕ → Option ℕ → Type 0
FindsAll table array key r = (chains : List (List ℕ)) (free : List ℕ) → IsTable table array chains free → r ≡ lookup array (records_in chains) key

-- in every way in which the array is this table, `insert` does so
abbrev pub InsertsAll : Table → ℕ → List ℕ → List ℕ → Put → Type 0
InsertsAll table key old new put = (chains : List (List ℕ)) (free : List ℕ) → IsTable table old chains free → Inserts table key chains free put old new

-- in every way in which the array is this table and the key isn't there, `insert` does so
abbrev pub InsertsNew : Table → ℕ → List ℕ → List ℕ → Put → Type 0
InsertsNew table key old new put =
    (chains : List (List ℕ)) (free : List ℕ) → IsTable table old chains free → lookup old (records_in chains) key ≡ None → Inserts table key chains free put old new

-- in every way in which the array is this table, `remove` does so
abbrev pub RemovesAll : Table → ℕ → List ℕ → List ℕ → Bool → Type 0
RemovesAll table key old new was = (chains : List (List ℕ)) (free : List ℕ) → IsTable table old chains free → Removes table key chains free was old new
