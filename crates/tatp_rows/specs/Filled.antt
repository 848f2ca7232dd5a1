-- A table whose rows were inserted one after another into an empty one.
use Rattle.std.specs.Prelude.{◌≡◌, ◌≢◌, ◌==◌, ℕ, ◌+◌, ◌-◌, ◌*◌, ◌%◌, ◌<◌, ◌≤◌, List, length, map, reverse, Some, slice_get, slice_index}
use Rattle.std.specs.List.{range_with_len, enumerate_from, filter}
use Rattle.record_heap.specs.declared.pool.Pool.{Pool}
use Rattle.record_heap.specs.Links.{Linked}
use Rattle.record_heap.specs.Pool.{AreApart}
use Rattle.hash_table.specs.declared.table.Table.{Table}
use Rattle.tatp_layout.specs.Records.{RowForm, HoldsRow}

-- the i-th record
abbrev pub record_at : Pool → ℕ → ℕ
record_at pool i = pool.first + pool.size * i

-- the chain of a bucket where the i-th of these keys is in the i-th record: those that belong to it, the last one first
abbrev pub chain_for : Table → List ℕ → ℕ → List ℕ
chain_for table keys bucket = map (λ p. record_at table.pool p.0) (reverse (filter (λ p. p.1 % table.buckets == bucket) (enumerate_from 0 keys)))

-- the records from the n-th on, in rising order
abbrev pub free_from : Pool → ℕ → List ℕ
free_from pool n = map (record_at pool) (range_with_len n (pool.count - n))

-- The i-th row is in the i-th record. The chain of each bucket has the rows whose keys belong to it, the last one first; the
-- free list has the other records in rising order; the header counts the rows.
pub record IsFilled {R : Type 0} (form : RowForm R) (table : Table) (array : List ℕ) (rows : List R) : Type 0 where
  pub few : length rows ≤ table.pool.count
  pub held : (i : ℕ) (row : R) → slice_get rows i ≡ Some row → HoldsRow form array (record_at table.pool i) row
  pub chains : (bucket : ℕ) → bucket < table.buckets → Linked array (table.at + bucket) (chain_for table (map form.key rows) bucket)
  pub free : Linked array table.pool.base (free_from table.pool (length rows))
  pub live : slice_index array (table.pool.base + 1) ≡ length rows

-- a word of which this says nothing: none of the header's two, of the buckets' links, of the rows' records up to their last
-- field, and of the links of free records
pub record IsUnused {R : Type 0} (form : RowForm R) (table : Table) (rows : List R) (i : ℕ) : Type 0 where
  pub first : i ≢ table.pool.base
  pub live : i ≢ table.pool.base + 1
  pub links : AreApart table.at table.buckets i 1
  pub taken : (k : ℕ) (row : R) → slice_get rows k ≡ Some row → AreApart (record_at table.pool k) (2 + length (form.words row)) i 1
  pub free : (k : ℕ) → length rows ≤ k → k < table.pool.count → i ≢ record_at table.pool k + 1

-- the table was filled with the rows, and no other word changed
pub record Fills {R : Type 0} (form : RowForm R) (table : Table) (rows : List R) (old new : List ℕ) : Type 0 where
  pub filled : IsFilled form table new rows
  pub others : (i : ℕ) → IsUnused form table rows i → slice_index new i ≡ slice_index old i
