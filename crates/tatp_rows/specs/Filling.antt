-- A table while rows are inserted, before its header and its free list are written.
use Rattle.std.specs.Prelude.{◌≡◌, ◌≢◌, ℕ, ◌+◌, ◌<◌, ◌≤◌, nat_lt, if◌then◌else◌, List, [], ◌∷◌, ◌++◌, length, map, flat_map, slice_index, slice_index_or}
use Rattle.std.specs.List.{range_with_len}
use Rattle.record_heap.specs.declared.pool.Pool.{Pool}
use Rattle.record_heap.specs.Links.{Linked}
use Rattle.record_heap.specs.Pool.{AreApart}
use Rattle.hash_table.specs.declared.table.Table.{Table}
use Rattle.hash_table.specs.Table.{FitsTable}
use Rattle.tatp_layout.specs.Records.{RowForm}
use Rattle.tatp_rows.specs.Filled.{record_at, chain_for, free_from}

-- the words of a row's record without the link: its key and its fields
abbrev pub entry_of : {R : Type 0} → RowForm R → R → List ℕ
entry_of form row = form.key row ∷ form.words row

-- the key among these words, which comes first
abbrev pub key_of : List ℕ → ℕ
key_of entry = slice_index entry 0

-- the words of a row's record without the link stand in the record at this word
pub record HasEntry (array : List ℕ) (at : ℕ) (entry : List ℕ) : Type 0 where
  pub key : slice_index array at ≡ key_of entry
  pub fields : (j : ℕ) → 1 ≤ j → j < length entry → slice_index array (at + 1 + j) ≡ slice_index entry j

-- no bucket of the table has a chain
abbrev pub IsEmpty : Table → List ℕ → Type 0
IsEmpty table array = (bucket : ℕ) → bucket < table.buckets → slice_index array (table.at + bucket) ≡ 0

-- a word that these insertions don't write
pub record IsApart (table : Table) (entries : List (List ℕ)) (i : ℕ) : Type 0 where
  pub links : AreApart table.at table.buckets i 1
  pub taken : (k : ℕ) → k < length entries → AreApart (record_at table.pool k) (1 + length (slice_index_or entries k [])) i 1

-- the rows' records are written and chained, and no other word changed
pub record IsFilling (table : Table) (entries : List (List ℕ)) (initial array : List ℕ) : Type 0 where
  pub size : length array ≡ length initial
  pub room : (k : ℕ) → k < length entries → length (slice_index_or entries k []) < table.pool.size
  pub held : (k : ℕ) → k < length entries → HasEntry array (record_at table.pool k) (slice_index_or entries k [])
  pub chains : (bucket : ℕ) → bucket < table.buckets → Linked array (table.at + bucket) (chain_for table (map key_of entries) bucket)
  pub others : (i : ℕ) → IsApart table entries i → slice_index array i ≡ slice_index initial i

-- the link to the n-th record, as the next free one: 0 where there is none
abbrev pub free_link : Pool → ℕ → ℕ
free_link pool n = if nat_lt n pool.count then record_at pool n else 0

-- the free list has the records from the n-th on, the header counts n, and no other word changed
pub record Finishes (pool : Pool) (n : ℕ) (old new : List ℕ) : Type 0 where
  pub free : Linked new pool.base (free_from pool n)
  pub live : slice_index new (pool.base + 1) ≡ n
  pub others : (i : ℕ) → i ≢ pool.base → i ≢ pool.base + 1 → ((k : ℕ) → n ≤ k → k < pool.count → i ≢ record_at pool k + 1) → slice_index new i ≡ slice_index old i

-- no word changed but those of a record of this size at this word
abbrev pub KeepsOthers : ℕ → ℕ → List ℕ → List ℕ → Type 0
KeepsOthers at size old new = (i : ℕ) → AreApart at size i 1 → slice_index new i ≡ slice_index old i

-- behind whatever entries stand in the records before this index, these were inserted from it on
abbrev pub Inserts : Table → ℕ → List (List ℕ) → List ℕ → List ℕ → Type 0
Inserts table index more old new = (entries : List (List ℕ)) (initial : List ℕ) → length entries ≡ index →
    IsFilling table entries initial old → IsFilling table (entries ++ more) initial new

-- the entries of the subscribers from 1 to this one
abbrev pub entries_up_to : (ℕ → List (List ℕ)) → ℕ → List (List ℕ)
entries_up_to entries last = flat_map entries (range_with_len 1 last)

-- Into an empty table these entries were inserted, and then its free list and its header were written.
pub record FillsWith (table : Table) (entries : List (List ℕ)) (old new : List ℕ) : Type 0 where
  pub fits : FitsTable table (length old)
  pub few : length entries ≤ table.pool.count
  pub between : List ℕ
  pub filling : IsFilling table entries old between
  pub finishes : Finishes table.pool (length entries) between new

-- the table has a record for each of these entries
abbrev pub HasRoomFor : Table → List (List ℕ) → Type 0
HasRoomFor table entries = length entries ≤ table.pool.count

-- into the empty table the entries of the subscribers from 1 to this one were inserted
abbrev pub FillsUpTo : ℕ → (ℕ → List (List ℕ)) → Table → List ℕ → List ℕ → Type 0
FillsUpTo last entries table old new = FillsWith table (entries_up_to entries last) old new
