-- What a walk along one chain finds.
use Rattle.std.specs.Prelude.{◌≡◌, ◌≢◌, ℕ, ◌+◌, ◌%◌, List, ◌∷◌, ◌++◌, Option, Some, None, All, slice_index, slice_set}
use Rattle.record_heap.specs.Pool.{IsFirstFree}
use Rattle.hash_table.specs.declared.put.Put.{Put}
use Rattle.hash_table.specs.declared.put.Put.TheVariants.{There, Full, Stored}
use Rattle.hash_table.specs.declared.table.ChainPosition.{ChainPosition}
use Rattle.hash_table.specs.declared.table.Table.{Table}
use Rattle.hash_table.specs.Table.{Drops, IsTable, chain_of, link_after}
use Rattle.hash_table.specs.Walk.{IsChainOf}

-- the first record with the key stands in the chain between these, and its link was met
pub record IsAmid (array : List ℕ) (link key : ℕ) (chain : List ℕ) (position : ChainPosition) : Type 0 where
  pub before : List ℕ
  pub behind : List ℕ
  pub split : chain ≡ before ++ position.record ∷ behind
  pub met : position.link ≡ link_after link before
  pub absent : All (λ at. slice_index array at ≢ key) before
  pub holds : slice_index array position.record ≡ key

-- a walk along a chain that begins at the word `link` finds the first record with the key, if there is one
abbrev pub Seeks : List ℕ → ℕ → ℕ → List ℕ → Option ChainPosition → Type 0
Seeks array link key chain None = All (λ at. slice_index array at ≢ key) chain
Seeks array link key chain (Some position) = IsAmid array link key chain position

-- the walk for a key in any array
pub record SeeksFirst (table : Table) (key : ℕ) (array : List ℕ) (result : Option ChainPosition) : Type 0 where
  pub chain : List ℕ
  pub is : IsChainOf table key array chain
  pub seeks : Seeks array (table.at + key % table.buckets) key chain result

-- what `store` answers in any array
abbrev pub PutsFree : Table → List ℕ → Put → Type 0
PutsFree table array (There at) = ⊥
PutsFree table array Full = IsFirstFree table.pool array None
PutsFree table array (Stored at) = IsFirstFree table.pool array (Some at)

-- the array with the key and the link of the old head in the record at this word, which its bucket links
abbrev pub pushed_front : Table → ℕ → ℕ → ℕ → List ℕ → List ℕ
pushed_front table key at head array = slice_set (slice_set (slice_set array at key) (at + 1) head) (table.at + key % table.buckets) at

-- in every way in which the array is a table where a walk for a key meets this position, its record is dropped
abbrev pub DropsAt : Table → ChainPosition → List ℕ → List ℕ → Unit {0} → Type 0
DropsAt table position old new done =
    (chains : List (List ℕ)) (free : List ℕ) (key : ℕ) → IsTable table old chains free
    → IsAmid old (table.at + key % table.buckets) key (chain_of chains (key % table.buckets)) position → Drops table key chains free old new
