-- The word at which a walk through a table first finds something wrong.
use Rattle.std.specs.Prelude.{◌≡◌, ◌≢◌, ℕ, zero, suc, ◌+◌, ◌<◌, ◌⊎◌, List, ◌++◌, length, All, slice_index}
use Rattle.hash_table.specs.declared.table.Table.{Table}
use Rattle.hash_table.specs.Table.{link_after, records_in}
use Rattle.tatp_check.specs.declared.check_fault.CheckFault.{CheckFault}
use Rattle.tatp_check.specs.declared.check_fault.CheckFault.TheVariants.{NotDb, NoMemory}
use Rattle.tatp_check.specs.Marks.{IsNew}
use Rattle.tatp_check.specs.Pools.{IsWrongLink, IsWrongPool}
use Rattle.tatp_check.specs.Walk.{Fits, HasMet, HasMetChains}

-- what the offset has to hold of a record that comes behind those met: its key is also that of none of them
abbrev pub FitsNew : (ℕ → ℕ → Type 0) → Table → List ℕ → ℕ → List ℕ → ℕ → ℕ → Type 0
FitsNew content table array bucket met at zero = Fits content table array bucket at zero × All (λ x. slice_index array x ≢ slice_index array at) met
FitsNew content table array bucket met at (suc behind) = Fits content table array bucket at (suc behind)

-- the first word of the record that doesn't hold what it has to
pub record IsWrongRecord (content : ℕ → ℕ → Type 0) (table : Table) (array : List ℕ) (bucket : ℕ) (met : List ℕ) (at word : ℕ) : Type 0 where
  pub new : IsNew table.pool met at
  pub offset : ℕ
  pub inside : offset < table.pool.size
  pub before : (other : ℕ) → other < offset → FitsNew content table array bucket met at other
  pub wrong : ¬ FitsNew content table array bucket met at offset
  pub word_is : word ≡ at + offset

-- what comes next behind the records met in the chains: a wrong link, or a link to a record that is wrong
abbrev pub IsWrongNext : (ℕ → ℕ → Type 0) → Table → List ℕ → ℕ → List ℕ → ℕ → ℕ → Type 0
IsWrongNext content table array bucket met link word =
    (IsWrongLink table.pool array met link × (word ≡ link)) ⊎ IsWrongRecord content table array bucket met (slice_index array link) word

-- the wrong word is found in the chains
pub record IsInChains (content : ℕ → ℕ → Type 0) (table : Table) (array : List ℕ) (word : ℕ) : Type 0 where
  pub chains : List (List ℕ)
  pub part : List ℕ
  pub met : HasMet content table array chains part
  pub bucket : length chains < table.buckets
  pub next : IsWrongNext content table array (length chains) (records_in chains ++ part) (link_after (table.at + length chains) part) word

-- the wrong word is found behind the chains, in the pool
pub record IsInPool (content : ℕ → ℕ → Type 0) (table : Table) (array : List ℕ) (word : ℕ) : Type 0 where
  pub chains : List (List ℕ)
  pub met : HasMetChains content table array chains
  pub wrong : IsWrongPool table.pool array (records_in chains) word

-- the first word at which something is wrong in the table
abbrev pub IsFirstWrong : (ℕ → ℕ → Type 0) → Table → List ℕ → ℕ → Type 0
IsFirstWrong content table array word = IsInChains content table array word ⊎ IsInPool content table array word

-- why a table was refused: a word of which this holds; or want of memory, which is free
abbrev pub IsCause : (ℕ → Type 0) → CheckFault → Type 0
IsCause IsWord (NotDb word) = IsWord word
IsCause IsWord NoMemory = Unit {0}

-- why an array was refused by a call that takes no memory: a word of which this holds
abbrev pub NamesWord : (ℕ → Type 0) → CheckFault → Type 0
NamesWord IsWord (NotDb word) = IsWord word
NamesWord IsWord NoMemory = ⊥
