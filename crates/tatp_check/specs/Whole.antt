-- A table in which nothing is wrong.
use Rattle.std.specs.Prelude.{◌≡◌, ℕ, List}
use Rattle.hash_table.specs.declared.table.Table.{Table}
use Rattle.hash_table.specs.Table.{records_in}
use Rattle.tatp_check.specs.declared.taken.Taken.{Taken}
use Rattle.tatp_check.specs.Taken.{AreTaken, records_taken}
use Rattle.tatp_check.specs.Walk.{IsWhole}

-- nothing is wrong in the table, and these are the records in its chains, in the order of the walk
pub record HasWhole (content : ℕ → ℕ → Type 0) (table : Table) (array : List ℕ) (taken : List ℕ) : Type 0 where
  pub chains : List (List ℕ)
  pub free : List ℕ
  pub whole : IsWhole content table array chains free
  pub taken_is : taken ≡ records_in chains

-- nothing is wrong in the table, and the records in its chains are found by their keys
pub record KeepsWhole (content : ℕ → ℕ → Type 0) (table : Table) (array : List ℕ) (taken : Taken) : Type 0 where
  pub whole : HasWhole content table array (records_taken taken)
  pub keeps : AreTaken array (records_taken taken) taken
