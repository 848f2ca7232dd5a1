-- Rows by their keys, as look-ups find them.
use Rattle.std.specs.Prelude.{◌≡◌, ◌≢◌, ℕ, List, All, AllPairs, Contains, Option, Some, None}
use Rattle.hash_table.specs.declared.table.Table.{Table}
use Rattle.tatp_layout.specs.Records.{HoldsRow, RowForm}
use Rattle.tatp_layout.specs.StandsFor.{HasRows}

-- no two rows have one key
pub record HasKeysApart {R : Type 0} (key : R → ℕ) (rows : List R) : Type 0 where
  pub apart : AllPairs (λ r s. key r ≢ key s) rows

-- the record at this word has the row with this key, the only one of the rows
pub record FoundRow {R : Type 0} (form : RowForm R) (array : List ℕ) (rows : List R) (key at : ℕ) : Type 0 where
  pub row : R
  pub among : Contains rows row
  pub key_is : form.key row ≡ key
  pub holds : HoldsRow form array at row
  pub only : (other : R) → Contains rows other → form.key other ≡ key → other ≡ row

-- none of the rows has this key
pub record HasNoRow {R : Type 0} (form : RowForm R) (rows : List R) (key : ℕ) : Type 0 where
  pub none : (row : R) → Contains rows row → form.key row ≢ key

-- it is the row with this key, which a record has; or none of the rows has the key
abbrev pub IsRowOf : {R : Type 0} → RowForm R → List ℕ → List R → ℕ → Option R → Type 0
IsRowOf form array rows key None = HasNoRow form rows key
IsRowOf form array rows key (Some row) = (at : ℕ) × (found : FoundRow form array rows key at) × (row ≡ found.row)

-- where the table has rows that are in range, and no two of them have one key: the answer is the one with this key
pub record FindsRow {R : Type 0} (form : RowForm R) (IsRow : R → Type 0) (table : Table) (key : ℕ) (array : List ℕ) (row : Option R) : Type 0 where
  pub finds : (rows : List R) → HasRows form table array rows → HasKeysApart form.key rows → All IsRow rows → IsRowOf form array rows key row
