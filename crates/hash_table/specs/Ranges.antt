-- Tables that stand beside each other in one array.
use Rattle.std.specs.Prelude.{ℕ, ◌+◌, ◌≤◌, ◌⊎◌}
use Rattle.record_heap.specs.Pool.{IsRecord}
use Rattle.hash_table.specs.declared.table.Table.{Table}

-- all words of a table lie from `low` on and below `high`
pub record FitsRange (table : Table) (low high : ℕ) : Type 0 where
  pub header_from : low ≤ table.pool.base
  pub header_to : table.pool.base + 2 ≤ high
  pub links_from : low ≤ table.at
  pub links_to : table.at + table.buckets ≤ high
  pub record_from : (at : ℕ) → IsRecord table.pool at → low ≤ at
  pub record_to : (at : ℕ) → IsRecord table.pool at → at + table.pool.size ≤ high

-- all words of one table lie before those of the other
pub record AreSeparate (first second : Table) : Type 0 where
  pub first_low : ℕ
  pub first_high : ℕ
  pub second_low : ℕ
  pub second_high : ℕ
  pub of_first : FitsRange first first_low first_high
  pub of_second : FitsRange second second_low second_high
  pub apart : (first_high ≤ second_low) ⊎ (second_high ≤ first_low)
