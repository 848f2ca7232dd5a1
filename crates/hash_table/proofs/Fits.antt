-- Tables that may be used, by the runs of their words.
use Rattle.std.proofs.Common.{ℕ, ◌+◌, ◌*◌, ◌<◌, ◌≤◌, inl, inr, arith}
use Rattle.std.proofs.Math.Nat.{mul-le-mul_left}
use Rattle.record_heap.specs.declared.pool.Pool.{Pool}
use Rattle.record_heap.specs.Pool.{IsRecord, AreApart}
use Rattle.record_heap.proofs.Pools.{fits_behind}
use Rattle.hash_table.specs.declared.table.Table.{Table}
use Rattle.hash_table.specs.Table.{FitsTable}

-- a record lies within the run of all records
pub record_ends : {pool : Pool} {at : ℕ} → IsRecord pool at → (pool.first ≤ at) × (at + pool.size ≤ pool.first + pool.size * pool.count)
record_ends {pool} r =
    let step : pool.size * (r.index + 1) ≤ pool.size * pool.count = mul-le-mul_left pool.size (omega (arith, r.below)) in
    (omega (arith, r.is), omega (arith, r.is, step))

-- the records lie behind the header, and the links lie between these two or behind both
pub table_fits : (table : Table) (n : ℕ) → 0 < table.buckets → table.pool.base + 2 ≤ table.pool.first → 2 ≤ table.pool.size → table.pool.first + table.pool.size * table.pool.count ≤ n → table.at + table.buckets ≤ n →
    AreApart table.at table.buckets table.pool.base 2 → AreApart table.at table.buckets table.pool.first (table.pool.size * table.pool.count) → FitsTable table n
table_fits table n some behind wide whole links header records = record {
  buckets = some;
  pool = fits_behind table.pool n behind wide whole;
  links = links;
  header = header;
  records = λ at r.
      let ends = record_ends r in
      elim records [
        | inl before ↦ inl (omega (arith, before, ends.0))
        | inr after ↦ inr (omega (arith, after, ends.1))
      ];
}
