-- A row is stored in a record that was free.
use Rattle.std.proofs.Common.{slice_index, ◌≡◌, ◌≢◌, ℕ, ◌+◌, ◌%◌, ◌<◌, ◌⊎◌, inl, inr, List, [], ◌∷◌, ◌++◌, length, length-append, Contains, sym, ap, ◌∙◌, subst, arith}
use Rattle.std.proofs.lemmas.List.Sorted.{Contains-permutation, IsPermutation-sym, length_permutation}
use Rattle.std.specs.List.Sorted.{IsPermutation}
use Rattle.record_heap.specs.Pool.{IsRecord}
use Rattle.record_heap.proofs.Records.{as_many, none_twice, records_apart}
use Rattle.hash_table.specs.declared.table.Table.{Table}
use Rattle.hash_table.specs.Table.{FitsTable, Stores, records_in}
use Rattle.hash_table.proofs.Chains.{differ_across, first_among, first_or_other, other_among, records_more}
use Rattle.hash_table.proofs.Frames.{table_stays}
use Rattle.hash_table.proofs.Insertions.{bucket_below, each_record}
use Rattle.hash_table.proofs.Maps.{IsAt, along, lookup-is_at}
use Rattle.tatp_layout.specs.Records.{RowForm, HoldsRow}
use Rattle.tatp_layout.specs.StandsFor.{HasRows}
use Rattle.tatp_layout.proofs.Rewritten.{ChangesRow, changes_row-others, changes_row-same}
use Rattle.tatp_layout.proofs.Stays.{ChangesTable, FitsRecord, SameRow, holds_same, same_row-then, taken_record}

-- the rows and this one more, in any order
pub record AddsRow {R : Type 0} (row : R) (rows more : List R) : Type 0 where
  pub count : length more ≡ length rows + 1
  pub new : Contains more row
  pub old : (s : R) → Contains rows s → Contains more s
  pub only : (s : R) → Contains more s → (s ≡ row) ⊎ Contains rows s

-- where no record is free, there are as many rows as records
pub rows_full : {R : Type 0} {form : RowForm R} {table : Table} {a : List ℕ} {rows : List R} (h : HasRows form table a rows) → h.free ≡ [] → length rows ≡ table.pool.count
rows_full {table = table} h none = sym h.count ∙ sym (ap (λ (l : List ℕ). length (l ++ records_in h.chains)) none) ∙ as_many table.pool (h.free ++ records_in h.chains) h.lawful.pool.once

-- where one is, there are fewer
pub rows_fewer : {R : Type 0} {form : RowForm R} {table : Table} {a : List ℕ} {rows : List R} (at : ℕ) (left : List ℕ) (h : HasRows form table a rows) → h.free ≡ at ∷ left → length rows < table.pool.count
rows_fewer {table = table} at left h some =
    omega (arith, h.count, length-append h.free (records_in h.chains), ap length some, as_many table.pool (h.free ++ records_in h.chains) h.lawful.pool.once)

module _ {R : Type 0} {form : RowForm R} {table : Table} {n key at : ℕ} {a b : List ℕ} {rows : List R} (fits : FitsTable table n) (h : HasRows form table a rows) (stores : Stores table key at h.chains h.free a b) where
  free_first : Contains h.free at
  free_first = subst (λ (l : List ℕ). Contains l at) (sym stores.first) (first_among at stores.left)

  pub stored_record : IsRecord table.pool at
  stored_record = each_record h.chains h.free h.lawful at (along (λ l. Contains (l ++ records_in h.chains) at) _ _ (sym stores.first) (first_among at (stores.left ++ records_in h.chains)))

  -- its word 0 is the key
  pub stored_key : slice_index b at ≡ key
  stored_key = (along (IsAt b (records_in stores.after) key) _ _ stores.there (lookup-is_at b (records_in stores.after) key)).1

  -- a taken record is another one
  pub stored_other : (x : ℕ) → Contains (records_in h.chains) x → x ≢ at
  stored_other x c same = differ_across at x h.free (records_in h.chains) (none_twice table.pool (h.free ++ records_in h.chains) h.lawful.pool.once (omega (arith, fits.pool.size))) free_first c (sym same)

  moved : IsPermutation (at ∷ records_in h.chains) (records_in stores.after)
  moved = subst (λ (l : List (List ℕ)). IsPermutation (at ∷ records_in h.chains) (records_in l)) (sym stores.pushed) (records_more h.chains (key % table.buckets) at (omega (arith, h.lawful.buckets, bucket_below key fits)))

  stays : (x : ℕ) → Contains (records_in h.chains) x → SameRow table.pool.size x a b
  stays x c =
      let rx = taken_record h x c in
      let apart = records_apart rx stored_record (stored_other x c) in
      let header = fits.pool.apart x rx in
      let links = fits.records x rx in
      let home = bucket_below key fits in
      let wide = fits.pool.size in
      record { words = λ i from to other. stores.changes.others i (omega (arith, apart, from, to, wide), (omega (arith, apart, from, to, wide), (omega (arith, header, from, to), (omega (arith, header, from, to), (omega (arith, links, home, from, to), tt))))) }

  -- no word of another table changes
  pub stored_table : ChangesTable table a b
  stored_table = record {
    size = stores.changes.size;
    others = λ low high range i out.
        let from = range.record_from at stored_record in
        let to = range.record_to at stored_record in
        let home = bucket_below key fits in
        stores.changes.others i (omega (arith, out, from, to, fits.pool.size), (omega (arith, out, from, to, fits.pool.size), (omega (arith, out, range.header_from, range.header_to), (omega (arith, out, range.header_from, range.header_to), (omega (arith, out, range.links_from, range.links_to, home), tt)))));
  }

  -- the rows, once the words of the new one were written
  pub rows_stored : {c : List ℕ} {row : R} {more : List R} → FitsRecord form table.pool.size → ChangesRow table.pool.size at b c → HoldsRow form c at row → AddsRow row rows more → HasRows form table c more
  rows_stored {c} {row} {more} room changes now adds =
      let same : (x : ℕ) → Contains (records_in h.chains) x → SameRow table.pool.size x a c = λ x among. same_row-then (stays x among) (changes_row-others fits stored_record changes x (taken_record h x among) (stored_other x among)) in
      record {
        chains = stores.after;
        free = stores.left;
        lawful = table_stays stores.after stores.left (changes_row-same fits stored_record changes) stores.lawful;
        count = length_permutation (at ∷ records_in h.chains) (records_in stores.after) moved ∙ omega (arith, h.count, adds.count);
        holds = λ x among. elim (first_or_other x at (records_in h.chains) (Contains-permutation _ _ x (IsPermutation-sym _ _ moved) among)) [
          | inl first ↦ (row, adds.new, subst (λ i. HoldsRow form c i row) (sym first) now)
          | inr other ↦ let was = h.holds x other in (was.0, adds.old was.0 was.1, holds_same room (same x other) was.2)
        ];
        held = λ s among. elim (adds.only s among) [
          | inl new ↦ (at, Contains-permutation _ _ at moved (first_among at (records_in h.chains)), subst (λ t. HoldsRow form c at t) (sym new) now)
          | inr old ↦ let was = h.held s old in (was.0, Contains-permutation _ _ was.0 moved (other_among was.0 at (records_in h.chains) was.1), holds_same room (same was.0 was.1) was.2)
        ];
      }
