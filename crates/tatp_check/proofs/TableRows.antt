-- The rows of one table in which nothing is wrong.
use Rattle.std.proofs.Common.{◌≡◌, ◌≢◌, ℕ, ◌≤◌, List, length, map, All, AllPairs, Contains, slice_index, sym, ap, ◌∙◌, subst}
use Rattle.std.proofs.lemmas.List.{length-map}
use Rattle.std.specs.List.Sorted.{IsStrictlyIncreasing}
use Rattle.hash_table.specs.declared.table.Table.{Table}
use Rattle.hash_table.specs.Table.{records_in}
use Rattle.tatp_layout.specs.Records.{RowForm, HoldsRow}
use Rattle.tatp_layout.specs.StandsFor.{HasRows}
use Rattle.tatp_check.specs.declared.taken.Taken.{Taken}
use Rattle.tatp_check.specs.Taken.{records_taken, records_by_key}
use Rattle.tatp_check.specs.Whole.{KeepsWhole}
use Rattle.tatp_check.proofs.ByKey.{by_key_in, in_by_key, by_key_rises, by_key_differ, by_key_length}
use Rattle.tatp_check.proofs.LawfulTable.{one_record, pairs_front, whole_table}
use Rattle.tatp_check.proofs.Mapped.{all_mapped, contains_map, contains_mapped, map_agree, map_map}

module _ (content : ℕ → ℕ → Type 0) (table : Table) (array : List ℕ) (wide : 2 ≤ table.pool.size) (taken : Taken) (keeps : KeepsWhole content table array taken) where
  pub among : (at : ℕ) → Contains (records_taken taken) at → Contains (records_in keeps.whole.chains) at
  among at c = subst (λ l. Contains l at) keeps.whole.taken_is c

  pub back : (at : ℕ) → Contains (records_in keeps.whole.chains) at → Contains (records_taken taken) at
  back at c = subst (λ l. Contains l at) (sym keeps.whole.taken_is) c

  pub one : (x y : ℕ) → Contains (records_taken taken) x → Contains (records_taken taken) y → slice_index array x ≡ slice_index array y → x ≡ y
  one x y cx cy same = one_record content table array wide keeps.whole.chains keeps.whole.free keeps.whole.whole x y (among x cx) (among y cy) same

  pub apart : AllPairs (λ x y. x ≢ y) (records_taken taken)
  apart = subst (AllPairs (λ x y. x ≢ y)) (sym keeps.whole.taken_is) (pairs_front (λ x y. x ≢ y) (records_in keeps.whole.chains) keeps.whole.free keeps.whole.whole.pool.met.list.met.differ)

  -- the records in rising order of key are just those in chains
  pub ordered_in : (at : ℕ) → Contains (records_by_key taken) at → Contains (records_taken taken) at
  ordered_in at c = by_key_in array (records_taken taken) taken keeps.keeps at c

  pub in_ordered : (at : ℕ) → Contains (records_taken taken) at → Contains (records_by_key taken) at
  in_ordered at c = in_by_key array (records_taken taken) taken keeps.keeps one at c

  pub ordered_differ : AllPairs (λ x y. slice_index array x ≢ slice_index array y) (records_by_key taken)
  ordered_differ = by_key_differ array (records_taken taken) taken keeps.keeps one

  pub ordered_length : length (records_by_key taken) ≡ length (records_taken taken)
  ordered_length = by_key_length array (records_taken taken) taken keeps.keeps one apart

  -- Where the row of each record is one that it holds:
  module _ {R : Type 0} (form : RowForm R) (row_in : ℕ → R) (holds : (at : ℕ) → Contains (records_taken taken) at → HoldsRow form array at (row_in at)) where
    -- the table has these rows
    pub rows_had : HasRows form table array (map row_in (records_by_key taken))
    rows_had = record {
      chains = keeps.whole.chains;
      free = keeps.whole.free;
      lawful = whole_table content table array wide keeps.whole.chains keeps.whole.free keeps.whole.whole;
      count = ap length (sym keeps.whole.taken_is) ∙ sym ordered_length ∙ sym (length-map (records_by_key taken) row_in);
      holds = λ at c. (row_in at, contains_map row_in (records_by_key taken) at (in_ordered at (back at c)), holds at (back at c));
      held = λ row c.
          let from = contains_mapped row_in (records_by_key taken) row c in
          let there = ordered_in from.0 from.1 in
          (from.0, among from.0 there, subst (HoldsRow form array from.0) from.2 (holds from.0 there));
    }

    -- in the records that were taken
    pub rows_taken : records_in rows_had.chains ≡ records_taken taken
    unfolding rows_had
    rows_taken = sym keeps.whole.taken_is

    -- they rise by key
    pub rows_rise : IsStrictlyIncreasing (map form.key (map row_in (records_by_key taken)))
    rows_rise =
        subst IsStrictlyIncreasing
        (map_agree (λ at. slice_index array at) (λ at. form.key (row_in at)) (records_by_key taken) (λ at c. (holds at (ordered_in at c)).key) ∙ sym (map_map form.key row_in (records_by_key taken)))
        (by_key_rises array (records_taken taken) taken keeps.keeps)

    -- what holds of each of them
    pub rows_all : (P : R → Type 0) → ((at : ℕ) → Contains (records_taken taken) at → P (row_in at)) → All P (map row_in (records_by_key taken))
    rows_all P each = all_mapped P row_in (records_by_key taken) (λ at c. each at (ordered_in at c))
