-- A row is dropped: its record is free then.
use Rattle.std.proofs.Common.{◌≡◌, ◌≢◌, ℕ, ◌+◌, ◌%◌, ◌<◌, ◌≤◌, inl, inr, List, ◌∷◌, ◌++◌, length, Contains, slice_index, sym, ap, ◌∙◌, subst, arith}
use Rattle.std.proofs.lemmas.Bool.{cases_eq}
use Rattle.std.proofs.lemmas.List.Elements.{Contains-append_left}
use Rattle.std.proofs.lemmas.List.Sorted.{Contains-permutation, IsPermutation-sym, length_permutation}
use Rattle.std.specs.List.Sorted.{IsPermutation}
use Rattle.record_heap.specs.Pool.{IsRecord}
use Rattle.record_heap.proofs.Records.{none_twice, records_apart}
use Rattle.hash_table.specs.declared.table.Table.{Table}
use Rattle.hash_table.specs.Table.{Drops, FitsTable, records_in}
use Rattle.hash_table.proofs.Chains.{chain_among, differ_across, first_among, first_or_other, other_among, records_less}
use Rattle.hash_table.proofs.Insertions.{bucket_below}
use Rattle.hash_table.proofs.Maps.{IsAt, along, lookup-is_at}
use Rattle.hash_table.proofs.Removals.{link_cases}
use Rattle.tatp_layout.specs.Records.{RowForm}
use Rattle.tatp_layout.specs.StandsFor.{HasRows}
use Rattle.tatp_layout.proofs.Stays.{ChangesTable, FitsRecord, SameRow, holds_same, taken_record}

-- the rows but that with this key, in any order
pub record DropsRow {R : Type 0} (form : RowForm R) (key : ℕ) (rows less : List R) : Type 0 where
  pub count : length less + 1 ≡ length rows
  pub old : (s : R) → Contains rows s → form.key s ≢ key → Contains less s
  pub only : (s : R) → Contains less s → Contains rows s × (form.key s ≢ key)

module _ {R : Type 0} {form : RowForm R} {table : Table} {n key : ℕ} {a b : List ℕ} {rows : List R} (fits : FitsTable table n) (h : HasRows form table a rows) (drops : Drops table key h.chains h.free a b) where
  -- the record had the key
  pub dropped_at : Contains (records_in h.chains) drops.at × (slice_index a drops.at ≡ key)
  dropped_at = along (λ r. IsAt a (records_in h.chains) key r) _ _ drops.there (lookup-is_at a (records_in h.chains) key)

  dropped_record : IsRecord table.pool drops.at
  dropped_record = taken_record h drops.at dropped_at.0

  early_record : (y : ℕ) → Contains drops.before y → IsRecord table.pool y
  early_record y among = taken_record h y (chain_among h.chains (key % table.buckets) y (subst (λ (l : List ℕ). Contains l y) (sym drops.chain) (Contains-append_left drops.before (drops.at ∷ drops.behind) y among)))

  -- the chain's link and those of its records lie in each range that has the table's words, and are no word of a row
  -- no word of another table changes
  pub dropped_table : ChangesTable table a b
  dropped_table = record {
    size = drops.changes.size;
    others = λ low high range i out.
        let home = bucket_below key fits in
        let from = range.record_from drops.at dropped_record in
        let to = range.record_to drops.at dropped_record in
        drops.changes.others i (
          omega (arith, out, from, to, fits.pool.size),
          (
            omega (arith, out, range.header_from, range.header_to),
            (
              omega (arith, out, range.header_from, range.header_to),
              (
                (λ same. elim (link_cases (table.at + key % table.buckets) drops.before) [
                  | inl own ↦ omega (arith, same, own, out, range.links_from, range.links_to, home)
                  | inr other ↦ omega (arith, same, other.2, out, range.record_from other.0 (early_record other.0 other.1), range.record_to other.0 (early_record other.0 other.1), fits.pool.size)
                ]),
                tt,
              ),
            ),
          ),
        );
  }

  stays : (x : ℕ) → IsRecord table.pool x → SameRow table.pool.size x a b
  stays x rx =
      let home = bucket_below key fits in
      let header = fits.pool.apart x rx in
      let links = fits.records x rx in
      let wide = fits.pool.size in
      let no_link : (y i : ℕ) → IsRecord table.pool y → x ≤ i → i < x + table.pool.size → i ≢ x + 1 → i ≢ y + 1 =
      λ y i ry from to other same. elim (cases_eq x y) [ inl one ↦ omega (arith, same, one, other) | inr two ↦ omega (arith, same, records_apart rx ry two, from, to, wide) ] in
      record {
        words = λ i from to other.
            drops.changes.others i (
              no_link drops.at i dropped_record from to other,
              (
                omega (arith, header, from, to),
                (
                  omega (arith, header, from, to),
                  (
                    (λ same. elim (link_cases (table.at + key % table.buckets) drops.before) [
                      | inl own ↦ omega (arith, same, own, links, from, to, home)
                      | inr before ↦ no_link before.0 i (early_record before.0 before.1) from to other (same ∙ before.2)
                    ]),
                    tt,
                  ),
                ),
              ),
            );
      }

  fewer : IsPermutation (records_in h.chains) (drops.at ∷ records_in drops.after)
  fewer = subst (λ (l : List (List ℕ)). IsPermutation (records_in h.chains) (drops.at ∷ records_in l)) (sym drops.rest) (records_less h.chains (key % table.buckets) drops.at drops.before drops.behind (omega (arith, h.lawful.buckets, bucket_below key fits)) drops.chain)

  was_among : (x : ℕ) → Contains (records_in drops.after) x → Contains (records_in h.chains) x
  was_among x c = Contains-permutation _ _ x (IsPermutation-sym _ _ fewer) (other_among x drops.at (records_in drops.after) c)

  differs : (x : ℕ) → Contains (records_in drops.after) x → slice_index a x ≢ key
  differs x c same =
      let one : x ≡ drops.at = h.lawful.keys x drops.at (was_among x c) dropped_at.0 (same ∙ sym dropped_at.1) in
      differ_across drops.at x (drops.at ∷ h.free) (records_in drops.after) (none_twice table.pool (drops.at ∷ h.free ++ records_in drops.after) drops.lawful.pool.once (omega (arith, fits.pool.size))) (first_among drops.at h.free) c (sym one)

  -- the other rows
  pub rows_dropped : {less : List R} → FitsRecord form table.pool.size → DropsRow form key rows less → HasRows form table b less
  rows_dropped {less} room removed = record {
    chains = drops.after;
    free = drops.at ∷ h.free;
    lawful = drops.lawful;
    count = omega (arith, length_permutation (records_in h.chains) (drops.at ∷ records_in drops.after) fewer, h.count, removed.count);
    holds = λ x c.
        let was = h.holds x (was_among x c) in
        (was.0, removed.old was.0 was.1 (λ same. differs x c (was.2.key ∙ same)), holds_same room (stays x (taken_record h x (was_among x c))) was.2);
    held = λ s c.
        let kept = removed.only s c in
        let was = h.held s kept.0 in
        elim (first_or_other was.0 drops.at (records_in drops.after) (Contains-permutation _ _ was.0 fewer was.1)) [
          | inl first ↦ absurd (kept.1 (sym was.2.key ∙ ap (λ i. slice_index a i) first ∙ dropped_at.1))
          | inr other ↦ (was.0, other, holds_same room (stays was.0 (taken_record h was.0 was.1)) was.2)
        ];
  }
