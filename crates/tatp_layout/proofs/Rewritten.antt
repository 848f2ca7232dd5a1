-- The words of one record's row change.
use Rattle.std.proofs.Common.{◌≡◌, ◌≢◌, ℕ, ◌+◌, ◌<◌, ◌≤◌, ◌⊎◌, inl, inr, Bool, true, false, cond, List, [], ◌∷◌, length, map, get_or, Contains, slice_index, slice_set, refl, sym, ap, ◌∙◌, subst, arith, get_or-set_other, length-set}
use Rattle.std.proofs.lemmas.Bool.{cases_Bool, cases_eq, both_ways}
use Rattle.std.proofs.lemmas.List.{get_or-map, length-map}
use Rattle.std.proofs.lemmas.List.Elements.{Contains-get_or}
use Rattle.record_heap.specs.Changes.{ChangesOnly}
use Rattle.record_heap.specs.Pool.{IsRecord}
use Rattle.record_heap.proofs.Records.{records_apart}
use Rattle.hash_table.specs.declared.table.Table.{Table}
use Rattle.hash_table.specs.Ranges.{AreSeparate}
use Rattle.hash_table.specs.Table.{FitsTable, records_in}
use Rattle.hash_table.proofs.Frames.{SameTable, same_table-then, table_stays}
use Rattle.tatp_model.specs.Transaction.{update_where}
use Rattle.tatp_layout.specs.Records.{RowForm, HasWords, HoldsRow}
use Rattle.tatp_layout.specs.StandsFor.{HasRows}
use Rattle.tatp_layout.proofs.Stays.{ChangesTable, FitsRecord, SameRow, holds_same, row_beside, same_row-then, table_beside, taken_record}

-- ---- lists

pub contains_map : {X Y : Type 0} (f : X → Y) (xs : List X) (x : X) → Contains xs x → Contains (map f xs) (f x)
contains_map f xs x c = (c.0, omega (arith, c.1, length-map xs f), get_or-map f xs c.0 x (f x) c.1 ∙ ap f c.2)

pub contains_map_back : {X Y : Type 0} (f : X → Y) (xs : List X) (y : Y) → Contains (map f xs) y → (x : X) × Contains xs x × (f x ≡ y)
contains_map_back f [] y c = absurd (omega (arith, c.1))
contains_map_back f (x ∷ xs) y c =
    let below : c.0 < length (x ∷ xs) = omega (arith, c.1, length-map (x ∷ xs) f) in
    (get_or (x ∷ xs) c.0 x, Contains-get_or (x ∷ xs) c.0 x below, sym (get_or-map f (x ∷ xs) c.0 x y below) ∙ c.2)

-- ---- one record

-- no word changes but those behind the first two of the record at this word
pub record ChangesRow (record_size at : ℕ) (a b : List ℕ) : Type 0 where
  pub size : length b ≡ length a
  pub others : (i : ℕ) → (i < at + 2) ⊎ (at + record_size ≤ i) → slice_index b i ≡ slice_index a i

pub changes_row-here : {size at : ℕ} {a : List ℕ} → ChangesRow size at a a
changes_row-here = record { size = refl; others = λ i out. refl }

pub changes_row-then : {size at : ℕ} {a b c : List ℕ} → ChangesRow size at a b → ChangesRow size at b c → ChangesRow size at a c
changes_row-then s t = record { size = t.size ∙ s.size; others = λ i out. t.others i out ∙ s.others i out }

-- a write of such a word
pub changes_row-set : {size at : ℕ} (a : List ℕ) (j value : ℕ) → 2 ≤ j → j < size → ChangesRow size at a (slice_set a (at + j) value)
changes_row-set {size} {at} a j value from to = record {
  size = length-set a (at + j) value;
  others = λ i out. get_or-set_other a (at + j) i value 0 (elim out [ inl below ↦ omega (arith, below, from) | inr above ↦ omega (arith, above, to) ]);
}

-- one such word alone
pub changes_row-only : {size at : ℕ} {a b : List ℕ} (j : ℕ) → 2 ≤ j → j < size → ChangesOnly ((at + j) ∷ []) a b → ChangesRow size at a b
changes_row-only {at = at} j from to changes = record {
  size = changes.size;
  others = λ i out. changes.others i (elim out [ inl below ↦ omega (arith, below, from) | inr above ↦ omega (arith, above, to) ], tt);
}

module _ {table : Table} {n at : ℕ} {a b : List ℕ} (fits : FitsTable table n) (r : IsRecord table.pool at) (changes : ChangesRow table.pool.size at a b) where
  pub changes_row-table : ChangesTable table a b
  changes_row-table = record {
    size = changes.size;
    others = λ low high range i out. changes.others i (elim out [ inl below ↦ inl (omega (arith, below, range.record_from at r)) | inr above ↦ inr (omega (arith, above, range.record_to at r)) ]);
  }

  -- a word of the record's first two, or of another record
  elsewhere : (x j : ℕ) → IsRecord table.pool x → j < table.pool.size → (j < 2) ⊎ (x ≢ at) → slice_index b (x + j) ≡ slice_index a (x + j)
  elsewhere x j rx inside which = changes.others (x + j) (elim (cases_eq x at) [
    | inl one ↦ elim which [ inl first ↦ inl (omega (arith, one, first)) | inr other ↦ absurd (other one) ]
    | inr two ↦ elim (records_apart rx r two) [ inl before ↦ inl (omega (arith, before, inside)) | inr behind ↦ inr (omega (arith, behind)) ]
  ])

  pub changes_row-same : SameTable table a b
  changes_row-same =
      let wide = fits.pool.size in
      let header = fits.pool.apart at r in
      let links = fits.records at r in
      let first_same : (i : ℕ) → table.pool.base ≤ i → i < table.pool.base + 2 → slice_index b i ≡ slice_index a i =
      λ i from to. changes.others i (elim header [ inl before ↦ inl (omega (arith, before, to)) | inr behind ↦ inr (omega (arith, behind, from)) ]) in
      record {
        pool = record {
          first = first_same table.pool.base (omega arith) (omega arith);
          live = first_same (table.pool.base + 1) (omega arith) (omega arith);
          links = λ x rx. elsewhere x 1 rx (omega (arith, wide)) (inl (omega arith));
        };
        buckets = λ bucket below. changes.others (table.at + bucket) (elim links [ inl before ↦ inl (omega (arith, before, below)) | inr behind ↦ inr (omega (arith, behind)) ]);
        keys = λ x rx. changes.others x (elim (cases_eq x at) [
          | inl one ↦ inl (omega (arith, one))
          | inr two ↦ elim (records_apart rx r two) [ inl before ↦ inl (omega (arith, before, wide)) | inr behind ↦ inr behind ]
        ]);
      }

  pub changes_row-others : (x : ℕ) → IsRecord table.pool x → x ≢ at → SameRow table.pool.size x a b
  changes_row-others x rx differ = record {
    words = λ i from to other. changes.others i (elim (records_apart rx r differ) [ inl before ↦ inl (omega (arith, before, to)) | inr behind ↦ inr (omega (arith, behind, from)) ]);
  }

-- the table stays but for the row of the record at this word
pub record ChangesRecord (table : Table) (at : ℕ) (a b : List ℕ) : Type 0 where
  pub same : SameTable table a b
  pub others : (x : ℕ) → IsRecord table.pool x → x ≢ at → SameRow table.pool.size x a b

pub changes_record-then : {table : Table} {at : ℕ} {a b c : List ℕ} → ChangesRecord table at a b → ChangesRecord table at b c → ChangesRecord table at a c
changes_record-then s t = record { same = same_table-then s.same t.same; others = λ x r differ. same_row-then (s.others x r differ) (t.others x r differ) }

-- its words change
pub record_row : {table : Table} {n at : ℕ} {a b : List ℕ} → FitsTable table n → IsRecord table.pool at → ChangesRow table.pool.size at a b → ChangesRecord table at a b
record_row fits r changes = record { same = changes_row-same fits r changes; others = changes_row-others fits r changes }

-- another table changes
pub record_beside : {changed table : Table} {a b : List ℕ} (at : ℕ) → AreSeparate changed table → 2 ≤ table.pool.size → ChangesTable changed a b → ChangesRecord table at a b
record_beside at separate wide changes = record { same = table_beside separate wide changes; others = λ x r differ. row_beside separate wide changes x r }

-- ---- the rows

-- the test names this row alone, and no other row has its key
pub record NamesRow {R : Type 0} (form : RowForm R) (test : R → Bool) (rows : List R) (row : R) : Type 0 where
  pub passes : test row ≡ true
  pub names : (s : R) → Contains rows s → test s ≡ true → form.key s ≡ form.key row
  pub alone : (s : R) → Contains rows s → form.key s ≡ form.key row → s ≡ row

module _ {R : Type 0} {form : RowForm R} {table : Table} {at : ℕ} {a b : List ℕ} {rows : List R} {row : R}
    (room : FitsRecord form table.pool.size) (h : HasRows form table a rows) (among : Contains (records_in h.chains) at) (was : HoldsRow form a at row) (changes : ChangesRecord table at a b)
    (test : R → Bool) (rewrite : R → R) (named : NamesRow form test rows row) (there : Contains rows row) (now : HoldsRow form b at (rewrite row)) where
  abbrev changed : R → R
  changed s = cond (test s) (rewrite s) s

  rewritten : (s : R) → test s ≡ true → changed s ≡ rewrite s
  rewritten s e = ap (λ b. cond b (rewrite s) s) e

  kept : (s : R) → test s ≡ false → changed s ≡ s
  kept s e = ap (λ b. cond b (rewrite s) s) e

  -- a record whose row has the key is this one
  same_record : (x : ℕ) (s : R) → Contains (records_in h.chains) x → HoldsRow form a x s → form.key s ≡ form.key row → x ≡ at
  same_record x s c holds same = h.lawful.keys x at c among (holds.key ∙ same ∙ sym was.key)

  -- a record that isn't this one has a row that isn't this one
  passes_not : (x : ℕ) (s : R) → Contains (records_in h.chains) x → Contains rows s → HoldsRow form a x s → x ≢ at → test s ≡ false
  passes_not x s c cs holds differ = elim (cases_Bool (test s)) [ inl passes ↦ absurd (differ (same_record x s c holds (named.names s cs passes))) | inr fails ↦ fails ]

  differs : (x : ℕ) (s : R) → Contains rows s → HoldsRow form a x s → test s ≡ false → x ≢ at
  differs x s cs holds fails same =
      let one : s ≡ row = named.alone s cs (sym holds.key ∙ ap (λ i. slice_index a i) same ∙ was.key) in
      both_ways (test s) fails (ap test one ∙ named.passes)

  holds_other : (x : ℕ) (s : R) → Contains (records_in h.chains) x → x ≢ at → HoldsRow form a x s → HoldsRow form b x s
  holds_other x s c differ holds = holds_same room (changes.others x (taken_record h x c) differ) holds

  -- the rows with this one rewritten
  pub rows_rewritten : HasRows form table b (update_where test rewrite rows)
  rows_rewritten = record {
    chains = h.chains;
    free = h.free;
    lawful = table_stays h.chains h.free changes.same h.lawful;
    count = h.count ∙ sym (length-map rows changed);
    holds = λ x c. elim (cases_eq x at) [
      | inl one ↦ (rewrite row, subst (λ s. Contains (map changed rows) s) (rewritten row named.passes) (contains_map changed rows row there), subst (λ i. HoldsRow form b i (rewrite row)) (sym one) now)
      | inr two ↦
          let old = h.holds x c in
          let fails = passes_not x old.0 c old.1 old.2 two in
          (old.0, subst (λ s. Contains (map changed rows) s) (kept old.0 fails) (contains_map changed rows old.0 old.1), holds_other x old.0 c two old.2)
    ];
    held = λ s c.
        let back = contains_map_back changed rows s c in
        elim (cases_Bool (test back.0)) [
          | inl passes ↦
              let one : back.0 ≡ row = named.alone back.0 back.1 (named.names back.0 back.1 passes) in
              (at, among, subst (λ t. HoldsRow form b at t) (sym (rewritten row named.passes) ∙ ap changed (sym one) ∙ back.2) now)
          | inr fails ↦
              let old = h.held back.0 back.1 in
              (old.0, old.1, subst (λ t. HoldsRow form b old.0 t) (sym (kept back.0 fails) ∙ back.2) (holds_other old.0 back.0 old.1 (differs old.0 back.0 back.1 old.2 fails) old.2))
        ];
  }

-- rows that are rewritten but for their keys and words are in the same records
rows_same : {R : Type 0} {form : RowForm R} {table : Table} {a : List ℕ} {rows : List R} (change : R → R) → ((s : R) → form.key (change s) ≡ form.key s) → ((s : R) → form.words (change s) ≡ form.words s) → ((s : R) → form.Lengths s → form.Lengths (change s)) → HasRows form table a rows → HasRows form table a (map change rows)
rows_same {R} {form} {table} {a} {rows} change key words lengths h =
    let holds : (x : ℕ) (s : R) → HoldsRow form a x s → HoldsRow form a x (change s) = λ x s k. record { key = k.key ∙ sym (key s); words = subst (λ l. HasWords a (x + 2) l) (sym (words s)) k.words; lengths = lengths s k.lengths } in
    record {
      chains = h.chains;
      free = h.free;
      lawful = h.lawful;
      count = h.count ∙ sym (length-map rows change);
      holds = λ x c. let was = h.holds x c in (change was.0, contains_map change rows was.0 was.1, holds x was.0 was.2);
      held = λ s c.
          let back = contains_map_back change rows s c in
          let was = h.held back.0 back.1 in
          (was.0, was.1, subst (λ t. HoldsRow form a was.0 t) back.2 (holds was.0 back.0 was.2));
    }

-- a fact of both values
either : {R : Type 0} (P : R → Type 0) (b : Bool) (x y : R) → P x → P y → P (cond b x y)
either P true x y px py = px
either P false x y px py = py

-- rows of which some are rewritten so
pub rows_kept : {R : Type 0} {form : RowForm R} {table : Table} {a : List ℕ} {rows : List R} (test : R → Bool) (rewrite : R → R) → ((s : R) → form.key (rewrite s) ≡ form.key s) → ((s : R) → form.words (rewrite s) ≡ form.words s) → ((s : R) → form.Lengths s → form.Lengths (rewrite s)) → HasRows form table a rows → HasRows form table a (update_where test rewrite rows)
rows_kept {form = form} test rewrite key words lengths h = rows_same (λ s. cond (test s) (rewrite s) s)
    (λ s. either (λ t. form.key t ≡ form.key s) (test s) (rewrite s) s (key s) refl)
    (λ s. either (λ t. form.words t ≡ form.words s) (test s) (rewrite s) s (words s) refl)
    (λ s long. either form.Lengths (test s) (rewrite s) s (lengths s long) long) h
