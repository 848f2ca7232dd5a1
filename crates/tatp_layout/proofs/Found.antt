-- Rows by their keys: which row has the record that a look-up finds, and what that says in the words of the requests.
use Rattle.std.proofs.Common.{◌≡◌, ◌≢◌, ℕ, zero, suc, ◌+◌, ◌-◌, ◌*◌, ◌⊎◌, inl, inr, Bool, true, false, List, [], ◌∷◌, map, get_or, All, Contains, Option, Some, None, slice_index, refl, sym, ap, ◌∙◌, subst, arith}
use Rattle.std.specs.Prelude.{◌==◌, ◌&&◌, find}
use Rattle.std.specs.List.{list_any}
use Rattle.std.specs.List.Sorted.{IsStrictlyIncreasing}
use Rattle.std.specs.Option.{option_map_or}
use Rattle.std.proofs.lemmas.Bool.{cases_Bool, cases_lt, both_ways, eqb-true, eq-eqb, and_parts, and_from, false_from_ne_true}
use Rattle.std.proofs.lemmas.List.{get_or_default}
use Rattle.std.proofs.lemmas.List.Elements.{All-contains, Contains-append_right}
use Rattle.hash_table.specs.declared.table.Table.{Table}
use Rattle.hash_table.specs.Table.{FindsAll, records_in}
use Rattle.hash_table.proofs.Maps.{IsAt, along, lookup-is_at}
use Rattle.tatp_model.specs.declared.access_row.AccessRow.{AccessRow}
use Rattle.tatp_model.specs.declared.call_row.CallRow.{CallRow}
use Rattle.tatp_model.specs.declared.fac_row.FacRow.{FacRow}
use Rattle.tatp_model.specs.declared.sub_row.SubRow.{SubRow}
use Rattle.dude_base.specs.declared.sizes.Sizes.{Sizes}
use Rattle.tatp_model.specs.Database.{Database, access_key, facility_key, call_key, IsAccessRow, IsFacRow, IsCallRow}
use Rattle.tatp_model.specs.Ranges.{IsId, IsKind}
use Rattle.tatp_model.specs.Transaction.{is_subscriber, has_phone, is_access, is_facility, is_call}
use Rattle.tatp_model.proofs.Calls.{fourths, key_names}
use Rattle.tatp_model.proofs.Facilities.{facility_key-is_facility}
use Rattle.tatp_model.proofs.Rising.{keys_differ}
use Rattle.tatp_layout.specs.Records.{RowForm, HoldsRow, subscriber_form, number_form, access_form, facility_form, call_form}
use Rattle.tatp_layout.specs.Layout.{subscriber_table, number_table, access_table, facility_table, call_table}
use Rattle.tatp_layout.specs.FoundRows.{FindsRow, FoundRow, HasKeysApart, HasNoRow, IsRowOf}
use Rattle.tatp_layout.specs.RecordCalls.{IsHeldRow}
use Rattle.tatp_layout.specs.StandsFor.{HasRows, StandsFor}

-- ---- lists of rows

pub rising_apart : {R : Type 0} (key : R → ℕ) (rows : List R) → IsStrictlyIncreasing (map key rows) → HasKeysApart key rows
rising_apart key rows rise = record { apart = keys_differ key rows rise }

-- the row at a place
at_place : {R : Type 0} (rows : List R) (r d : R) (c : Contains rows r) → get_or rows c.0 d ≡ r
at_place rows r d c = get_or_default rows c.0 d r c.1 ∙ c.2

-- so a key tells its row
pub same_row : {R : Type 0} (key : R → ℕ) (rows : List R) (r s : R) → HasKeysApart key rows → Contains rows r → Contains rows s → key r ≡ key s → r ≡ s
same_row key rows r s differ cr cs same =
    let at_r : get_or rows cr.0 r ≡ r = at_place rows r r cr in
    let at_s : get_or rows cs.0 r ≡ s = at_place rows s r cs in
    elim (cases_lt cr.0 cs.0) [
      | inl less ↦ absurd (differ.apart cr.0 cs.0 r less cs.1 (ap key at_r ∙ same ∙ sym (ap key at_s)))
      | inr not_less ↦ elim (cases_lt cs.0 cr.0) [
        | inl more ↦ absurd (differ.apart cs.0 cr.0 r more cr.1 (ap key at_s ∙ sym same ∙ sym (ap key at_r)))
        | inr not_more ↦ let one : cr.0 ≡ cs.0 = omega (arith, not_less, not_more) in sym at_r ∙ ap (λ k. get_or rows k r) one ∙ at_s
      ]
    ]

-- a row is the first, or one of the others
pub first_or_other : {R : Type 0} (r x : R) (rows : List R) → Contains (x ∷ rows) r → (x ≡ r) ⊎ Contains rows r
first_or_other r x rows (zero, below, is) = inl is
first_or_other r x rows (suc k, below, is) = inr (k, omega arith, is)

pub other_among : {R : Type 0} (r x : R) (rows : List R) → Contains rows r → Contains (x ∷ rows) r
other_among r x rows c = Contains-append_right (x ∷ []) rows r c

pub first_among : {R : Type 0} (x : R) (rows : List R) → Contains (x ∷ rows) x
first_among x rows = (0, omega arith, refl)

-- the one row that passes is found
pub find_only : {R : Type 0} (p : R → Bool) (rows : List R) (r : R) → Contains rows r → p r ≡ true → ((s : R) → Contains rows s → p s ≡ true → s ≡ r) → find p rows ≡ Some r
find_only p [] r c passes only = absurd (omega (arith, c.1))
find_only p (x ∷ rows) r c passes only =
    elim (cases_Bool (p x)) [
      | inl here ↦ rw here (ap Some (only x (first_among x rows) here))
      | inr not_here ↦ rw not_here (elim (first_or_other r x rows c) [
        | inl first ↦ absurd (both_ways _ (ap p (sym first) ∙ not_here) passes)
        | inr other ↦ find_only p rows r other passes (λ s among. only s (other_among s x rows among))
      ])
    ]

-- where none passes, none is found
pub find_nothing : {R : Type 0} (p : R → Bool) (rows : List R) → ((s : R) → Contains rows s → p s ≡ true → ⊥) → find p rows ≡ None
find_nothing p [] none = refl
find_nothing p (x ∷ rows) none =
    rw (false_from_ne_true (p x) (none x (first_among x rows))) (find_nothing p rows (λ s among. none s (other_among s x rows among)))

pub any_there : {R : Type 0} (p : R → Bool) (rows : List R) (r : R) → Contains rows r → p r ≡ true → list_any p rows ≡ true
any_there p [] r c passes = absurd (omega (arith, c.1))
any_there p (x ∷ rows) r c passes =
    elim (cases_Bool (p x)) [
      | inl here ↦ rw here refl
      | inr not_here ↦ rw not_here (elim (first_or_other r x rows c) [
        | inl first ↦ absurd (both_ways _ (ap p (sym first) ∙ not_here) passes)
        | inr other ↦ any_there p rows r other passes
      ])
    ]

pub any_nothing : {R : Type 0} (p : R → Bool) (rows : List R) → ((s : R) → Contains rows s → p s ≡ true → ⊥) → list_any p rows ≡ false
any_nothing p [] none = refl
any_nothing p (x ∷ rows) none =
    rw (false_from_ne_true (p x) (none x (first_among x rows))) (any_nothing p rows (λ s among. none s (other_among s x rows among)))

-- ---- rows in a table

-- what the answer of a look-up says of the rows
abbrev pub TellsRow : {R : Type 0} → RowForm R → List ℕ → List R → ℕ → Option ℕ → Type 0
TellsRow form array rows key None = HasNoRow form rows key
TellsRow form array rows key (Some at) = FoundRow form array rows key at

pub tells : {R : Type 0} {form : RowForm R} {table : Table} {array : List ℕ} {rows : List R} (key : ℕ) (r : Option ℕ) (h : HasRows form table array rows) → HasKeysApart form.key rows → IsAt array (records_in h.chains) key r → TellsRow form array rows key r
tells {form = form} {array = array} {rows = rows} key None h apart is = record {
  none = λ row among same.
      let held = h.held row among in
      is held.0 held.1 (held.2.key ∙ same);
}
tells {form = form} {array = array} {rows = rows} key (Some at) h apart is =
    let found = h.holds at is.0 in
    let key_is : form.key found.0 ≡ key = sym found.2.key ∙ is.1 in
    record {
      row = found.0;
      among = found.1;
      key_is = key_is;
      holds = found.2;
      only = λ other there same. same_row form.key rows other found.0 apart there found.1 (same ∙ sym key_is);
    }

pub tells_row : {R : Type 0} {form : RowForm R} {table : Table} {array : List ℕ} {rows : List R} (key : ℕ) (r : Option ℕ) → HasRows form table array rows → HasKeysApart form.key rows → FindsAll table array key r → TellsRow form array rows key r
tells_row {array = array} key r h apart finds =
    tells key r h apart (along (IsAt array (records_in h.chains) key) _ _ (sym (finds h.chains h.free h.lawful)) (lookup-is_at array (records_in h.chains) key))

-- a look-up that found no record
pub finds_no_row : {R : Type 0} {form : RowForm R} {IsRow : R → Type 0} {t table : Table} {array : List ℕ} {key : ℕ} {r : Option ℕ} → t ≡ table → r ≡ None → FindsAll t array key r → FindsRow form IsRow table key array None
finds_no_row {form = form} {array = array} {key} {r} is none finds = record {
  finds = λ rows h apart range. subst (TellsRow form array rows key) none (tells_row key r h apart (subst (λ t. FindsAll t array key r) is finds));
}

-- one that found a record, whose row was read
pub finds_the_row : {R : Type 0} {form : RowForm R} {IsRow : R → Type 0} {t table : Table} {array b : List ℕ} {key : ℕ} {r : Option ℕ} {at : ℕ} {got : R} → t ≡ table → r ≡ Some at → b ≡ array → FindsAll t array key r → IsHeldRow form IsRow at b got
    → FindsRow form IsRow table key array (Some got)
finds_the_row {form = form} {IsRow} {array = array} {key = key} {r = r} {at = at} is some same finds reads = record {
  finds = λ rows h apart range.
      let found = subst (TellsRow form array rows key) some (tells_row key r h apart (subst (λ t. FindsAll t array key r) is finds)) in
      (at, found, reads found.row (All-contains IsRow rows found.row range found.among) (subst (λ l. HoldsRow form l at found.row) (sym same) found.holds));
}

-- the same look-up, by equal keys and answers
pub finds_as : {R : Type 0} {form : RowForm R} {IsRow : R → Type 0} {table : Table} {array : List ℕ} {key k : ℕ} {r row : Option R} → key ≡ k → r ≡ row → FindsRow form IsRow table key array r → FindsRow form IsRow table k array row
finds_as {form = form} {IsRow} {table} {array} {key} {row = row} named is finds = subst (λ x. FindsRow form IsRow table x array row) named (subst (λ o. FindsRow form IsRow table key array o) is finds)

-- ---- from a key to a test

-- the rows with this key are those that pass the test
pub record TestsKey {R : Type 0} (form : RowForm R) (rows : List R) (key : ℕ) (p : R → Bool) : Type 0 where
  pub passes : (r : R) → Contains rows r → form.key r ≡ key → p r ≡ true
  pub named : (r : R) → Contains rows r → p r ≡ true → form.key r ≡ key

module _ {R : Type 0} {form : RowForm R} {rows : List R} {key : ℕ} (p : R → Bool) (test : TestsKey form rows key p) where
  pub find_none : HasNoRow form rows key → find p rows ≡ None
  find_none h = find_nothing p rows (λ s among passed. h.none s among (test.named s among passed))

  -- the row with the key is the first that passes
  pub row_found : (array : List ℕ) (row : Option R) → IsRowOf form array rows key row → row ≡ find p rows
  row_found array None h = sym (find_none h)
  row_found array (Some row) h = ap Some h.2 ∙ sym (find_only p rows h.1.row h.1.among (test.passes h.1.row h.1.among h.1.key_is) (λ s among passed. h.1.only s among (test.named s among passed)))

  pub any_none : HasNoRow form rows key → list_any p rows ≡ false
  any_none h = any_nothing p rows (λ s among passed. h.none s among (test.named s among passed))

  -- none passes this and another test
  pub any_neither : (q : R → Bool) → HasNoRow form rows key → list_any (λ r. p r && q r) rows ≡ false
  any_neither q h = any_nothing (λ r. p r && q r) rows (λ s among passed. h.none s among (test.named s among (and_parts (p s) (q s) passed).0))

  module _ {array : List ℕ} {at : ℕ} (f : FoundRow form array rows key at) where
    pub find_found : find p rows ≡ Some f.row
    find_found = find_only p rows f.row f.among (test.passes f.row f.among f.key_is) (λ s among passed. f.only s among (test.named s among passed))

    pub any_found : list_any p rows ≡ true
    any_found = any_there p rows f.row f.among (test.passes f.row f.among f.key_is)

    any_by : (q : R → Bool) (b : Bool) → q f.row ≡ b → list_any (λ r. p r && q r) rows ≡ b
    any_by q true holds = any_there (λ r. p r && q r) rows f.row f.among (and_from (p f.row) (q f.row) (test.passes f.row f.among f.key_is) holds)
    any_by q false fails = any_nothing (λ r. p r && q r) rows (λ s among passed.
        let parts = and_parts (p s) (q s) passed in
        both_ways _ (ap q (f.only s among (test.named s among parts.0)) ∙ fails) parts.1)

    -- some row passes this and another test exactly where the row found passes the other
    pub any_both : (q : R → Bool) → list_any (λ r. p r && q r) rows ≡ q f.row
    any_both q = any_by q (q f.row) refl

  -- some row passes this and another test exactly where the row with the key is there and passes the other
  pub any_by_row : (q : R → Bool) (array : List ℕ) (row : Option R) → IsRowOf form array rows key row → option_map_or q row false ≡ list_any (λ r. p r && q r) rows
  any_by_row q array None h = sym (any_neither q h)
  any_by_row q array (Some row) h = ap q h.2 ∙ sym (any_both h.1 q)

-- ---- the tables of a lawful array

module _ {s : Sizes} {array : List ℕ} {db : Database} (stands : StandsFor s array db) (key : ℕ) (r : Option ℕ) where
  pub told_subscriber : FindsAll (subscriber_table s) array key r → TellsRow subscriber_form array db.subscribers key r
  told_subscriber = tells_row key r stands.subscribers (rising_apart (λ r. r.s_id) db.subscribers stands.in_order.subscribers_rise)

  pub told_number : FindsAll (number_table s) array key r → TellsRow number_form array db.subscribers key r
  told_number = tells_row key r stands.numbers (record { apart = stands.in_order.phones_differ })

  pub told_access : FindsAll (access_table s) array key r → TellsRow access_form array db.access key r
  told_access = tells_row key r stands.access (rising_apart access_key db.access stands.in_order.access_rise)

  pub told_facility : FindsAll (facility_table s) array key r → TellsRow facility_form array db.facilities key r
  told_facility = tells_row key r stands.facilities (rising_apart facility_key db.facilities stands.in_order.facilities_rise)

  pub told_call : FindsAll (call_table s) array key r → TellsRow call_form array db.calls key r
  told_call = tells_row key r stands.calls (rising_apart call_key db.calls stands.in_order.calls_rise)

-- a number's record tells the id of its subscriber, whose record has the same row
pub number_tells_id : {array : List ℕ} {rows : List SubRow} {sub_nbr at : ℕ} (f : FoundRow number_form array rows sub_nbr at) → slice_index array (at + 2) ≡ f.row.s_id
number_tells_id f = f.holds.words.0

pub same_subscriber : {array : List ℕ} {rows : List SubRow} {sub_nbr number_at s_id at : ℕ} (f : FoundRow number_form array rows sub_nbr number_at) (g : FoundRow subscriber_form array rows s_id at) → f.row.s_id ≡ s_id → f.row ≡ g.row
same_subscriber f g same = g.only f.row f.among same

pub id_is_there : {array : List ℕ} {rows : List SubRow} {sub_nbr at s_id : ℕ} (f : FoundRow number_form array rows sub_nbr at) → HasNoRow subscriber_form rows s_id → f.row.s_id ≢ s_id
id_is_there f h same = h.none f.row f.among same

-- ---- the tests of the requests

pub tests_subscriber : (rows : List SubRow) (s_id : ℕ) → TestsKey subscriber_form rows s_id (is_subscriber s_id)
tests_subscriber rows s_id = record { passes = λ r among same. eq-eqb _ _ same; named = λ r among passed. eqb-true _ _ passed }

pub tests_phone : (rows : List SubRow) (sub_nbr : ℕ) → TestsKey number_form rows sub_nbr (has_phone sub_nbr)
tests_phone rows sub_nbr = record { passes = λ r among same. eq-eqb _ _ same; named = λ r among passed. eqb-true _ _ passed }

-- a row is found by a key of an id and a kind, where both are in range
names_pass : (s_id id kind wanted : ℕ) → IsKind kind → IsKind wanted → IsId s_id → IsId id → 4 * s_id + kind - 1 ≡ 4 * id + wanted - 1 → ((s_id == id) && (kind == wanted)) ≡ true
names_pass s_id id kind wanted of_row of_key in_row in_key same =
    let names = fourths s_id id kind wanted of_row.0 of_row.1 of_key.0 of_key.1 in_row.0 in_key.0 same in
    and_from (s_id == id) (kind == wanted) (eq-eqb _ _ names.0) (eq-eqb _ _ names.1)

pub tests_access : (rows : List AccessRow) (s_id ai_type : ℕ) → All IsAccessRow rows → IsId s_id → IsKind ai_type → TestsKey access_form rows (4 * s_id + ai_type - 1) (is_access s_id ai_type)
tests_access rows s_id ai_type in_range id kind = record {
  passes = λ r among same.
      let row = All-contains IsAccessRow rows r in_range among in
      names_pass r.s_id s_id r.ai_type ai_type row.ai_type kind row.s_id id same;
  named = λ r among passed.
      let names = and_parts (r.s_id == s_id) (r.ai_type == ai_type) passed in
      rw (eqb-true _ _ names.0, eqb-true _ _ names.1) refl;
}

pub tests_facility : (rows : List FacRow) (s_id sf_type : ℕ) → All IsFacRow rows → IsId s_id → IsKind sf_type → TestsKey facility_form rows (4 * s_id + sf_type - 1) (is_facility s_id sf_type)
tests_facility rows s_id sf_type in_range id kind = record {
  passes = λ r among same.
      let row = All-contains IsFacRow rows r in_range among in
      names_pass r.s_id s_id r.sf_type sf_type row.sf_type kind row.s_id id same;
  named = λ r among passed. facility_key-is_facility s_id sf_type r passed;
}

pub tests_call : (rows : List CallRow) (row : CallRow) → All IsCallRow rows → IsCallRow row → TestsKey call_form rows (call_key row) (is_call row.s_id row.sf_type row.start_time)
tests_call rows row in_range is = record {
  passes = λ r among same. key_names r row (All-contains IsCallRow rows r in_range among) is same;
  named = λ r among passed.
      let starts = and_parts ((r.s_id == row.s_id) && (r.sf_type == row.sf_type)) (r.start_time == row.start_time) passed in
      let names = and_parts (r.s_id == row.s_id) (r.sf_type == row.sf_type) starts.0 in
      rw (eqb-true _ _ names.0, eqb-true _ _ names.1, eqb-true _ _ starts.1) refl;
}
