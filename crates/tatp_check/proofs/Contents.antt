-- The test of each kind of table tells what its records may hold; and a record that holds what it may has a row in range.
use Rattle.std.proofs.Common.{◌≡◌, ℕ, ◌+◌, ◌^◌, ◌<◌, ◌≤◌, ◌↔◌, List, Bool, true, slice_index, sym, ◌∙◌, subst, arith}
use Rattle.std.specs.Bool.{IsTrue}
use Rattle.std.proofs.lemmas.Bool.{ltb-true}
use Rattle.hash_table.specs.declared.table.Table.{Table}
use Rattle.tatp_model.specs.Database.{IsSubRow, IsAccessRow, IsFacRow, IsCallRow}
use Rattle.tatp_layout.specs.Decoding.{subscriber_in, access_in, facility_in, call_in}
use Rattle.tatp_layout.specs.Records.{RowForm, HoldsRow, subscriber_form, access_form, facility_form, call_form}
use Rattle.tatp_check.proofs.LawfulTable.{HoldsContent}
use Rattle.tatp_check.specs.Content.{MayHold, content_of}
use Rattle.tatp_check.specs.Tests.{subscriber_word, number_word, access_word, facility_word, call_word}
use Rattle.tatp_check.specs.declared.table_kind.TableKind.{TableKind}
use Rattle.tatp_check.specs.declared.table_kind.TableKind.TheVariants.{Subscribers, Numbers, Access, Facilities, Calls}
use Rattle.tatp_check.proofs.Access.{PassesAccess, access_in_range, access_held, access_passes, access_may}
use Rattle.tatp_check.proofs.Calls.{PassesCall, call_in_range, call_held, call_passes, call_may, call_key_range, ends_range, number_range}
use Rattle.tatp_check.proofs.Facilities.{PassesFacility, facility_in_range, facility_held, facility_passes, facility_may, front_range}
use Rattle.tatp_check.proofs.Held.{may_hold}
use Rattle.tatp_check.proofs.Numbers.{number_passes, number_may}
use Rattle.tatp_check.proofs.Subscribers.{PassesSubscriber, subscriber_in_range, subscriber_held, subscriber_passes, subscriber_may, front_small}

-- ---- the tests

-- the test of each kind of table
abbrev pub word_of : TableKind → ℕ → ℕ → Bool
word_of Subscribers = subscriber_word
word_of Numbers = number_word
word_of Access = access_word
word_of Facilities = facility_word
word_of Calls = call_word

module _ (offset word : ℕ) (fits : word < 2 ^ 64) where
  -- what it lets through, and nothing else
  may : (kind : TableKind) → word_of kind offset word ≡ true → content_of kind offset word
  unfolding content_of
  may Subscribers = subscriber_may word offset fits
  may Numbers = number_may word offset
  may Access = access_may word offset
  may Facilities = facility_may word offset
  may Calls = call_may word offset

  passes : (kind : TableKind) → content_of kind offset word → word_of kind offset word ≡ true
  unfolding content_of
  passes Subscribers = subscriber_passes offset word
  passes Numbers = number_passes word offset
  passes Access = access_passes word offset
  passes Facilities = facility_passes word offset
  passes Calls = call_passes word offset

  -- the answer of a test is whether a record of its table may hold the word
  pub allows : (kind one : TableKind) (answer : Bool) → kind ≡ one → answer ≡ word_of one offset word → IsTrue answer ↔ content_of kind offset word
  allows kind one answer is says = subst (λ k. IsTrue answer ↔ content_of k offset word) (sym is) ((λ t. may one (sym says ∙ t)), (λ h. says ∙ passes one h))

-- ---- rows

-- a record that holds a row in range holds what it may
pub content_held : {R : Type 0} (form : RowForm R) (InRange : R → Type 0) (table : Table) {array : List ℕ} {at : ℕ} {row : R} → InRange row → HoldsRow form array at row → HoldsContent (MayHold form InRange) table array at
content_held form InRange table {array} {at} range held = record {
  key = subst (λ p. MayHold form InRange 0 (slice_index array p)) (omega arith) (may_hold {form = form} range held 0);
  words = λ offset low below. may_hold {form = form} range held offset;
}

module _ (table : Table) (array : List ℕ) (at : ℕ) where
  pub subscriber_row : 8 ≤ table.pool.size → HoldsContent (content_of Subscribers) table array at → IsSubRow (subscriber_in array at) × HoldsRow subscriber_form array at (subscriber_in array at)
  unfolding content_of
  subscriber_row wide held =
      let word : (offset : ℕ) → 2 ≤ offset → offset < 8 → subscriber_word offset (slice_index array (at + offset)) ≡ true = λ offset low below. subscriber_passes offset (slice_index array (at + offset)) (held.words offset low (omega arith)) in
      let passes : PassesSubscriber array at = record {
        key = subscriber_passes 0 (slice_index array at) held.key;
        flags = ltb-true _ (2 ^ 50) (word 2 (omega arith) (omega arith));
        front = front_small (slice_index array (at + 3)) (held.words 3 (omega arith) (omega arith));
        back = ltb-true _ (2 ^ 16) (word 4 (omega arith) (omega arith));
        msc = ltb-true _ (2 ^ 32) (word 5 (omega arith) (omega arith));
        vlr = ltb-true _ (2 ^ 32) (word 6 (omega arith) (omega arith));
        phone = ltb-true _ (10 ^ 15) (word 7 (omega arith) (omega arith));
      } in
      (subscriber_in_range array at passes, subscriber_held array at passes)

  pub access_row : 4 ≤ table.pool.size → HoldsContent (content_of Access) table array at → IsAccessRow (access_in array at) × HoldsRow access_form array at (access_in array at)
  unfolding content_of
  access_row wide held =
      let word : (offset : ℕ) → 2 ≤ offset → offset < 4 → access_word offset (slice_index array (at + offset)) ≡ true = λ offset low below. access_passes (slice_index array (at + offset)) offset (held.words offset low (omega arith)) in
      let passes : PassesAccess array at = record { key = access_passes (slice_index array at) 0 held.key; front = word 2 (omega arith) (omega arith); back = word 3 (omega arith) (omega arith) } in
      (access_in_range array at passes, access_held array at passes)

  pub facility_row : 4 ≤ table.pool.size → HoldsContent (content_of Facilities) table array at → IsFacRow (facility_in array at) × HoldsRow facility_form array at (facility_in array at)
  unfolding content_of
  facility_row wide held =
      let word : (offset : ℕ) → 2 ≤ offset → offset < 4 → facility_word offset (slice_index array (at + offset)) ≡ true = λ offset low below. facility_passes (slice_index array (at + offset)) offset (held.words offset low (omega arith)) in
      let front = front_range (slice_index array (at + 2)) (word 2 (omega arith) (omega arith)) in
      let passes : PassesFacility array at = record { key = facility_passes (slice_index array at) 0 held.key; front = front.0; active = front.1; letters = word 3 (omega arith) (omega arith) } in
      (facility_in_range array at passes, facility_held array at passes)

  pub call_row : 4 ≤ table.pool.size → HoldsContent (content_of Calls) table array at → IsCallRow (call_in array at) × HoldsRow call_form array at (call_in array at)
  unfolding content_of
  call_row wide held =
      let word : (offset : ℕ) → 2 ≤ offset → offset < 4 → call_word offset (slice_index array (at + offset)) ≡ true = λ offset low below. call_passes (slice_index array (at + offset)) offset (held.words offset low (omega arith)) in
      let passes : PassesCall array at = record {
        key = call_key_range (slice_index array at) (call_passes (slice_index array at) 0 held.key);
        ends = ends_range (slice_index array (at + 2)) (word 2 (omega arith) (omega arith));
        number = number_range (slice_index array (at + 3)) (word 3 (omega arith) (omega arith));
      } in
      (call_in_range array at passes, call_held array at passes)
