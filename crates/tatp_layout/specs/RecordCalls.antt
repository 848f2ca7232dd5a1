-- What the calls on one record say of its row.
use Rattle.std.specs.Prelude.{◌≡◌, ℕ, ◌+◌, ◌-◌, ◌<◌, List, ◌∷◌, length, Contains, Result, slice_index, slice_set}
use Rattle.dude_base.specs.declared.sizes.Sizes.{Sizes}
use Rattle.word_space.specs.declared.stop.Stop.{Stop}
use Rattle.word_space.specs.Sights.{WordsSight}
use Rattle.word_space.specs.Steps.{AnswersSeen, ChangesSeen, UsesWords, WritesAsMany}
use Rattle.record_heap.specs.Changes.{ChangesWord}
use Rattle.tatp_model.specs.declared.call_row.CallRow.{CallRow}
use Rattle.tatp_model.specs.declared.fac_row.FacRow.{FacRow}
use Rattle.tatp_model.specs.declared.sub_row.SubRow.{SubRow}
use Rattle.tatp_model.specs.Database.{IsFacRow, IsSubRow, call_key}
use Rattle.tree_index.specs.Walk.{replace_reads}
use Rattle.tatp_layout.specs.Index.{IndexHas, by_index, location_key}
use Rattle.tatp_layout.specs.Layout.{leaf_base}
use Rattle.tatp_layout.specs.Records.{RowForm, HoldsRow, call_form, facility_form, subscriber_form}

-- where the record at this word holds a row whose fields are in their ranges, the answer is that row
abbrev pub IsHeldRow : {R : Type 0} → RowForm R → (R → Type 0) → ℕ → List ℕ → R → Type 0
IsHeldRow {R} form IsRow at array row = (r : R) → IsRow r → HoldsRow form array at r → row ≡ r

-- What reading the row of the record at this word leaves, by its result.
pub record ReadsRow {S R : Type 0} (sight : S → WordsSight) (turns_into : S → S → Type 0) (form : RowForm R) (IsRow : R → Type 0) (row_in : List ℕ → ℕ → R) (size at : ℕ) (result : Result R Stop) (old new : S) : Type 0 where
  -- each of the record's words but the link is read once, and none is written
  pub uses : UsesWords sight turns_into (size - 1) 0 result old new
  -- in any array the row is what the record's words say
  pub exact : AnswersSeen sight result old new (λ a row. row ≡ row_in a at)
  -- and it is the one that the record holds, where that one's fields are in their ranges
  pub row : AnswersSeen sight result old new (IsHeldRow form IsRow at)

-- What changing a field in this word of a record leaves, by its result.
pub record ChangesField {S : Type 0} (sight : S → WordsSight) (turns_into : S → S → Type 0) (word : ℕ) (Sets : List ℕ → List ℕ → Unit {0} → Type 0) (result : Result (Unit {0}) Stop) (old new : S) : Type 0 where
  -- at most one word is read and one written
  pub uses : UsesWords sight turns_into 1 1 result old new
  -- one write was made
  pub wrote : WritesAsMany sight result old new (λ done. 1)
  -- no other word changes
  pub changes : ChangesSeen sight result old new (ChangesWord word)
  -- the field is changed
  pub holds : ChangesSeen sight result old new Sets

-- the array with the fields of a call row in the record at this word
abbrev pub with_call : ℕ → CallRow → List ℕ → List ℕ
with_call at row array = slice_set (slice_set array (at + 2) row.end_time) (at + 3) row.numberx

-- where the record at this word has the key of a call row, it holds that row afterwards
abbrev pub HoldsCall : ℕ → CallRow → List ℕ → List ℕ → Unit {0} → Type 0
HoldsCall at row old new done = slice_index old at ≡ call_key row → HoldsRow call_form new at row

-- of a facility in the record at this word, data_a is changed to the value
abbrev pub SetsDataA : ℕ → ℕ → List ℕ → List ℕ → Unit {0} → Type 0
SetsDataA at value old new done =
    (r : FacRow) → IsFacRow r → HoldsRow facility_form old at r → HoldsRow facility_form new at (record r { data_a = value })

-- of a subscriber in the record at this word, the location is changed to the value
abbrev pub SetsVlr : ℕ → ℕ → List ℕ → List ℕ → Unit {0} → Type 0
SetsVlr at vlr old new done = (r : SubRow) → HoldsRow subscriber_form old at r → HoldsRow subscriber_form new at (record r { vlr = vlr })

-- What changing the location of the subscriber in the record at this word leaves of its row and of the keys of an index.
pub record ChangesLocation (s : Sizes) (at vlr : ℕ) (row : SubRow) (others old new : List ℕ) : Type 0 where
  pub size : length new ≡ length old
  -- in front of an index only the location changes
  pub tables : (i : ℕ) → i < leaf_base s → slice_index new i ≡ slice_index (slice_set old (at + 6) vlr) i
  -- the record has the row with the new location
  pub holds : HoldsRow subscriber_form new at (record row { vlr = vlr })
  -- an index has the row's new key in the place of the old one
  pub keys : IndexHas s new (location_key (record row { vlr = vlr }) ∷ others)

-- where the record at this word holds a row whose fields are in their ranges, and an index has the row's key and others, none
-- of which is the row's new one
abbrev pub MovesLocation : Sizes → ℕ → ℕ → List ℕ → List ℕ → Unit {0} → Type 0
MovesLocation s at vlr old new done =
    (row : SubRow) (others : List ℕ) → IsSubRow row → HoldsRow subscriber_form old at row → IndexHas s old (location_key row ∷ others)
    → ¬ Contains others (location_key (record row { vlr = vlr })) → ChangesLocation s at vlr row others old new

-- the most reads of a location's change: where there is an index, the subscriber's key, and those of a replaced key
abbrev pub location_reads : Sizes → ℕ
location_reads s = by_index s.index 0 (replace_reads + 2)

-- the most writes of a location's change: where there is an index, also those of a replaced key
abbrev pub location_writes : Sizes → ℕ
location_writes s = by_index s.index 1 7

-- of a subscriber in the record at this word, bit_1 is changed to the bit
abbrev pub SetsBit1 : ℕ → ℕ → List ℕ → List ℕ → Unit {0} → Type 0
SetsBit1 at bit old new done =
    (r : SubRow) → IsSubRow r → HoldsRow subscriber_form old at r → HoldsRow subscriber_form new at (record r { bits = slice_set r.bits 0 bit })
