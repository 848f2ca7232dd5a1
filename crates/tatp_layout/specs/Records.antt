-- How rows stand in records: word 0 is the key, word 1 the link, and the row's other fields stand in the words from 2 on.
use Rattle.std.specs.Prelude.{◌≡◌, ℕ, ◌+◌, ◌*◌, ◌^◌, List, [], ◌∷◌, length, take, drop, slice_index}
use Rattle.tatp_model.specs.declared.sub_row.SubRow.{SubRow}
use Rattle.tatp_model.specs.declared.access_row.AccessRow.{AccessRow}
use Rattle.tatp_model.specs.declared.fac_row.FacRow.{FacRow}
use Rattle.tatp_model.specs.declared.call_row.CallRow.{CallRow}
use Rattle.tatp_model.specs.Database.{access_key, facility_key, call_key}
use Rattle.tatp_layout.specs.Digits.{from_digits}

-- the key of a row, the words of its other fields, and that each of its arrays has its length
pub record RowForm (R : Type 0) : Type 1 where
  pub key : R → ℕ
  pub words : R → List ℕ
  pub Lengths : R → Type 0

-- these words stand in the array from this one on
abbrev pub HasWords : List ℕ → ℕ → List ℕ → Type 0
HasWords array at [] = Unit {0}
HasWords array at (word ∷ words) = (slice_index array at ≡ word) × HasWords array (at + 1) words

-- the record at this word has the row: its key and its other fields; and each of the row's arrays has its length
pub record HoldsRow {R : Type 0} (form : RowForm R) (array : List ℕ) (at : ℕ) (row : R) : Type 0 where
  pub key : slice_index array at ≡ form.key row
  pub words : HasWords array (at + 2) (form.words row)
  pub lengths : form.Lengths row

-- bit_i in bit i - 1, and hex_i in four bits from bit 10 + 4 (i - 1) on; byte2_1 to byte2_8, the first in the lowest byte;
-- byte2_9 and byte2_10; the two locations; the phone number
abbrev pub subscriber_form : RowForm SubRow
subscriber_form = record {
  key = λ r. r.s_id;
  words = λ r. (from_digits 2 r.bits + 2 ^ 10 * from_digits 16 r.hexes) ∷ from_digits 256 (take 8 r.bytes)
      ∷ from_digits 256 (drop 8 r.bytes) ∷ r.msc ∷ r.vlr ∷ r.sub_nbr ∷ [];
  Lengths = λ r. (length r.bits ≡ 10) × (length r.hexes ≡ 10) × (length r.bytes ≡ 10);
}

-- the phone number of a subscriber, with its s_id
abbrev pub number_form : RowForm SubRow
number_form = record { key = λ r. r.sub_nbr; words = λ r. r.s_id ∷ []; Lengths = λ r. Unit {0} }

-- data1, data2 and the letters of data3, a byte each; the letters of data4
abbrev pub access_form : RowForm AccessRow
access_form = record {
  key = access_key;
  words = λ r. from_digits 256 (r.info.data1 ∷ r.info.data2 ∷ r.info.data3) ∷ from_digits 256 r.info.data4 ∷ [];
  Lengths = λ r. (length r.info.data3 ≡ 3) × (length r.info.data4 ≡ 5);
}

-- is_active, error_cntrl and data_a, a byte each; the letters of data_b
abbrev pub facility_form : RowForm FacRow
facility_form = record {
  key = facility_key;
  words = λ r. from_digits 256 (r.is_active ∷ r.error_cntrl ∷ r.data_a ∷ []) ∷ from_digits 256 r.data_b ∷ [];
  Lengths = λ r. length r.data_b ≡ 5;
}

-- end_time; the phone number numberx
abbrev pub call_form : RowForm CallRow
call_form = record { key = call_key; words = λ r. r.end_time ∷ r.numberx ∷ []; Lengths = λ r. Unit {0} }
