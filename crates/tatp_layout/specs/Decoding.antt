-- The row that a record has, whatever its words are: of fields packed into one word, each is cut to its width.
use Rattle.std.specs.Prelude.{ℕ, ◌+◌, ◌*◌, ◌/◌, ◌%◌, ◌^◌, List, ◌++◌, drop, slice_index}
use Rattle.tatp_model.specs.declared.sub_row.SubRow.{SubRow}
use Rattle.tatp_model.specs.declared.access_row.AccessRow.{AccessRow}
use Rattle.tatp_model.specs.declared.fac_row.FacRow.{FacRow}
use Rattle.tatp_model.specs.declared.call_row.CallRow.{CallRow}
use Rattle.tatp_layout.specs.Digits.{to_digits}

-- the subscriber's row that the record at this word has
abbrev pub subscriber_in : List ℕ → ℕ → SubRow
subscriber_in array at = record {
  s_id = slice_index array at;
  sub_nbr = slice_index array (at + 7);
  bits = to_digits 2 10 (slice_index array (at + 2));
  hexes = to_digits 16 10 (slice_index array (at + 2) / 2 ^ 10);
  bytes = to_digits 256 8 (slice_index array (at + 3)) ++ to_digits 256 2 (slice_index array (at + 4));
  msc = slice_index array (at + 5);
  vlr = slice_index array (at + 6);
}

-- the access row that the record at this word has
abbrev pub access_in : List ℕ → ℕ → AccessRow
access_in array at = record {
  s_id = slice_index array at / 4;
  ai_type = slice_index array at % 4 + 1;
  info = record {
    data1 = slice_index (to_digits 256 5 (slice_index array (at + 2))) 0;
    data2 = slice_index (to_digits 256 5 (slice_index array (at + 2))) 1;
    data3 = drop 2 (to_digits 256 5 (slice_index array (at + 2)));
    data4 = to_digits 256 5 (slice_index array (at + 3));
  };
}

-- the facility that the record at this word has
abbrev pub facility_in : List ℕ → ℕ → FacRow
facility_in array at = record {
  s_id = slice_index array at / 4;
  sf_type = slice_index array at % 4 + 1;
  is_active = slice_index (to_digits 256 3 (slice_index array (at + 2))) 0;
  error_cntrl = slice_index (to_digits 256 3 (slice_index array (at + 2))) 1;
  data_a = slice_index (to_digits 256 3 (slice_index array (at + 2))) 2;
  data_b = to_digits 256 5 (slice_index array (at + 3));
}

-- the call row that the record at this word has
abbrev pub call_in : List ℕ → ℕ → CallRow
call_in array at = record {
  s_id = slice_index array at / 3 / 4;
  sf_type = slice_index array at / 3 % 4 + 1;
  start_time = slice_index array at % 3 * 8;
  end_time = slice_index array (at + 2);
  numberx = slice_index array (at + 3);
}
