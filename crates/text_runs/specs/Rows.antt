-- Rows of subscriber 1.
use Rattle.std.specs.Prelude.{ℕ, List}
use Rattle.tatp_model.specs.declared.access_row.AccessRow.{AccessRow}
use Rattle.tatp_model.specs.declared.fac_row.FacRow.{FacRow}
use Rattle.tatp_model.specs.declared.call_row.CallRow.{CallRow}

-- its access row of this type, with these data
abbrev pub first_access : (ai_type data1 data2 : ℕ) (data3 data4 : List ℕ) → AccessRow
first_access ai_type data1 data2 data3 data4 = record {
  s_id = 1;
  ai_type = ai_type;
  info = record { data1 = data1; data2 = data2; data3 = data3; data4 = data4 };
}

-- its active facility of this type, with these data
abbrev pub first_facility : (sf_type error_cntrl data_a : ℕ) (data_b : List ℕ) → FacRow
first_facility sf_type error_cntrl data_a data_b = record {
  s_id = 1;
  sf_type = sf_type;
  is_active = 1;
  error_cntrl = error_cntrl;
  data_a = data_a;
  data_b = data_b;
}

-- its call row of this facility, from one hour to another, to this phone number
abbrev pub first_call : (sf_type start_time end_time numberx : ℕ) → CallRow
first_call sf_type start_time end_time numberx = record {
  s_id = 1;
  sf_type = sf_type;
  start_time = start_time;
  end_time = end_time;
  numberx = numberx;
}
