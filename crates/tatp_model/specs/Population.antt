-- The rows that a new database of S subscribers has.
use Rattle.std.specs.Prelude.{ℕ, ◌==◌, ◌+◌, ◌*◌, ◌%◌, if◌then◌else◌, List, length, map, flat_map}
use Rattle.std.specs.List.{range_with_len}
use Rattle.tatp_model.specs.declared.sub_row.SubRow.{SubRow}
use Rattle.tatp_model.specs.declared.access_row.AccessRow.{AccessRow}
use Rattle.tatp_model.specs.declared.fac_row.FacRow.{FacRow}
use Rattle.tatp_model.specs.declared.call_row.CallRow.{CallRow}
use Rattle.tatp_model.specs.Database.{Database}

-- k letters; letter j, from 0, is the one at index (x + j) mod 26 of A to Z, whose codes begin at 65
abbrev pub letters : ℕ → ℕ → List ℕ
letters x k = map (λ j. 65 + (x + j) % 26) (range_with_len 0 k)

-- subscriber s
abbrev pub subscriber_at : ℕ → SubRow
subscriber_at s = record {
  s_id = s;
  sub_nbr = s;
  bits = map (λ i. (s + i) % 2) (range_with_len 1 10);
  hexes = map (λ i. (s + i) % 16) (range_with_len 1 10);
  bytes = map (λ i. (7 * s + i) % 256) (range_with_len 1 10);
  msc = s;
  vlr = 1000000 + s;
}

-- access row a of subscriber s
abbrev pub access_at : ℕ → ℕ → AccessRow
access_at s a = record {
  s_id = s;
  ai_type = a;
  info = record {
    data1 = (s + a) % 256;
    data2 = (s * a) % 256;
    data3 = letters (s + a) 3;
    data4 = letters (s + 2 * a) 5;
  };
}

-- facility f of subscriber s
abbrev pub facility_at : ℕ → ℕ → FacRow
facility_at s f = record {
  s_id = s;
  sf_type = f;
  is_active = if (s + f) % 7 == 0 then 0 else 1;
  error_cntrl = (s + 2 * f) % 256;
  data_a = (3 * s + f) % 256;
  data_b = letters (s + 3 * f) 5;
}

-- call row k, from 0, of facility f of subscriber s
abbrev pub call_at : ℕ → ℕ → ℕ → CallRow
call_at s f k = record {
  s_id = s;
  sf_type = f;
  start_time = 8 * k;
  end_time = 8 * k + 1 + (s * f + k) % 8;
  numberx = 100 * s + 10 * f + k;
}

-- the access rows of subscriber s: 1 + s mod 4 of them, by type from 1 on
abbrev pub access_of : ℕ → List AccessRow
access_of s = map (access_at s) (range_with_len 1 (1 + s % 4))

-- the types of the facilities of subscriber s: 1 + (s + 1) mod 4 of them, from 1 on
abbrev pub facility_types : ℕ → List ℕ
facility_types s = range_with_len 1 (1 + (s + 1) % 4)

-- the facilities of subscriber s, one of each of its types
abbrev pub facilities_of : ℕ → List FacRow
facilities_of s = map (facility_at s) (facility_types s)

-- the call rows of subscriber s: (s + f) mod 4 of each of its facilities f
abbrev pub calls_of : ℕ → List CallRow
calls_of s = flat_map (λ f. map (call_at s f) (range_with_len 0 ((s + f) % 4))) (facility_types s)

-- the rows of subscribers 1 to S
abbrev pub population : ℕ → Database
population S = record {
  subscribers = map subscriber_at (range_with_len 1 S);
  access = flat_map access_of (range_with_len 1 S);
  facilities = flat_map facilities_of (range_with_len 1 S);
  calls = flat_map calls_of (range_with_len 1 S);
}

-- how many call rows these are
abbrev pub population_calls : ℕ → ℕ
population_calls S = length (population S).calls
