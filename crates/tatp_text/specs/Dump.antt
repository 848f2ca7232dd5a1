-- The dump.
use Rattle.std.specs.Prelude.{ℕ, List, [], ◌∷◌, ◌++◌, map, codes, decimal}
use Rattle.std.specs.List.{flat_map}
use Rattle.tatp_model.specs.declared.sub_row.SubRow.{SubRow}
use Rattle.tatp_model.specs.declared.access_row.AccessRow.{AccessRow}
use Rattle.tatp_model.specs.declared.fac_row.FacRow.{FacRow}
use Rattle.tatp_model.specs.declared.call_row.CallRow.{CallRow}
use Rattle.tatp_model.specs.Database.{Database}
use Rattle.tatp_text.specs.Number.{phone_text}
use Rattle.tatp_text.specs.RecordText.{record_text}
use Rattle.tatp_text.specs.Reply.{row_fields, access_fields}

-- the record of a subscriber's row: its table's name, and its fields
abbrev pub subscriber_record : SubRow → List (List ℕ)
subscriber_record row = codes "SUBSCRIBER" ∷ row_fields row

-- the record of an access row: its table's name, and its fields
abbrev pub access_record : AccessRow → List (List ℕ)
access_record row = codes "ACCESS_INFO" ∷ decimal row.s_id ∷ decimal row.ai_type ∷ access_fields row.info

-- the record of a facility: its table's name, and its fields
abbrev pub facility_record : FacRow → List (List ℕ)
facility_record row =
    codes "SPECIAL_FACILITY" ∷ decimal row.s_id ∷ decimal row.sf_type ∷ decimal row.is_active ∷ decimal row.error_cntrl ∷ decimal row.data_a ∷ row.data_b ∷ []

-- the record of a call row: its table's name, and its fields
abbrev pub call_record : CallRow → List (List ℕ)
call_record row =
    codes "CALL_FORWARDING" ∷ decimal row.s_id ∷ decimal row.sf_type ∷ decimal row.start_time ∷ decimal row.end_time ∷ phone_text row.numberx ∷ []

-- the record that closes the dump
abbrev pub last_record : ℕ → List (List ℕ)
last_record last = codes "LAST" ∷ decimal last ∷ []

-- the records of a dump, table by table, and the last number
abbrev pub dump_records : Database → ℕ → List (List (List ℕ))
dump_records db last =
    map subscriber_record db.subscribers ++ map access_record db.access ++ map facility_record db.facilities ++ map call_record db.calls ++ last_record last ∷ []

-- the text of a dump: a line for each of its records
abbrev pub dump_text : Database → ℕ → List ℕ
dump_text db last = flat_map record_text (dump_records db last)
