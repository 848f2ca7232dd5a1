-- How a reply prints.
use Rattle.std.specs.Prelude.{ℕ, List, [], ◌∷◌, ◌++◌, map, codes, decimal}
use Rattle.std.specs.List.{join_with_byte}
use Rattle.tatp_model.specs.declared.sub_row.SubRow.{SubRow}
use Rattle.tatp_model.specs.declared.access_row.AccessData.{AccessData}
use Rattle.tatp_model.specs.declared.reply.Reply.{Reply}
use Rattle.tatp_model.specs.declared.reply.Reply.TheVariants.{Subscriber, Destinations, Access, Changed, Missing, NoFacility, Duplicate, FullTable, Durable}
use Rattle.tatp_model.specs.Numbers.{list_of}
use Rattle.tatp_text.specs.Number.{phone_text}

-- the fields of a subscriber's row
abbrev pub row_fields : SubRow → List (List ℕ)
row_fields row =
    decimal row.s_id ∷ phone_text row.sub_nbr ∷ map decimal (row.bits ++ row.hexes ++ row.bytes ++ row.msc ∷ row.vlr ∷ [])

-- the fields of an access row's data: two numbers, and two words of letters
abbrev pub access_fields : AccessData → List (List ℕ)
access_fields info = decimal info.data1 ∷ decimal info.data2 ∷ info.data3 ∷ info.data4 ∷ []

-- `OK`, and the fields with commas between
abbrev pub found_text : List (List ℕ) → List ℕ
found_text fields = codes "OK " ++ join_with_byte 44 fields

-- `OK` with the fields of what a read found, or a word for what became of the request
abbrev pub reply_text : Reply → List ℕ
reply_text Changed = codes "OK"
reply_text (Subscriber row) = found_text (row_fields row)
reply_text (Destinations phones) = found_text (map phone_text (list_of phones))
reply_text (Access info) = found_text (access_fields info)
reply_text Missing = codes "NONE"
reply_text NoFacility = codes "NOFAC"
reply_text Duplicate = codes "DUP"
reply_text FullTable = codes "FULL"
reply_text Durable = codes "DURABLE"
