-- What a record of a request file means: its request, or the number of its first bad field, counted from 1. It is 0
-- where the name or the count of fields is wrong.
use Rattle.std.specs.Prelude.{ℕ, ◌==◌, ◌||◌, Option, Some, None, Result, Ok, Err, if◌then◌else◌, List, [], ◌∷◌, codes}
use Rattle.std.specs.Option.{option_and_then}
use Rattle.std.specs.Str.{bytes_eq}
use Rattle.tatp_model.specs.declared.request.Request.{Request}
use Rattle.tatp_model.specs.declared.request.Request.TheVariants.{GetSubscriber, GetDestination, GetAccess, UpdateSubscriber, UpdateLocation, InsertCall, DeleteCall, Sync}
use Rattle.tatp_text.specs.Number.{number_in, phone_in}

-- the field at this place has to be a number, for what comes next
abbrev pub with_field : ℕ → Option ℕ → (ℕ → Result Request ℕ) → Result Request ℕ
with_field place None next = Err place
with_field place (Some number) next = next number

-- an s_id: 1 to 2^32 - 1
abbrev pub id_in : List ℕ → Option ℕ
id_in text = number_in 10 1 4294967295 text

-- a type: 1 to 4
abbrev pub kind_in : List ℕ → Option ℕ
kind_in text = number_in 10 1 4 text

-- a start time: 0, 8 or 16
abbrev pub start_time_in : List ℕ → Option ℕ
start_time_in text =
    option_and_then (λ hour. if (hour == 0) || (hour == 8) || (hour == 16) then Some hour else None) (number_in 10 0 16 text)

-- an end time: 1 to 24
abbrev pub end_time_in : List ℕ → Option ℕ
end_time_in text = number_in 10 1 24 text

-- a bit: 0 or 1
abbrev pub bit_in : List ℕ → Option ℕ
bit_in text = number_in 10 0 1 text

-- a byte: 0 to 255
abbrev pub byte_in : List ℕ → Option ℕ
byte_in text = number_in 10 0 255 text

-- a location: 0 to 2^32 - 1
abbrev pub location_in : List ℕ → Option ℕ
location_in text = number_in 10 0 4294967295 text

-- a record of one field behind the name, whose number makes the request
abbrev pub of_one : (List ℕ → Option ℕ) → (ℕ → Request) → List (List ℕ) → Result Request ℕ
of_one a make (x ∷ []) = with_field 2 (a x) (λ k. Ok (make k))
of_one a make _ = Err 0

-- of two fields
abbrev pub of_two : (a b : List ℕ → Option ℕ) → (ℕ → ℕ → Request) → List (List ℕ) → Result Request ℕ
of_two a b make (x ∷ y ∷ []) = with_field 2 (a x) (λ k. with_field 3 (b y) (λ l. Ok (make k l)))
of_two a b make _ = Err 0

-- of three fields
abbrev pub of_three : (a b c : List ℕ → Option ℕ) → (ℕ → ℕ → ℕ → Request) → List (List ℕ) → Result Request ℕ
of_three a b c make (x ∷ y ∷ z ∷ []) =
    with_field 2 (a x) (λ k. with_field 3 (b y) (λ l. with_field 4 (c z) (λ m. Ok (make k l m))))
of_three a b c make _ = Err 0

-- of four fields
abbrev pub of_four : (a b c d : List ℕ → Option ℕ) → (ℕ → ℕ → ℕ → ℕ → Request) → List (List ℕ) → Result Request ℕ
of_four a b c d make (x ∷ y ∷ z ∷ u ∷ []) =
    with_field 2 (a x) (λ k. with_field 3 (b y) (λ l. with_field 4 (c z) (λ m. with_field 5 (d u) (λ n. Ok (make k l m n)))))
of_four a b c d make _ = Err 0

-- of five fields
abbrev pub of_five : (a b c d e : List ℕ → Option ℕ) → (ℕ → ℕ → ℕ → ℕ → ℕ → Request) → List (List ℕ) → Result Request ℕ
of_five a b c d e make (x ∷ y ∷ z ∷ u ∷ v ∷ []) =
    with_field 2 (a x) (λ k. with_field 3 (b y) (λ l. with_field 4 (c z) (λ m. with_field 5 (d u) (λ n. with_field 6 (e v) (λ o. Ok (make k l m n o))))))
of_five a b c d e make _ = Err 0

-- `GET_SUBSCRIBER_DATA` of the fields behind the name: s_id
abbrev pub get_subscriber_of : List (List ℕ) → Result Request ℕ
get_subscriber_of fields = of_one id_in GetSubscriber fields

-- `GET_NEW_DESTINATION` of the fields behind the name: s_id, sf_type, start_time, end_time
abbrev pub get_destination_of : List (List ℕ) → Result Request ℕ
get_destination_of fields = of_four id_in kind_in start_time_in end_time_in GetDestination fields

-- `GET_ACCESS_DATA` of the fields behind the name: s_id, ai_type
abbrev pub get_access_of : List (List ℕ) → Result Request ℕ
get_access_of fields = of_two id_in kind_in GetAccess fields

-- `UPDATE_SUBSCRIBER_DATA` of the fields behind the name: s_id, bit_1, sf_type, data_a
abbrev pub update_subscriber_of : List (List ℕ) → Result Request ℕ
update_subscriber_of fields = of_four id_in bit_in kind_in byte_in UpdateSubscriber fields

-- `UPDATE_LOCATION` of the fields behind the name: sub_nbr, vlr
abbrev pub update_location_of : List (List ℕ) → Result Request ℕ
update_location_of fields = of_two phone_in location_in UpdateLocation fields

-- `INSERT_CALL_FORWARDING` of the fields behind the name: sub_nbr, sf_type, start_time, end_time, numberx
abbrev pub insert_call_of : List (List ℕ) → Result Request ℕ
insert_call_of fields = of_five phone_in kind_in start_time_in end_time_in phone_in InsertCall fields

-- `DELETE_CALL_FORWARDING` of the fields behind the name: sub_nbr, sf_type, start_time
abbrev pub delete_call_of : List (List ℕ) → Result Request ℕ
delete_call_of fields = of_three phone_in kind_in start_time_in DeleteCall fields

-- `SYNC`, which has no field behind the name
abbrev pub sync_of : List (List ℕ) → Result Request ℕ
sync_of [] = Ok Sync
sync_of _ = Err 0

-- the request of a whole record, whose first field names the kind
abbrev pub request_of : List (List ℕ) → Result Request ℕ
request_of [] = Err 0
request_of (name ∷ fields) =
    if bytes_eq name (codes "GET_SUBSCRIBER_DATA") then get_subscriber_of fields
    else if bytes_eq name (codes "GET_NEW_DESTINATION") then get_destination_of fields
    else if bytes_eq name (codes "GET_ACCESS_DATA") then get_access_of fields
    else if bytes_eq name (codes "UPDATE_SUBSCRIBER_DATA") then update_subscriber_of fields
    else if bytes_eq name (codes "UPDATE_LOCATION") then update_location_of fields
    else if bytes_eq name (codes "INSERT_CALL_FORWARDING") then insert_call_of fields
    else if bytes_eq name (codes "DELETE_CALL_FORWARDING") then delete_call_of fields
    else if bytes_eq name (codes "SYNC") then sync_of fields
    else Err 0
