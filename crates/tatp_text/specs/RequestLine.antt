-- How a request is written.
use Rattle.std.specs.Prelude.{ℕ, List, [], ◌∷◌, drop, codes, decimal}
use Rattle.std.specs.List.{flat_map}
use Rattle.tatp_model.specs.declared.request.Request.{Request}
use Rattle.tatp_model.specs.declared.request.Request.TheVariants.{GetSubscriber, GetDestination, GetAccess, UpdateSubscriber, UpdateLocation, InsertCall, DeleteCall, Sync}
use Rattle.tatp_text.specs.Number.{phone_text}
use Rattle.tatp_text.specs.RecordText.{record_text}

-- the fields of a request's record, its name first
abbrev pub request_fields : Request → List (List ℕ)
request_fields (GetSubscriber s_id) = codes "GET_SUBSCRIBER_DATA" ∷ decimal s_id ∷ []
request_fields (GetDestination s_id sf_type start_time end_time) =
    codes "GET_NEW_DESTINATION" ∷ decimal s_id ∷ decimal sf_type ∷ decimal start_time ∷ decimal end_time ∷ []
request_fields (GetAccess s_id ai_type) = codes "GET_ACCESS_DATA" ∷ decimal s_id ∷ decimal ai_type ∷ []
request_fields (UpdateSubscriber s_id bit_1 sf_type data_a) =
    codes "UPDATE_SUBSCRIBER_DATA" ∷ decimal s_id ∷ decimal bit_1 ∷ decimal sf_type ∷ decimal data_a ∷ []
request_fields (UpdateLocation sub_nbr vlr) = codes "UPDATE_LOCATION" ∷ phone_text sub_nbr ∷ decimal vlr ∷ []
request_fields (InsertCall sub_nbr sf_type start_time end_time numberx) =
    codes "INSERT_CALL_FORWARDING" ∷ phone_text sub_nbr ∷ decimal sf_type ∷ decimal start_time ∷ decimal end_time ∷ phone_text numberx ∷ []
request_fields (DeleteCall sub_nbr sf_type start_time) =
    codes "DELETE_CALL_FORWARDING" ∷ phone_text sub_nbr ∷ decimal sf_type ∷ decimal start_time ∷ []
request_fields Sync = codes "SYNC" ∷ []

-- the line of a request: its fields with commas between them, and LF
abbrev pub request_line : Request → List ℕ
request_line request = record_text (request_fields request)

-- the fields of a request behind its name, each behind a comma
abbrev pub fields_text : Request → List ℕ
fields_text request = flat_map (λ field. 44 ∷ field) (drop 1 (request_fields request))
