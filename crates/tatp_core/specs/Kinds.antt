-- The kinds of requests that may write.
use Rattle.tatp_model.specs.declared.request.Request.{Request}
use Rattle.tatp_model.specs.declared.request.Request.TheVariants.{UpdateSubscriber, UpdateLocation, InsertCall, DeleteCall}

-- the request is `UPDATE_SUBSCRIBER_DATA`
abbrev pub IsUpdateSubscriber : Request → Type 0
IsUpdateSubscriber (UpdateSubscriber s_id bit_1 sf_type data_a) = Unit {0}
IsUpdateSubscriber _ = ⊥

-- the request is `UPDATE_LOCATION`
abbrev pub IsUpdateLocation : Request → Type 0
IsUpdateLocation (UpdateLocation sub_nbr vlr) = Unit {0}
IsUpdateLocation _ = ⊥

-- the request is `INSERT_CALL_FORWARDING`
abbrev pub IsInsertCall : Request → Type 0
IsInsertCall (InsertCall sub_nbr sf_type start_time end_time numberx) = Unit {0}
IsInsertCall _ = ⊥

-- the request is `DELETE_CALL_FORWARDING`
abbrev pub IsDeleteCall : Request → Type 0
IsDeleteCall (DeleteCall sub_nbr sf_type start_time) = Unit {0}
IsDeleteCall _ = ⊥
