-- The kinds of requests that only read.
use Rattle.tatp_model.specs.declared.request.Request.{Request}
use Rattle.tatp_model.specs.declared.request.Request.TheVariants.{GetSubscriber, GetDestination, GetAccess}

-- the request is `GET_SUBSCRIBER_DATA`
abbrev pub IsGetSubscriber : Request → Type 0
IsGetSubscriber (GetSubscriber s_id) = Unit {0}
IsGetSubscriber _ = ⊥

-- the request is `GET_ACCESS_DATA`
abbrev pub IsGetAccess : Request → Type 0
IsGetAccess (GetAccess s_id ai_type) = Unit {0}
IsGetAccess _ = ⊥

-- the request is `GET_NEW_DESTINATION`
abbrev pub IsGetDestination : Request → Type 0
IsGetDestination (GetDestination s_id sf_type start_time end_time) = Unit {0}
IsGetDestination _ = ⊥
