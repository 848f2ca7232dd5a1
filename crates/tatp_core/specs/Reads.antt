-- The requests that only read.
use Rattle.tatp_model.specs.declared.request.Request.{Request}
use Rattle.tatp_model.specs.declared.request.Request.TheVariants.{GetSubscriber, GetDestination, GetAccess}

-- the request only reads, whatever the tables are
abbrev pub IsRead : Request → Type 0
IsRead (GetSubscriber s_id) = Unit {0}
IsRead (GetDestination s_id sf_type start_time end_time) = Unit {0}
IsRead (GetAccess s_id ai_type) = Unit {0}
IsRead _ = ⊥
