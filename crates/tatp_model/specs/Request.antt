-- The ranges of a request's fields.
use Rattle.std.specs.Prelude.{⊤, Bool, true, false}
use Rattle.tatp_model.specs.declared.request.Request.{Request}
use Rattle.tatp_model.specs.declared.request.Request.TheVariants.{GetSubscriber, GetDestination, GetAccess, UpdateSubscriber, UpdateLocation, InsertCall, DeleteCall, Sync}
use Rattle.tatp_model.specs.Ranges.{IsId, IsPhone, IsKind, IsStartTime, IsEndTime, IsLocation, IsByte, IsBit}

-- each field of the request is in its range
abbrev pub IsInRange : Request → Type 0
IsInRange (GetSubscriber s_id) = IsId s_id
IsInRange (GetDestination s_id sf_type start_time end_time) =
    IsId s_id × IsKind sf_type × IsStartTime start_time × IsEndTime end_time
IsInRange (GetAccess s_id ai_type) = IsId s_id × IsKind ai_type
IsInRange (UpdateSubscriber s_id bit_1 sf_type data_a) = IsId s_id × IsBit bit_1 × IsKind sf_type × IsByte data_a
IsInRange (UpdateLocation sub_nbr vlr) = IsPhone sub_nbr × IsLocation vlr
IsInRange (InsertCall sub_nbr sf_type start_time end_time numberx) =
    IsPhone sub_nbr × IsKind sf_type × IsStartTime start_time × IsEndTime end_time × IsPhone numberx
IsInRange (DeleteCall sub_nbr sf_type start_time) = IsPhone sub_nbr × IsKind sf_type × IsStartTime start_time
IsInRange Sync = ⊤

-- whether the request may add a row
abbrev pub is_insert : Request → Bool
is_insert (InsertCall sub_nbr sf_type start_time end_time numberx) = true
is_insert _ = false
