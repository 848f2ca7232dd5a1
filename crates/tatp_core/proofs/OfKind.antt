-- A request of its kind is no other request.
use Rattle.std.proofs.Common.{◌≡◌, ℕ, refl}
use Rattle.tatp_model.specs.declared.request.Request.{Request}
use Rattle.tatp_model.specs.declared.request.Request.TheVariants.{UpdateSubscriber, UpdateLocation, InsertCall, DeleteCall}
use Rattle.tatp_core.specs.Kinds.{IsDeleteCall, IsInsertCall, IsUpdateLocation, IsUpdateSubscriber}

pub is_update : (q : Request) → IsUpdateSubscriber q → ((s_id bit_1 sf_type data_a : ℕ) → q ≡ UpdateSubscriber s_id bit_1 sf_type data_a → ⊥) → ⊥
is_update (UpdateSubscriber s_id bit_1 sf_type data_a) kind none = none s_id bit_1 sf_type data_a refl
is_update _ kind none = kind

pub is_location : (q : Request) → IsUpdateLocation q → ((sub_nbr vlr : ℕ) → q ≡ UpdateLocation sub_nbr vlr → ⊥) → ⊥
is_location (UpdateLocation sub_nbr vlr) kind none = none sub_nbr vlr refl
is_location _ kind none = kind

pub is_insert : (q : Request) → IsInsertCall q → ((sub_nbr sf_type start_time end_time numberx : ℕ) → q ≡ InsertCall sub_nbr sf_type start_time end_time numberx → ⊥) → ⊥
is_insert (InsertCall sub_nbr sf_type start_time end_time numberx) kind none = none sub_nbr sf_type start_time end_time numberx refl
is_insert _ kind none = kind

pub is_delete : (q : Request) → IsDeleteCall q → ((sub_nbr sf_type start_time : ℕ) → q ≡ DeleteCall sub_nbr sf_type start_time → ⊥) → ⊥
is_delete (DeleteCall sub_nbr sf_type start_time) kind none = none sub_nbr sf_type start_time refl
is_delete _ kind none = kind
