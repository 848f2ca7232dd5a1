-- A line of a printed run, with its request.
use Rattle.std.specs.Prelude.{ℕ, ◌≡◌, ◌≤◌, ◌-◌, ◌↔◌, Bool, true, false, IsTrue, List, take, drop, codes}
use Rattle.tatp_model.specs.declared.request.Request.{Request}
use Rattle.tatp_model.specs.declared.request.Request.TheVariants.{UpdateSubscriber, UpdateLocation, InsertCall, DeleteCall}
use Rattle.tatp_model.specs.OneThread.{is_sync, IndexedRequest}
use Rattle.dude_audit.specs.declared.claim.Claim.{Claim}

-- the line's text lies within so many printed bytes
pub record IsWithin (bytes : ℕ) (c : Claim) : Type 0 where
  pub rises : c.from ≤ c.to
  pub ends : c.to ≤ bytes

-- the line's text
abbrev pub text_of : List ℕ → Claim → List ℕ
text_of printed c = take (c.to - c.from) (drop c.from printed)

-- the line's request, with its file and its index there
abbrev pub claimed_request_of : Claim → IndexedRequest
claimed_request_of c = record { file = c.file; index = c.index; request = c.request }

-- the line is that of a `SYNC`
abbrev pub claims_sync : Claim → Bool
claims_sync c = is_sync c.request

-- the request is of one of the four kinds that may write
abbrev pub may_write : Request → Bool
may_write (UpdateSubscriber s_id bit_1 sf_type data_a) = true
may_write (UpdateLocation sub_nbr vlr) = true
may_write (InsertCall sub_nbr sf_type start_time end_time numberx) = true
may_write (DeleteCall sub_nbr sf_type start_time) = true
may_write _ = false

-- a line says that its request wrote exactly where the request may write and the text is `OK`
abbrev pub SaysWrote : List ℕ → Claim → Type 0
SaysWrote printed c = (c.wrote ≡ true) ↔ (IsTrue (may_write c.request) × (text_of printed c ≡ codes "OK"))
