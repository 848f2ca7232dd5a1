-- The lines of a printed run in the order in which their requests are printed by number.
use Rattle.std.specs.Prelude.{ℕ, ◌≡◌, ◌≤◌, true, false, not, List, filter, All, AllPairs, IsPermutation}
use Rattle.tatp_model.specs.declared.reply.Reply.{Reply}
use Rattle.tatp_model.specs.declared.reply.Reply.TheVariants.{Durable}
use Rattle.tatp_model.specs.declared.done.Done.{Done}
use Rattle.tatp_model.specs.Request.{IsInRange}
use Rattle.tatp_model.specs.OneThread.{Precedes}
use Rattle.dude_audit.specs.declared.claim.Claim.{Claim}
use Rattle.dude_audit.specs.Claim.{IsWithin, claims_sync}

-- what was done, if the line's request was answered so
abbrev pub done_of : Claim → Reply → Done
done_of c reply = record { file = c.file; index = c.index; number = c.number; wrote = c.wrote; request = c.request; reply = reply }

-- the lines don't belong to one request
abbrev pub AreApart : Claim → Claim → Type 0
AreApart c d = c.file ≡ d.file → c.index ≡ d.index → ⊥

-- c is printed before d: the replies play no part in it
abbrev pub ClaimPrecedes : Claim → Claim → Type 0
ClaimPrecedes c d = Precedes (done_of c Durable) (done_of d Durable)

-- the lines but those of `SYNC`, in the order in which their requests are printed by number
pub record IsClaimOrder (claims order : List Claim) : Type 0 where
  pub same : IsPermutation (filter (λ c. not (claims_sync c)) claims) order
  pub sorted : AllPairs ClaimPrecedes order

-- What the lines of a run keep whatever they say: each is of a request of its own, file by file, and lies within so many bytes;
-- no `SYNC` wrote.
pub record AreOfRun (bytes : ℕ) (claims : List Claim) : Type 0 where
  pub in_range : All (λ c. IsInRange c.request) claims
  pub within : All (IsWithin bytes) claims
  pub in_files : AllPairs (λ c d. c.file ≤ d.file) claims
  pub apart : AllPairs AreApart claims
  pub asks : All (λ c. c.wrote ≡ true → claims_sync c ≡ false) claims
