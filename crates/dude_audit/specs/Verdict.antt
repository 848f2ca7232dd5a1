-- The verdict on the lines of a printed run: whether their numbers and texts are those of one thread.
use Rattle.std.specs.Prelude.{ℕ, ◌≡◌, ◌⊎◌, ◌≤◌, ◌+◌, List, length, slice_index_or, All}
use Rattle.tatp_model.specs.Database.{Database}
use Rattle.dude_audit.specs.declared.claim.Claim.{Claim}
use Rattle.dude_audit.specs.declared.verdict.Verdict.{Verdict}
use Rattle.dude_audit.specs.declared.verdict.Verdict.TheVariants.{Yes, No}
use Rattle.dude_audit.specs.Order.{IsClaimOrder}
use Rattle.dude_audit.specs.Rules.{AreRuled, IsFirstBroken}
use Rattle.dude_audit.specs.Walk.{TextsAlong, IsFirstWrong}

-- the last number is from the first one on, and no line's number is over it
pub record IsLastOf (first : ℕ) (claims : List Claim) (last : ℕ) : Type 0 where
  pub from : first ≤ last
  pub none_over : All (λ c. c.number ≤ last) claims

-- The numbers keep their rules, and the texts are those of one thread's replies along the printed order.
pub record Passes (first limit : ℕ) (db : Database) (printed : List ℕ) (claims : List Claim) (last : ℕ) : Type 0 where
  pub ruled : AreRuled first last claims
  pub ends : IsLastOf first claims last
  pub order : List Claim
  pub printed_so : IsClaimOrder claims order
  pub along : TextsAlong printed limit db order

-- the first line whose number breaks a rule is this one
pub record BreaksRule (first last : ℕ) (claims : List Claim) (line : ℕ) : Type 0 where
  pub at : ℕ
  pub broken : IsFirstBroken first last claims at
  pub named : (d : Claim) → line ≡ (slice_index_or claims at d).line

-- no request's line breaks a rule, but the last line does: it is named
pub record MissesLast (first last : ℕ) (claims : List Claim) (line : ℕ) : Type 0 where
  pub ruled : AreRuled first last claims
  pub misses : IsLastOf first claims last → ⊥
  pub named : line ≡ length claims + 1

-- the line of the first request of the order whose text isn't that of its reply
pub record IsWrongLine (printed : List ℕ) (limit : ℕ) (db : Database) (order : List Claim) (line : ℕ) : Type 0 where
  pub at : ℕ
  pub wrong : IsFirstWrong printed limit db order at
  pub named : (d : Claim) → line ≡ (slice_index_or order at d).line

-- no number breaks a rule, and this is the line of the first request in printed order whose text isn't that of its reply
pub record HasWrongText (first limit : ℕ) (db : Database) (printed : List ℕ) (claims : List Claim) (last line : ℕ) : Type 0 where
  pub ruled : AreRuled first last claims
  pub ends : IsLastOf first claims last
  pub order : List Claim
  pub printed_so : IsClaimOrder claims order
  pub wrong : IsWrongLine printed limit db order line

-- the verdict on lines that were read
abbrev pub HasVerdict : ℕ → ℕ → Database → List ℕ → List Claim → ℕ → Verdict → Type 0
HasVerdict first limit db printed claims last Yes = Passes first limit db printed claims last
HasVerdict first limit db printed claims last (No line) =
    BreaksRule first last claims line ⊎ (MissesLast first last claims line ⊎ HasWrongText first limit db printed claims last line)
