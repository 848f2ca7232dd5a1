-- What a turn leaves of a pass.
use Rattle.std.specs.Prelude.{◌≡◌, ℕ, ◌+◌, ◌≤◌, ◌⊎◌, true}
use Rattle.pmem_trait.specs.Faults.{up_to_last}
use Rattle.core_events.specs.Conditions.{KeepsFrame}
use Rattle.core_table.specs.Layout.{TableSight}
use Rattle.stm_transactions.specs.Passes.{PassSight, IsResting, pass_view}
use Rattle.request_attempts.specs.declared.turn_fault.TurnFault.{TurnFault}
use Rattle.request_attempts.specs.declared.turn_fault.TurnFault.TheVariants.{Refused, Fault}

-- The pass is whose it was; no entry is new, refusals only grow, and the durable number doesn't fall
pub record KeepsPass {X K : Type 0} (t : TableSight K) (p q : PassSight X) : Type 0 where
  pub rests : IsResting t q
  pub part : (pass_view q).part ≡ (pass_view p).part
  pub entries : (pass_view q).entries ≡ (pass_view p).entries
  pub last : q.numbers.last ≡ p.numbers.last
  pub rises : p.numbers.refused ≤ q.numbers.refused
  pub durable : p.numbers.durable ≤ q.numbers.durable

-- and no draw is new
pub record KeepsRest {X K : Type 0} (t : TableSight K) (p q : PassSight X) : Type 0 where
  pub pass : KeepsPass t p q
  pub left : q.numbers.left ≡ p.numbers.left

-- A pump was good, with this durable number. One under a number of the pass counts as a refusal
pub record HasPumped {X K : Type 0} (t : TableSight K) (p q : PassSight X) (n : ℕ) : Type 0 where
  pub keeps : KeepsRest t p q
  pub durable : q.numbers.durable ≡ n
  pub had : q.numbers.had_turn ≡ true
  pub no_fault : q.numbers.met_fault ≡ p.numbers.met_fault
  pub counts : (q.numbers.refused ≡ up_to_last (p.numbers.refused + 1)) ⊎ ((p.numbers.last ≤ n) × (p.numbers.drawn ≤ n))

-- The page was in a frame in this turn; it may be out again by now
pub record HasFetched {X K : Type 0} (t : TableSight K) (page : ℕ) (p q : PassSight X) : Type 0 where
  pub keeps : KeepsRest t p q
  pub shown : KeepsFrame (pass_view q) page
  pub had : q.numbers.had_turn ≡ true
  pub no_fault : q.numbers.met_fault ≡ p.numbers.met_fault

-- What was wanted wasn't done, and a refusal counted
pub record WasRefused {X K : Type 0} (t : TableSight K) (p q : PassSight X) : Type 0 where
  pub keeps : KeepsRest t p q
  pub had : p.numbers.had_turn ≡ true → q.numbers.had_turn ≡ true
  pub no_fault : q.numbers.met_fault ≡ p.numbers.met_fault
  pub counts : q.numbers.refused ≡ up_to_last (p.numbers.refused + 1)

-- The pass has met a fault
pub record HasFailed {X K : Type 0} (t : TableSight K) (p q : PassSight X) : Type 0 where
  pub keeps : KeepsRest t p q
  pub fault : q.numbers.met_fault ≡ true

-- what a turn leaves that didn't do what was wanted
abbrev pub LeavesFault : {X K : Type 0} → TableSight K → PassSight X → PassSight X → TurnFault → Type 0
LeavesFault t p q Refused = WasRefused t p q
LeavesFault t p q Fault = HasFailed t p q
