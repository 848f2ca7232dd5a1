-- What a turn, or an attempt at one, leaves of a pass.
use Rattle.std.specs.Prelude.{◌≡◌, ℕ, ◌≤◌, [], ◌∷◌, Result, Ok, Err, IfOk, IfErr}
use Rattle.pmem_trait.specs.Sights.{Sight}
use Rattle.pmem_trait.specs.declared.medium.Medium.{Ghosts}
use Rattle.atomic_table.specs.declared.shared.Seat.{Seat}
use Rattle.core_events.specs.Events.{one_more}
use Rattle.core_table.specs.Known.{Known}
use Rattle.core_table.specs.Layout.{TableSight}
use Rattle.stm_slots.specs.Beside.{Beside}
use Rattle.stm_slots.specs.declared.opening.Opening.{Opening}
use Rattle.stm_transactions.specs.declared.pass_numbers.PassNumbers.{PassNumbers}
use Rattle.stm_transactions.specs.Numbers.{after_fault, after_turn, with_refusals, with_turn}
use Rattle.stm_transactions.specs.Passes.{IsResting, PassSight, pass_view}
use Rattle.stm_turns.specs.Pump.{HasPumped, HasPumpFault}
use Rattle.stm_turns.specs.declared.pumped.Pumped.{Pumped}
use Rattle.stm_turns.specs.declared.pump_fault.PumpFault.{PumpFault}
use Rattle.stm_turns.specs.declared.pump_fault.PumpFault.TheVariants.{Held, Device, Dead}
use Rattle.tiny_stm.specs.Fetch.{HasFetched, HasFetchFault}
use Rattle.tiny_stm.specs.declared.fetch_fault.FetchFault.{FetchFault}
use Rattle.tiny_stm.specs.declared.fetch_fault.FetchFault.TheVariants as fetch

-- The pass is whose it was, and has its entries, its draws and what it drew, its transaction and its next box. The durable number that it
-- knows doesn't fall
pub record KeepsWork {X : Type 0} (p q : PassSight X) : Type 0 where
  pub part : (pass_view q).part ≡ (pass_view p).part
  pub entries : (pass_view q).entries ≡ (pass_view p).entries
  pub draws : (pass_view q).draws ≡ (pass_view p).draws
  pub drawn : (pass_view q).drawn ≡ (pass_view p).drawn
  pub durable : (pass_view p).turn.durable ≤ (pass_view q).turn.durable
  pub tx : (pass_view q).tx ≡ (pass_view p).tx
  pub box : (pass_view q).box ≡ (pass_view p).box

-- Its numbers after a pump, behind which n is the durable number that it knows: one that is held counts as a refusal, and one that is behind
-- what the pass knows
abbrev pub numbers_after : Result Pumped PumpFault → ℕ → PassNumbers → PassNumbers
numbers_after (Ok pumped) n f = after_turn pumped.durable f
numbers_after (Err (Held seen)) n f = with_refusals 1 f
numbers_after (Err Device) n f = after_fault n f
numbers_after (Err Dead) n f = after_fault n f

-- how many turns it took; one that is held is none
abbrev pub turns_after : Result Pumped PumpFault → ℕ → ℕ
turns_after (Ok pumped) n = one_more n
turns_after (Err (Held seen)) n = n
turns_after (Err Device) n = one_more n
turns_after (Err Dead) n = one_more n

-- Its numbers after a fetch, behind which n is the durable number that it knows: one that is held, behind or finds all frames pinned counts
-- as a refusal
abbrev pub numbers_fetched : Result (Unit {0}) FetchFault → ℕ → PassNumbers → PassNumbers
numbers_fetched (Ok done) n f = with_turn n f
numbers_fetched (Err (fetch.Held seen)) n f = with_refusals 1 f
numbers_fetched (Err (fetch.Behind touch reproduced)) n f = with_refusals 1 (with_turn n f)
numbers_fetched (Err (fetch.AllPinned page seen)) n f = with_refusals 1 (with_turn n f)
numbers_fetched (Err fetch.Device) n f = after_fault n f
numbers_fetched (Err fetch.Dead) n f = after_fault n f

-- how many turns it took; one that is held is none
abbrev pub turns_fetched : Result (Unit {0}) FetchFault → ℕ → ℕ
turns_fetched (Ok done) n = one_more n
turns_fetched (Err (fetch.Held seen)) n = n
turns_fetched (Err (fetch.Behind touch reproduced)) n = one_more n
turns_fetched (Err (fetch.AllPinned page seen)) n = one_more n
turns_fetched (Err fetch.Device) n = one_more n
turns_fetched (Err fetch.Dead) n = one_more n

-- the seat of the pass p did this, and is that of q now
pub record BySeat {S X : Type 0} (does : Seat S (Known X) → Seat S (Known X) → Type 0) (p q : PassSight X) : Type 0 where
  pub old : Seat S (Known X)
  pub new : Seat S (Known X)
  pub was : p.known ≡ old.me.0 ∷ []
  pub is : q.known ≡ new.me.0 ∷ []
  pub did : does old new

-- A call took the turn and gave it, or tried to: its pass rests, has its work, and by what the call answers new numbers, a new
-- count of turns, and a seat that did so.
pub record TookTurn {S X K A F : Type 0} (t : TableSight K) (numbers_by : Result A F → ℕ → PassNumbers → PassNumbers) (turns_by : Result A F → ℕ → ℕ)
    (Does : A → Seat S (Known X) → Seat S (Known X) → Type 0) (Fails : F → Seat S (Known X) → Seat S (Known X) → Type 0) (result : Result A F) (p q : PassSight X) : Type 0 where
  pub rests : IsResting t q
  pub stays : KeepsWork p q
  pub numbers : q.numbers ≡ numbers_by result (pass_view q).turn.durable p.numbers
  pub turns : (pass_view q).turn.count ≡ turns_by result (pass_view p).turn.count
  pub ok : IfOk result (λ answer. BySeat (Does answer) p q)
  pub err : IfErr result (λ fault. BySeat (Fails fault) p q)

-- what a pump leaves of its pass
abbrev pub PumpsPass : {M : Type 0} {ghosts : Ghosts M} → (M → Sight) → TableSight (Opening M ghosts) → Result Pumped PumpFault → PassSight Beside → PassSight Beside → Type 0
PumpsPass sight t = TookTurn t numbers_after turns_after (HasPumped sight t) (HasPumpFault sight t)

-- what the fetch of a page leaves of its pass
abbrev pub FetchesPage : {M : Type 0} {ghosts : Ghosts M} → (M → Sight) → TableSight (Opening M ghosts) → ℕ → Result (Unit {0}) FetchFault → PassSight Beside → PassSight Beside → Type 0
FetchesPage sight t page = TookTurn t numbers_fetched turns_fetched (λ done. HasFetched sight t page) (HasFetchFault sight t page)
