-- The calls of a back, by its answer.
use Rattle.std.proofs.Common.{◌≡◌, ℕ, Bool, false, List, Result, Err, refl}
use Rattle.std.specs.Prelude.{IsErrOf}
use Rattle.pmem_trait.specs.declared.call.Call.{Call}
use Rattle.pmem_trait.specs.Sights.{Sight, CallsMade}
use Rattle.redo_record.specs.BackCalls.{reproduce_calls}
use Rattle.redo_record.proofs.HomeWrites.{reproduce_length}
use Rattle.back_store.specs.Backlog.{Reproduces}
use Rattle.back_store.specs.Back.{BackState}
use Rattle.back_store.specs.Answers.{CallsAnswered, ReproducedBy, ReproducesUnlessDead, ReproducesUpTo}
use Rattle.back_store.specs.declared.back_fault.BackFault.{BackFault}
use Rattle.back_store.specs.declared.back_fault.BackFault.TheVariants.{Device}

pub calls_at_device : {X : Type 0} {result : Result X BackFault} {cs : List Call} {s t : Sight} → IsErrOf result Device → CallsMade cs false s t → CallsAnswered result cs s t
calls_at_device is made = rw is made

-- a reproduction that stopped at the device
pub stopped_at_device : {v : BackState} {most : ℕ} {result : Result ℕ BackFault} {s t : Sight} → IsErrOf result Device → ReproducesUpTo v most (Err Device) s t → ReproducesUnlessDead v most result s t
stopped_at_device is up = rw is up

-- how records that wait are reproduced
pub reproduced_by : {v : BackState} {to : ℕ} {ok : Bool} {s t : Sight} → (to ≡ v.log.reproduced → ⊥) → (by : Reproduces v.log to ok s t) → ReproducedBy v to (reproduce_calls v.log.sizes by.writes to)
reproduced_by {v} {to} some by = record { some = some; records = by.records; writes = by.writes; lead = by.lead; stand = by.stand; calls_are = refl; few = reproduce_length v.log.sizes by.writes to }
