-- What the calls of a back make and leave, by their answers.
use Rattle.std.specs.Prelude.{◌≡◌, ◌≢◌, ◌⊎◌, ◌==◌, ℕ, ◌+◌, ◌*◌, ◌≤◌, true, false, if◌then◌else◌, List, [], length, IfOk, Result, Ok, Err}
use Rattle.dude_base.specs.declared.write.Write.{Write}
use Rattle.dude_base.specs.Records.{RedoBundle}
use Rattle.pmem_trait.specs.declared.call.Call.{Call}
use Rattle.pmem_trait.specs.Sights.{Sight, CallsMade}
use Rattle.redo_record.specs.Calls.{append_calls}
use Rattle.redo_record.specs.Waiting.{Lead}
use Rattle.log_ring.specs.Ring.{next_head}
use Rattle.back_store.specs.Lanes.{lane_at}
use Rattle.redo_record.specs.BackCalls.{announce_calls, reproduce_calls}
use Rattle.back_store.specs.Backlog.{StopsAfter, announced_to, with_record_in, without_records_to}
use Rattle.back_store.specs.HomeGroup.{StandFor}
use Rattle.back_store.specs.Back.{BackState, IsEnd, waiting_now}
use Rattle.back_store.specs.declared.back_fault.BackFault.{BackFault}
use Rattle.back_store.specs.declared.back_fault.BackFault.TheVariants.{RingFull, Device, Dead}

-- At Ok exactly these calls were made; at Device a prefix of them, whose last one failed; else none.
abbrev pub CallsAnswered : {X : Type 0} → Result X BackFault → List Call → Sight → Sight → Type 0
CallsAnswered (Ok x) calls s t = CallsMade calls true s t
CallsAnswered (Err Device) calls s t = CallsMade calls false s t
CallsAnswered (Err Dead) calls s t = t ≡ s
CallsAnswered (Err (RingFull used need)) calls s t = t ≡ s

-- Dead and RingFull leave the medium as it was
abbrev pub SparesMedium : {X M : Type 0} → Result X BackFault → M → M → Type 0
SparesMedium (Ok x) old new = Unit {0}
SparesMedium (Err Device) old new = Unit {0}
SparesMedium (Err Dead) old new = new ≡ old
SparesMedium (Err (RingFull used need)) old new = new ≡ old

-- the calls that persist a record in its ring
abbrev pub persist_calls : BackState → ℕ → RedoBundle → List Call
persist_calls v ring r = append_calls v.log.sizes (next_head (lane_at v.log.lanes ring).ring) r

-- the back after a call: as the call leaves it at Ok; dead at Device, and else as it was; as it was at each other fault
abbrev pub answered : {X : Type 0} → Result X BackFault → (X → BackState) → BackState → BackState
answered (Ok x) ok v = ok x
answered (Err Device) ok v = record v { dead = true }
answered (Err Dead) ok v = v
answered (Err (RingFull used need)) ok v = v

-- the back with this record behind those of its ring
abbrev pub with_record : ℕ → RedoBundle → BackState → BackState
with_record ring r v = record v { log = with_record_in ring r v.log }

-- the back where all up to this number is announced
abbrev pub announced : BackState → ℕ → BackState
announced v number = record v { log = announced_to number v.log }

-- the back without its records up to this number, which the home now has; as it was where the home had them
abbrev pub reproduced : BackState → ℕ → BackState
reproduced v number = if number == v.log.reproduced then v else record v { log = without_records_to number v.log }

-- the back after a persist, by the answer
abbrev pub after_persist : Result (Unit {0}) BackFault → ℕ → RedoBundle → BackState → BackState
after_persist result ring b v = answered result (λ done. with_record ring b v) v

-- the back after an announcement, by the answer
abbrev pub after_announce : Result ℕ BackFault → BackState → BackState
after_announce result v = answered result (announced v) v

-- the back after a reproduction, by the answer
abbrev pub after_reproduce : Result ℕ BackFault → BackState → BackState
after_reproduce result v = answered result (reproduced v) v

-- the back after a read, by the answer
abbrev pub after_read : Result (Unit {0}) BackFault → BackState → BackState
after_read result v = answered result (λ done. v) v

-- The number to which waiting bundles lead is announced.
pub record Announces (v : BackState) (result : Result ℕ BackFault) (s t : Sight) : Type 0 where
  -- it is that number
  pub end : ℕ
  pub is_end : IsEnd v end
  -- which is answered
  pub answer : IfOk result (λ number. number ≡ end)
  -- exactly it is told, by one call
  pub made : CallsAnswered result (announce_calls end) s t

-- The records up to a number are reproduced by these calls: the words that they write are put, then the mark. There are at
-- most two calls for each word, and four.
pub record ReproducedBy (v : BackState) (number : ℕ) (calls : List Call) : Type 0 where
  pub records : List RedoBundle
  pub writes : List Write
  -- there is something to reproduce
  pub some : number ≢ v.log.reproduced
  -- these records wait, and lead from the reproduced number to this one
  pub lead : Lead (waiting_now v) v.log.reproduced records number
  -- these writes stand for the records
  pub stand : StandFor v.log.sizes records writes
  -- the calls put them, and then the mark
  pub calls_are : calls ≡ reproduce_calls v.log.sizes writes number
  pub few : length calls ≤ 2 * length writes + 4

-- The number is answered. Where there is nothing to do no call is made.
pub record Reproduces (v : BackState) (number : ℕ) (result : Result ℕ BackFault) (s t : Sight) : Type 0 where
  pub calls : List Call
  -- there is nothing to do; or these calls reproduce the records up to the number
  pub by : ((number ≡ v.log.reproduced) × (calls ≡ [])) ⊎ ReproducedBy v number calls
  pub answer : IfOk result (λ reached. reached ≡ number)
  -- exactly these calls were made, or a prefix of them whose last one failed
  pub made : CallsAnswered result calls s t

-- The records are reproduced up to where a reproduction of at most so many numbers stops, and that number is answered.
pub record ReproducesUpTo (v : BackState) (most : ℕ) (result : Result ℕ BackFault) (s t : Sight) : Type 0 where
  pub stop : ℕ
  pub stops : StopsAfter v.log most stop
  pub made : Reproduces v stop result s t

-- the records are reproduced up to where a reproduction of at most so many numbers stops; a dead back makes no call
abbrev pub ReproducesUnlessDead : BackState → ℕ → Result ℕ BackFault → Sight → Sight → Type 0
ReproducesUnlessDead v most (Ok number) s t = ReproducesUpTo v most (Ok number) s t
ReproducesUnlessDead v most (Err Device) s t = ReproducesUpTo v most (Err Device) s t
ReproducesUnlessDead v most (Err Dead) s t = t ≡ s
ReproducesUnlessDead v most (Err (RingFull used need)) s t = t ≡ s
