-- What a back does on its medium, call by call, between two moments at which it isn't dead: what isn't in here isn't done there.
use Rattle.std.specs.Prelude.{◌≡◌, ◌⊎◌, ℕ, ◌<◌, true, List, [], ◌++◌}
use Rattle.std.specs.List.{Contains}
use Rattle.dude_base.specs.Records.{RedoBundle}
use Rattle.pmem_trait.specs.declared.call.Call.{Call}
use Rattle.pmem_trait.specs.Sights.{Sight, CallsMade}
use Rattle.redo_record.specs.BackCalls.{announce_calls, read_page_calls}
use Rattle.redo_record.specs.Waiting.{Waiting}
use Rattle.back_store.specs.Back.{BackState, IsRingFull, idle, waiting_now}
use Rattle.back_store.specs.Answers.{ReproducedBy, announced, persist_calls, reproduced, with_record}

-- from entry to exit exactly the calls of a list were made that is as P says
abbrev pub Makes : (List Call → Type 0) → Sight → Sight → Type 0
Makes P s t = (calls : List Call) × P calls × CallsMade calls true s t

-- these calls reproduce the bundles up to this number; where the home has them there is no call
abbrev pub BroughtHomeBy : BackState → ℕ → List Call → Type 0
BroughtHomeBy v number calls = ((number ≡ v.log.reproduced) × (calls ≡ [])) ⊎ ReproducedBy v number calls

-- The ring had room, and these calls put the bundle in it, behind the others there.
pub record PersistedBy (ring : ℕ) (b : RedoBundle) (v w : BackState) (calls : List Call) : Type 0 where
  pub room : IsRingFull v ring b → ⊥
  pub back : w ≡ with_record ring b v
  pub calls_are : calls ≡ persist_calls v ring b

-- One operation after another, by these calls: a bundle is put in a ring that has room; a number is announced; the bundles
-- that lead from the mark to a greater number are reproduced, or no call is made where the home has them; a page is read.
-- Where nothing waits the rings may begin at their first slots again, which takes no call.
pub data OperatesLog : BackState → BackState → List Call → Type 0 where
  rests : {v : BackState} → OperatesLog v v []
  persists : {v w u : BackState} {calls more : List Call} (ring : ℕ) (b : RedoBundle) → PersistedBy ring b v w calls → OperatesLog w u more
      → OperatesLog v u (calls ++ more)
  announces : {v u : BackState} {more : List Call} (number : ℕ) → OperatesLog (announced v number) u more
      → OperatesLog v u (announce_calls number ++ more)
  reproduces : {v u : BackState} {calls more : List Call} (number : ℕ) → BroughtHomeBy v number calls → OperatesLog (reproduced v number) u more
      → OperatesLog v u (calls ++ more)
  reads : {v u : BackState} {more : List Call} (page : ℕ) → page < v.log.sizes.pages → OperatesLog v u more
      → OperatesLog v u (read_page_calls v.log.sizes page ++ more)
  renews : {v u : BackState} {more : List Call} → ((w : Waiting) → Contains (waiting_now v) w → ⊥)
      → OperatesLog (idle v.log.sizes v.log.reproduced) u more → OperatesLog v u more

-- from one back to another exactly the calls of such operations were made, and none failed
abbrev pub Operates : BackState → BackState → Sight → Sight → Type 0
Operates v w s t = Makes (OperatesLog v w) s t

-- from this back on
abbrev pub MakesOperations : BackState → Sight → Sight → Type 0
MakesOperations v s t = (w : BackState) × Operates v w s t
