-- The machine of running transactions with its medium: its steps, and where each is allowed.
use Rattle.std.specs.Prelude.{◌≡◌, ◌==◌, ℕ, ◌<◌, ◌≤◌, true, false, List, [], ◌∷◌, ◌++◌, Some, slice_index, if◌then◌else◌}
use mathlib.Core.Option.{some}
use lib.ListN.{get_elem?}
use Rattle.pmem_trait.specs.declared.call.Call.{Call}
use Rattle.pmem_trait.specs.Words.{IsIn}
use Rattle.core_events.specs.Setups.{Setup, box_of, without_pins}
use Rattle.core_events.specs.Keyed.{find}
use Rattle.core_events.specs.Views.{View}
use Rattle.core_events.specs.Words.{State}
use Rattle.core_events.specs.Events.{Event, take_turn, give_turn, empty_box, raise_durable, raise_reproduced, evict, fill, show, kept_entry, unfilled}
use Rattle.core_events.specs.Conditions.{HasThread, IsFree, May, after}
use Rattle.core_events.specs.Partings.{MaySplit, MayJoin, split, join, Step, event, parting, joining}
use Rattle.core_medium.specs.KeptLog.{IsOnMedium}
use Rattle.core_medium.specs.Stores.{Store}
use Rattle.core_medium.specs.BackCalls.{BackCall, MayCall, calls_of, device_after}

-- words, views and records, and the store behind them
pub record Machine : Type 0 where
  pub core : State
  pub store : Store

-- ---- events on words
-- What an event asks of words and store, beside what its view allows. The turn is given away where no call of the back is under way, and no call fails here. A box is
-- emptied that is full and whose number is on the medium. The durable word rises to a number that was told, the reproduced one to a number
-- at which the mark was settled. A free frame is filled with a word that was read, of a page whose touch is up to the reproduced number.
-- Every other event asks nothing. A tell is a whole call of the back, so what was told was told when the last one ended
abbrev pub Meets : Setup → Event → State → Store → View → Type 0
Meets z (give_turn failed) c d v = (d.calls ≡ []) × (failed ≡ false)
Meets z (empty_box t j) c d v = (0 < slice_index c.boxes (box_of z t j)) × IsOnMedium d.log (slice_index c.boxes (box_of z t j))
Meets z (raise_durable x) c d v = (c.durable ≤ x) × IsIn x d.rest.told
Meets z (raise_reproduced x) c d v = (c.reproduced ≤ x) × IsIn x d.marks
Meets z (fill p f i x) c d v =
    IsFree z c f × ((y : ℕ) → find v.turn.touches p ≡ Some y → y ≤ c.reproduced) × (find d.read i ≡ Some x)
Meets z e c d v = Unit {0}

-- the view `who` may make the event
pub record IsMet (z : Setup) (m : Machine) (who : ℕ) (e : Event) (v : View) : Type 0 where
  pub is_there : get_elem? m.core.views who ≡ some v
  pub may : May z e v
  pub meets : Meets z e m.core m.store v

-- what was read is dropped where a turn begins, where the reproduced word is raised, and, of a page, where its entry is replaced
abbrev pub store_after : Setup → Event → State → View → Store → Store
store_after z take_turn c v d = record d { read = if c.turn == 0 then [] else d.read }
store_after z (raise_reproduced x) c v d = record d { read = [] }
store_after z (evict p) c v d = record d { read = if slice_index c.entries p == without_pins (kept_entry v p) then unfilled p d.read else d.read }
store_after z (show p f) c v d = record d { read = unfilled p d.read }
store_after z e c v d = d

-- the machine after an event of the view `who`
abbrev pub machine_after : Setup → Machine → ℕ → View → Event → Machine
machine_after z m who v e = record { core = after z m.core who v e; store = store_after z e m.core v m.store }

-- ---- a call on the medium
-- The view that has the turn makes the next call on the medium of a call of the back that is allowed: the calls made since the last call of
-- the back ended, this one and some left are its whole list
pub record MayDevice (z : Setup) (m : Machine) (who : ℕ) (v : View) (call : Call) (b : BackCall) (left : List Call) : Type 0 where
  pub is_there : get_elem? m.core.views who ≡ some v
  pub live : v.part.is_spent ≡ false
  pub threaded : HasThread v
  pub turn : v.turn.has_it ≡ true
  pub may : MayCall z m.core.boxes m.core.records m.store.log m.store.rest.told b
  pub whole : calls_of z m.core.records m.store.log.sizes m.store.next b ≡ m.store.calls ++ call ∷ left

-- the machine after that call; where none is left, the call of the back has ended
abbrev pub with_device : Setup → Machine → BackCall → Call → List Call → Machine
with_device z m b call left = record { core = m.core; store = device_after z m.core.records b call left m.store }

-- ---- steps
-- a step on words, or one call on the medium by the view `who`
pub data MachineStep : Type 0 where
  on_words : Step → MachineStep
  device : ℕ → Call → MachineStep

-- the machine with other words and views
abbrev pub with_core : Machine → State → Machine
with_core m c = record { core = c; store = m.store }

-- the step is allowed and leads from m to n
abbrev pub MachineLeads : Setup → Machine → MachineStep → Machine → Type 0
MachineLeads z m (on_words (event who e)) n = (v : View) × IsMet z m who e v × (n ≡ machine_after z m who v e)
MachineLeads z m (on_words (parting who draws)) n = (v : View) × MaySplit m.core who v draws × (n ≡ with_core m (split z m.core who v draws))
MachineLeads z m (on_words (joining who other)) n =
    (v : View) × (w : View) × MayJoin m.core who v other w × (n ≡ with_core m (join z m.core who v other w))
MachineLeads z m (device who call) n =
    (v : View) × (b : BackCall) × (left : List Call) × MayDevice z m who v call b left × (n ≡ with_device z m b call left)

-- each step is allowed, and the last leads to n
abbrev pub AllMachineLead : Setup → Machine → List MachineStep → Machine → Type 0
AllMachineLead z m [] n = n ≡ m
AllMachineLead z m (s ∷ ss) n = (b : Machine) × MachineLeads z m s b × AllMachineLead z b ss n

-- the steps on words among them
abbrev pub words_of : List MachineStep → List Step
words_of [] = []
words_of (on_words s ∷ ss) = s ∷ words_of ss
words_of (device who call ∷ ss) = words_of ss
