-- Events as steps of the definitions, and the parts that a step is made of.
use Rattle.std.specs.Prelude.{◌≡◌, ◌↔◌, ℕ, slice_set, Result, IsErrOf}
use mathlib.Core.Option.{some}
use lib.ListN.{get_elem?}
use Rattle.core_events.specs.Setups.{Setup}
use Rattle.core_events.specs.Views.{View}
use Rattle.core_events.specs.Words.{State, found, put}
use Rattle.core_events.specs.Events.{Event, name, word_after, view_after}
use Rattle.core_events.specs.Conditions.{May}
use Rattle.core_events.specs.Partings.{Step, Leads, event}
use Rattle.core_events.specs.Telling.{IsSeated, WordTold}
use Rattle.dude_core.specs.declared.deed.Deed.{Deed}
use Rattle.core_medium.specs.Machines.{Machine, MachineStep, on_words, IsMet, MachineLeads}
use Rattle.core_medium.specs.KeptStore.{MachineKept}
use Rattle.dude_core.specs.Named.{event_of}
use Rattle.dude_core.specs.StoreData.{StoreData}
use Rattle.dude_core.specs.Stands.{machine_over}
use Rattle.dude_core.specs.declared.core_refusal.CoreRefusal.{CoreRefusal}
use Rattle.dude_core.specs.declared.core_refusal.CoreRefusal.TheVariants.{Off}

-- the event that is made by the view `who`, as a step
abbrev pub event_by : ℕ → Deed → Step
event_by who d = event who (event_of d)

-- the same, as a step of the machine with its medium
abbrev pub machine_step : ℕ → Deed → MachineStep
machine_step who d = on_words (event_by who d)

-- the definitions don't allow the split or the join
abbrev pub IsOffAt : Setup → State → Step → Type 0
IsOffAt z c s = (d : State) → Leads z c s d → ⊥

-- a split or a join is refused as off exactly where it isn't allowed
abbrev pub IsOffOnlyAt : {A : Type 0} → Result A CoreRefusal → Setup → State → Step → Type 0
IsOffOnlyAt r z c s = IsErrOf r Off ↔ IsOffAt z c s

-- the definitions don't allow the step
abbrev pub IsOffIn : Setup → Machine → MachineStep → Type 0
IsOffIn z m s = (n : Machine) → MachineLeads z m s n → ⊥

-- a call is refused as off exactly where the step isn't allowed
abbrev pub IsOffOnlyIn : {A : Type 0} → Result A CoreRefusal → Setup → Machine → MachineStep → Type 0
IsOffOnlyIn r z m s = IsErrOf r Off ↔ IsOffIn z m s

-- ---- a state and a store as data, as a machine
-- they are kept
abbrev pub IsKeptOver : Setup → State → StoreData → Type 0
IsKeptOver z c a = MachineKept z (machine_over z c a)

-- the step is allowed over them, and leads to these
abbrev pub LeadsOver : Setup → State → StoreData → MachineStep → State → StoreData → Type 0
LeadsOver z c a s d b = MachineLeads z (machine_over z c a) s (machine_over z d b)

-- a call is refused as off exactly where the step isn't allowed over them
abbrev pub IsOffOnlyOver : {A : Type 0} → Result A CoreRefusal → Setup → State → StoreData → MachineStep → Type 0
IsOffOnlyOver r z c a s = IsOffOnlyIn r z (machine_over z c a) s

-- ---- the parts of an event
-- the view `who` may make the event
abbrev pub MayMake : Setup → Machine → ℕ → Event → Type 0
MayMake z m who e = (v : View) × IsMet z m who e v

-- the view `who` may make the event, and knows what it needs of the word
pub record IsReady (z : Setup) (c : State) (who : ℕ) (e : Event) : Type 0 where
  pub view : View
  pub is_there : get_elem? c.views who ≡ some view
  pub seated : IsSeated z view
  pub may : May z e view
  pub told : WordTold z e view (found c (name z e view))

-- the state with the word and the view after the event
abbrev pub moved : Setup → State → ℕ → View → Event → State
moved z c who v e =
    let n = found c (name z e v) in
    let d = put c (name z e v) (word_after e v n) in
    record d { views = slice_set c.views who (view_after z e v n) }

-- the word and the view are as after the event, and nothing else changed
pub record IsMoved (z : Setup) (c : State) (who : ℕ) (e : Event) (d : State) : Type 0 where
  pub ready : IsReady z c who e
  pub after : d ≡ moved z c who ready.view e
