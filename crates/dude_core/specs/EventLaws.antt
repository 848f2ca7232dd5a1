-- What holds after any list of events, each with the view that makes it.
use Rattle.std.specs.Prelude.{◌≡◌, ℕ, true, List, [], ◌∷◌}
use Rattle.dude_base.specs.declared.sizes.Sizes.{Sizes}
use Rattle.dude_base.specs.Sizes.{IsAccepted}
use Rattle.core_events.specs.Setups.{Setup, IsSetup}
use Rattle.core_events.specs.Keyed.{total}
use Rattle.core_events.specs.Views.{Entry}
use Rattle.core_events.specs.Entries.{all_entries, IsLegal}
use Rattle.core_events.specs.Partings.{AllLead, all_made, start}
use Rattle.core_medium.specs.Machines.{Machine, MachineStep, MachineLeads, words_of}
use Rattle.core_medium.specs.KeptStore.{MachineKept, HasPlaces, opening_medium, start_machine}
use Rattle.core_medium.specs.MachineLaws.{IsReached}
use Rattle.dude_core.specs.declared.event.Event.{Event}
use Rattle.dude_core.specs.Steps.{step_of}

-- each event is allowed, and the last leads to n
abbrev pub AllMake : Setup → Machine → List (ℕ × Event) → Machine → Type 0
AllMake z m [] n = n ≡ m
AllMake z m (e ∷ es) n = (b : Machine) × MachineLeads z m (step_of m.store.read e.0 e.1) b × AllMake z b es n

-- the steps that the events were
abbrev pub steps_made : (z : Setup) (m : Machine) (es : List (ℕ × Event)) (n : Machine) → AllMake z m es n → List MachineStep
steps_made z m [] n h = []
steps_made z m (e ∷ es) n h = step_of m.store.read e.0 e.1 ∷ steps_made z h.0 es n h.2

-- the machine at the start, over the opening medium
abbrev pub first_machine : Setup → Sizes → Machine
first_machine z s = start_machine z s (opening_medium z s)

-- the setup is within its limits, and the sizes are accepted and have room for its threads and home
pub record CanStart (z : Setup) (s : Sizes) : Type 0 where
  pub setup : IsSetup z
  pub accepted : IsAccepted s
  pub places : HasPlaces z s

-- after every list of allowed events the machine is reached by their steps: so what the laws of the machine with its medium say of every
-- crash holds there
abbrev pub LawOfReachedMachine : Type 0
LawOfReachedMachine = (z : Setup) (s : Sizes) (es : List (ℕ × Event)) (m : Machine) → CanStart z s → (h : AllMake z (first_machine z s) es m) → IsReached z (steps_made z (first_machine z s) es m h) m

-- after every list of allowed events the machine is kept
abbrev pub LawOfKeptMachine : Type 0
LawOfKeptMachine = (z : Setup) (s : Sizes) (es : List (ℕ × Event)) (m : Machine) → CanStart z s → AllMake z (first_machine z s) es m → MachineKept z m

-- after every list of allowed events the entries of all views are legal, where it is known what the medium gives
abbrev pub LawOfLegality : Type 0
LawOfLegality = (z : Setup) (s : Sizes) (es : List (ℕ × Event)) (m : Machine) → CanStart z s → z.is_told ≡ true → AllMake z (first_machine z s) es m → IsLegal z.first z.opening (all_entries m.core.views)

-- after every list of allowed events the views have the entries that the events made, each once: however entries are
-- weighed, both weigh the same
abbrev pub LawOfOnce : Type 0
LawOfOnce = (z : Setup) (s : Sizes) (es : List (ℕ × Event)) (m : Machine) → CanStart z s → (h : AllMake z (first_machine z s) es m)
    → (words : AllLead z (start z) (words_of (steps_made z (first_machine z s) es m h)) m.core)
    × ((f : Entry → ℕ) → total f (all_entries m.core.views) ≡ total f (all_made z (words_of (steps_made z (first_machine z s) es m h)) (start z) m.core words))
