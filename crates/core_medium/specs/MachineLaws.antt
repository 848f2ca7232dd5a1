-- What the laws of the machine with its medium say.
use Rattle.std.specs.Prelude.{◌≡◌, ℕ, ◌+◌, ◌*◌, ◌<◌, ◌≤◌, true, false, ◌⊎◌, List, [], ◌++◌, Contains, length, map, All, AllPairs, Some, slice_index}
use mathlib.Core.Option.{some}
use lib.ListN.{get_elem?}
use Rattle.dude_base.specs.declared.limits.TheConstants.{PAGE}
use Rattle.dude_base.specs.declared.sizes.Sizes.{Sizes}
use Rattle.dude_base.specs.declared.write.Write.{Write}
use Rattle.dude_base.specs.Image.{image_words}
use Rattle.dude_base.specs.Sizes.{IsAccepted}
use Rattle.dude_base.specs.Writes.{overwritten}
use Rattle.pmem_trait.specs.declared.call.Call.{Call}
use Rattle.pmem_trait.specs.Words.{State as MediumState, EveryImage}
use Rattle.redo_record.specs.BackCalls.{read_page_calls}
use Rattle.redo_record.specs.Waiting.{Waiting}
use Rattle.core_events.specs.Setups.{Setup, IsSetup}
use Rattle.core_events.specs.Keyed.{find}
use Rattle.core_events.specs.Views.{View}
use Rattle.core_events.specs.Words.{State}
use Rattle.core_events.specs.Conditions.{HasThread}
use Rattle.core_events.specs.Partings.{AllLead, start}
use Rattle.core_medium.specs.Stores.{Store, medium_of}
use Rattle.core_medium.specs.BackCalls.{BackCall, reading, MayCall, calls_of, store_behind}
use Rattle.core_medium.specs.Machines.{Machine, MachineStep, MachineLeads, device, AllMachineLead, words_of}
use Rattle.core_medium.specs.KeptStore.{MachineKept, HasPlaces, IsStart, opening_medium, start_machine}
use Rattle.core_medium.specs.Crash.{RecoversToValues}
use Rattle.core_medium.specs.Images.{ImagesHave}

-- The machine is reached by these steps from the start, over a medium that fits it.
pub record IsReached (z : Setup) (ss : List MachineStep) (m : Machine) : Type 0 where
  pub setup : IsSetup z
  pub sizes : Sizes
  pub medium : MediumState
  pub begins : IsStart z sizes medium
  pub lead : AllMachineLead z (start_machine z sizes medium) ss m

-- for accepted sizes that have room for the setup's threads and home there is a medium to start with
abbrev pub LawOfStart : Type 0
LawOfStart = (z : Setup) (s : Sizes) → IsSetup z → IsAccepted s → HasPlaces z s → IsStart z s (opening_medium z s)

-- after every list of steps the machine is kept
abbrev pub LawOfMachines : Type 0
LawOfMachines = (z : Setup) (ss : List MachineStep) (m : Machine) → IsReached z ss m → MachineKept z m

-- the steps on words are steps of the machine without a medium, and lead to the same words and views
abbrev pub LawOfWordSteps : Type 0
LawOfWordSteps = (z : Setup) (ss : List MachineStep) (m : Machine) → IsReached z ss m → AllLead z (start z) (words_of ss) m.core

-- every image of a kept machine's medium recovers to an end and to the values at it
abbrev pub LawOfKeptCrashes : Type 0
LawOfKeptCrashes = (z : Setup) (m : Machine) (len : ℕ) → MachineKept z m → image_words m.store.log.sizes ≤ len
    → EveryImage len (RecoversToValues z m) (medium_of m.store)

-- so does every one after every list of steps
abbrev pub LawOfCrashes : Type 0
LawOfCrashes = (z : Setup) (ss : List MachineStep) (m : Machine) (len : ℕ) → IsReached z ss m → image_words m.store.log.sizes ≤ len
    → EveryImage len (RecoversToValues z m) (medium_of m.store)

-- each word of a kept machine's medium may hold what the log and the call under way say, and nothing else
abbrev pub LawOfKeptImages : Type 0
LawOfKeptImages = (z : Setup) (m : Machine) → MachineKept z m → ImagesHave z m

-- so may each one after every list of steps
abbrev pub LawOfImages : Type 0
LawOfImages = (z : Setup) (ss : List MachineStep) (m : Machine) → IsReached z ss m → ImagesHave z m

-- a step settles the mark only at the last number of a bundle that waited
abbrev pub LawOfMarks : Type 0
LawOfMarks = (z : Setup) (s : MachineStep) (m n : Machine) → MachineLeads z m s n
    → (n.store.log.reproduced ≡ m.store.log.reproduced)
    ⊎ ((w : Waiting) × Contains m.store.log.waiting w × (w.redo.last ≡ n.store.log.reproduced))

-- A call of the back that is allowed can be made to its end, call by call on the medium, by the view that has the turn: from where these
-- calls are left of it
abbrev pub LawOfWholeCalls : Type 0
LawOfWholeCalls = (z : Setup) (c : State) (d : Store) (who : ℕ) (v : View) (b : BackCall) (calls : List Call)
    → get_elem? c.views who ≡ some v → v.part.is_spent ≡ false → HasThread v → v.turn.has_it ≡ true
    → MayCall z c.boxes c.records d.log d.rest.told b → calls_of z c.records d.log.sizes d.next b ≡ d.calls ++ calls
    → AllMachineLead z (record { core = c; store = d }) (map (device who) calls) (record { core = c; store = store_behind z c.records b d calls })

-- The page was read whole: log and medium are as they were, no call is under way, and each word of the page is among the words read, as the
-- home has it.
pub record HasReadPage (p : ℕ) (d e : Store) : Type 0 where
  pub log : e.log ≡ d.log
  pub rest : e.rest ≡ d.rest
  pub calls : e.calls ≡ []
  pub words : (i : ℕ) → i < PAGE → find e.read (p * PAGE + i) ≡ Some (slice_index d.log.home (p * PAGE + i))

-- in a kept machine where no call is under way the calls of a read of a page leave that
abbrev pub LawOfPageReads : Type 0
LawOfPageReads = (z : Setup) (m : Machine) (p : ℕ) → MachineKept z m → p < m.store.log.sizes.pages → m.store.calls ≡ []
    → HasReadPage p m.store (store_behind z m.core.records (reading p) m.store (read_page_calls m.store.log.sizes p))

-- writes in rising order of word that leave the same of every array of a length are the same
abbrev pub LawOfCombinedWrites : Type 0
LawOfCombinedWrites = (words : ℕ) (ws vs : List Write) → AllPairs (λ v w. v.at < w.at) ws → AllPairs (λ v w. v.at < w.at) vs
    → All (λ w. w.at < words) ws → All (λ w. w.at < words) vs
    → ((array : List ℕ) → length array ≡ words → overwritten ws array ≡ overwritten vs array) → ws ≡ vs
