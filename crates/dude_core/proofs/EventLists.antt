-- Lists of events as lists of steps.
use Rattle.std.proofs.Common.{ℕ, List, [], ◌∷◌}
use Rattle.dude_base.specs.declared.sizes.Sizes.{Sizes}
use Rattle.core_events.specs.Setups.{Setup}
use Rattle.core_events.specs.Partings.{AllLead, start}
use Rattle.core_medium.specs.Machines.{Machine, AllMachineLead, words_of}
use Rattle.core_medium.specs.KeptStore.{opening_medium}
use Rattle.core_medium.proofs.Openings.{opens}
use Rattle.core_medium.proofs.Start.{machine_reached, words_reached}
use Rattle.dude_core.specs.declared.event.Event.{Event}
use Rattle.dude_core.specs.EventLaws.{AllMake, steps_made, first_machine, CanStart, LawOfReachedMachine, LawOfKeptMachine}

all_lead : (z : Setup) (m : Machine) (es : List (ℕ × Event)) (n : Machine) (h : AllMake z m es n) → AllMachineLead z m (steps_made z m es n h) n
all_lead z m [] n h = h
all_lead z m (e ∷ es) n h = (h.0, h.1, all_lead z h.0 es n h.2)

pub reached_law : LawOfReachedMachine
reached_law z s es m can h = record {
  setup = can.setup;
  sizes = s;
  medium = opening_medium z s;
  begins = opens z s can.setup can.accepted can.places;
  lead = all_lead z (first_machine z s) es m h;
}

pub kept_law : LawOfKeptMachine
kept_law z s es m can h = machine_reached z (steps_made z (first_machine z s) es m h) m (reached_law z s es m can h)

pub words_law : (z : Setup) (s : Sizes) (es : List (ℕ × Event)) (m : Machine) → CanStart z s → (h : AllMake z (first_machine z s) es m) → AllLead z (start z) (words_of (steps_made z (first_machine z s) es m h)) m.core
words_law z s es m can h = words_reached z (steps_made z (first_machine z s) es m h) m (reached_law z s es m can h)
