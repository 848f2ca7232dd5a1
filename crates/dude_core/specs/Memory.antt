-- Which events take memory.
use Rattle.core_events.specs.Events.{Event as Made, number, begin, extend, look, load, release, restore, see_box, post, take_turn, give_turn, raise_durable, raise_reproduced, unpin}
use Rattle.dude_core.specs.declared.event.Event.{Event}
use Rattle.dude_core.specs.declared.event.Event.TheVariants.{Number, Clock, Look, Load, Release, Restore, SeeBox, Post, TakeTurn, GiveTurn, RaiseDurable, RaiseReproduced, Unpin}

-- these thirteen kinds of events take no memory: they put nothing into a list
abbrev pub TakesNoMemory : Event → Type 0
TakesNoMemory Number = Unit {0}
TakesNoMemory (Clock extends) = Unit {0}
TakesNoMemory (Look k) = Unit {0}
TakesNoMemory (Load i) = Unit {0}
TakesNoMemory (Release k) = Unit {0}
TakesNoMemory (Restore k) = Unit {0}
TakesNoMemory SeeBox = Unit {0}
TakesNoMemory Post = Unit {0}
TakesNoMemory TakeTurn = Unit {0}
TakesNoMemory (GiveTurn failed) = Unit {0}
TakesNoMemory (RaiseDurable x) = Unit {0}
TakesNoMemory (RaiseReproduced x) = Unit {0}
TakesNoMemory (Unpin p) = Unit {0}
TakesNoMemory e = ⊥

-- the event of the definitions is none of those, and may take memory
abbrev pub MayTakeMemory : Made → Type 0
MayTakeMemory number = ⊥
MayTakeMemory begin = ⊥
MayTakeMemory extend = ⊥
MayTakeMemory (look k) = ⊥
MayTakeMemory (load i) = ⊥
MayTakeMemory (release k) = ⊥
MayTakeMemory (restore k) = ⊥
MayTakeMemory (unpin p) = ⊥
MayTakeMemory take_turn = ⊥
MayTakeMemory (give_turn failed) = ⊥
MayTakeMemory see_box = ⊥
MayTakeMemory post = ⊥
MayTakeMemory (raise_durable x) = ⊥
MayTakeMemory (raise_reproduced x) = ⊥
MayTakeMemory e = Unit {0}
