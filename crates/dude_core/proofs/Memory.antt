-- An event that takes no memory, as one of the definitions.
use Rattle.std.proofs.Common.{ℕ, true, false, List, sym, subst}
use Rattle.core_events.specs.Events.{Event as Made}
use Rattle.core_events.specs.Partings.{event}
use Rattle.core_medium.specs.Machines.{MachineStep, on_words}
use Rattle.dude_core.specs.declared.event.Event.{Event}
use Rattle.dude_core.specs.declared.event.Event.TheVariants.{Split, Join, Number, Clock, Look, Load, Check, Finish, Take, Draw, Decide, Store, Release, Restore, SeeBox, Post, TakeTurn, GiveTurn, SeeFull, EmptyBox, RaiseDurable, RaiseReproduced, Entry, Pin, Unpin, Touch, LoadTouch, Evict, Fill, Show, Device}
use Rattle.dude_core.specs.Memory.{TakesNoMemory, MayTakeMemory}
use Rattle.dude_core.specs.Steps.{step_of, IsEventOf}

-- the step may take memory
step_takes : MachineStep → Type 0
step_takes (on_words (event who e)) = MayTakeMemory e
step_takes s = Unit {0}

step_takes_none : (read : List (ℕ × ℕ)) (d : Event) → TakesNoMemory d → step_takes (step_of read 0 d) → ⊥
unfolding step_takes
step_takes_none read (Split n) none takes = none
step_takes_none read (Join other) none takes = none
step_takes_none read Number none takes = takes
step_takes_none read (Clock true) none takes = takes
step_takes_none read (Clock false) none takes = takes
step_takes_none read (Look k) none takes = takes
step_takes_none read (Load i) none takes = takes
step_takes_none read (Check k) none takes = none
step_takes_none read (Finish f i q y) none takes = none
step_takes_none read (Take k) none takes = none
step_takes_none read (Draw f i q y r) none takes = none
step_takes_none read Decide none takes = none
step_takes_none read (Store i) none takes = none
step_takes_none read (Release k) none takes = takes
step_takes_none read (Restore k) none takes = takes
step_takes_none read SeeBox none takes = takes
step_takes_none read Post none takes = takes
step_takes_none read TakeTurn none takes = takes
step_takes_none read (GiveTurn failed) none takes = takes
step_takes_none read (SeeFull t j) none takes = none
step_takes_none read (EmptyBox t j) none takes = none
step_takes_none read (RaiseDurable x) none takes = takes
step_takes_none read (RaiseReproduced x) none takes = takes
step_takes_none read (Entry p) none takes = none
step_takes_none read (Pin p) none takes = none
step_takes_none read (Unpin p) none takes = takes
step_takes_none read (Touch p) none takes = none
step_takes_none read (LoadTouch p) none takes = none
step_takes_none read (Evict p) none takes = none
step_takes_none read (Fill p f i) none takes = none
step_takes_none read (Show p f) none takes = none
step_takes_none read (Device call) none takes = none

-- an event that takes no memory is made as one that takes none
pub made_takes_none : (read : List (ℕ × ℕ)) (d : Event) (e : Made) → IsEventOf read d e → TakesNoMemory d → MayTakeMemory e → ⊥
unfolding step_takes
made_takes_none read d e is none takes = step_takes_none read d none (subst step_takes (sym (is 0)) takes)
