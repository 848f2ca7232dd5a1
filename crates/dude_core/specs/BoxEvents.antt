-- What an event does with the records of boxes.
use Rattle.std.specs.Prelude.{◌≡◌}
use Rattle.core_events.specs.Setups.{Setup}
use Rattle.core_events.specs.Views.{View}
use Rattle.core_events.specs.Words.{State}
use Rattle.core_events.specs.Events.{Event, post, empty_box}
use Rattle.core_events.specs.Conditions.{records_after, persisted_after}
use Rattle.dude_core.specs.declared.box_event.BoxEvent.{BoxEvent}
use Rattle.dude_core.specs.declared.box_event.BoxEvent.TheVariants.{Post, Empty, Other}

-- all records stay
pub record IsPlain (e : Event) : Type 0 where
  pub records : (z : Setup) (c : State) (v : View) → records_after z e c v ≡ c.records
  pub persisted : (z : Setup) (c : State) → persisted_after z e c ≡ c.persisted

-- the event is a post, or empties this box, or leaves all records where they are
abbrev pub IsBoxEvent : BoxEvent → Event → Type 0
IsBoxEvent Post e = e ≡ post
IsBoxEvent (Empty t j) e = e ≡ empty_box t j
IsBoxEvent Other e = IsPlain e
