-- Which view has the turn.
use Rattle.std.specs.Prelude.{◌≡◌, true, false}
use Rattle.core_events.specs.Views.{View}
use Rattle.core_events.specs.Conditions.{HasThread}

-- the view isn't spent, and has a thread's number and the turn
pub record HasTurn (v : View) : Type 0 where
  pub live : v.part.is_spent ≡ false
  pub threaded : HasThread v
  pub turn : v.turn.has_it ≡ true
