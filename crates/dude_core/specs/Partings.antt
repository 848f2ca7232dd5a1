-- Where a view may be split or joined into another, by what it says itself.
use Rattle.std.specs.Prelude.{◌≡◌, ℕ, ◌<◌, ◌≤◌, ◌++◌, false, List}
use Rattle.core_events.specs.Views.{Part, View}
use Rattle.core_events.specs.Conditions.{IsIdle}
use Rattle.core_events.specs.Partings.{thread_list}

-- the view is live, and has a split and so many draws left
abbrev pub HasLeft : View → ℕ → Type 0
HasLeft v draws = (v.part.is_spent ≡ false) × (0 < v.part.splits) × (draws ≤ v.draws)

-- the view is live and idle, and has not the turn
abbrev pub IsDone : View → Type 0
IsDone v = (v.part.is_spent ≡ false) × IsIdle v × (v.turn.has_it ≡ false)

-- the ended threads of p, and then the thread of q and those that ended in it
abbrev pub ended_in : Part → Part → List ℕ
ended_in p q = p.ended ++ (thread_list q.thread ++ q.ended)
