-- What the passes of a run keep.
use Rattle.std.specs.Prelude.{◌≡◌, ℕ, ◌+◌, false, List, length, All}
use Rattle.core_events.specs.Conditions.{IsIdle}
use Rattle.core_events.specs.KeptThreads.{held_of}
use Rattle.core_events.specs.Telling.{IsSeated}
use Rattle.core_events.specs.Views.{View}
use Rattle.core_table.specs.Layout.{TableSight, IsSmall}
use Rattle.stm_transactions.specs.Passes.{Describes, IsResting, PassSight, pass_view}

-- The pass rests still, and is whose it was
pub record StaysWith {X K : Type 0} (t : TableSight K) (p q : PassSight X) : Type 0 where
  pub rests : IsResting t q
  pub part : (pass_view q).part ≡ (pass_view p).part

-- The pass is of this table, and no transaction of it is open: as IsResting says it, in a form with one proof at most
pub record IsHeld {X K : Type 0} (t : TableSight K) (p : PassSight X) : Type 0 where
  pub table : p.table ≡ t.id
  pub small : IsSmall t.setup
  pub seat : length p.known ≡ 1
  pub idle : IsIdle (pass_view p)
  pub no_turn : (pass_view p).turn.has_it ≡ false
  pub seated : IsSeated t.setup (pass_view p)
  pub numbers : Describes t.setup p.numbers (pass_view p)

-- the threads' numbers that the view has, and those that it may still give away
abbrev pub share_of : View → ℕ
share_of v = held_of v.part + v.part.splits

-- The pass is held, and has its own thread's number alone
pub record IsOther {X K : Type 0} (t : TableSight K) (p : PassSight X) : Type 0 where
  pub held : IsHeld t p
  pub alone : share_of (pass_view p) ≡ 1

-- All passes of this table are held; the first one and the others have all threads' numbers
pub record AreHeld {X K : Type 0} (t : TableSight K) (first : PassSight X) (others : List (PassSight X)) : Type 0 where
  pub held : IsHeld t first
  pub each : All (IsOther t) others
  pub share : share_of (pass_view first) + length others ≡ t.setup.threads
