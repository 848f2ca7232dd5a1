-- Where a transaction may begin.
use Rattle.std.specs.Prelude.{◌≡◌, ℕ, true}
use Rattle.core_events.specs.Views.{View}
use Rattle.core_events.specs.Events.{begin, view_after}
use Rattle.core_table.specs.Layout.{TableSight}
use Rattle.stm_transactions.specs.Passes.{IsResting, PassSight, pass_view}

-- the pass rests, and its next box was seen empty
pub record IsReady {X K : Type 0} (t : TableSight K) (p : PassSight X) : Type 0 where
  pub rests : IsResting t p
  pub empty : (pass_view p).box.is_empty ≡ true

-- the pass began a transaction at the clock n, and its view is this one now
abbrev pub Begins : {X K : Type 0} → TableSight K → PassSight X → ℕ → View → Type 0
Begins t p n v = v ≡ view_after t.setup begin (pass_view p) n
