-- Where a request may be tried.
use Rattle.std.specs.Prelude.{◌≡◌, ◌<◌, ◌≤◌, false}
use Rattle.dude_base.specs.declared.sizes.Sizes.{Sizes}
use Rattle.tatp_model.specs.declared.request.Request.{Request}
use Rattle.tatp_model.specs.Request.{IsInRange}
use Rattle.core_table.specs.Layout.{TableSight}
use Rattle.stm_transactions.specs.Passes.{PassSight, IsResting}

-- The pass rests and may draw a number, the home is the table's, and the request is in range
pub record MayTry {X K : Type 0} (t : TableSight K) (s : Sizes) (q : Request) (p : PassSight X) : Type 0 where
  pub rests : IsResting t p
  pub draws : 0 < p.numbers.left
  pub home : s.pages ≡ t.setup.pages
  pub in_range : IsInRange q

-- So it is, and the pass has met no fault, and may draw 65 numbers
pub record MayServe {X K : Type 0} (t : TableSight K) (s : Sizes) (q : Request) (p : PassSight X) : Type 0 where
  pub rests : IsResting t p
  pub no_fault : p.numbers.met_fault ≡ false
  pub draws : 65 ≤ p.numbers.left
  pub home : s.pages ≡ t.setup.pages
  pub in_range : IsInRange q
