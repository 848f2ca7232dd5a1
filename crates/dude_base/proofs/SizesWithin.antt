-- Sizes that are within their limits.
use Rattle.std.proofs.Common.{◌≡◌, ℕ, arith}
use Rattle.dude_base.specs.declared.field.Field.TheVariants.{Subscribers, Calls, Rings, Cells, Index}
use Rattle.dude_base.specs.declared.sizes.Sizes.{Sizes}
use Rattle.dude_base.specs.Home.{pages_for}
use Rattle.dude_base.specs.Sizes.{CountsAreWithin, IsAccepted}

-- where the counts are, the sizes are accepted with the pages that the home needs
pub accepted : (s : Sizes) (pages : ℕ) → CountsAreWithin s → pages ≡ pages_for s.subscribers s.calls s.index → IsAccepted (record s { pages = pages })
accepted s pages within are = record {
  subscribers = within Subscribers (omega arith);
  calls = within Calls (omega arith);
  rings = within Rings (omega arith);
  cells = within Cells (omega arith);
  pages = are;
  index = within Index (omega arith);
}
