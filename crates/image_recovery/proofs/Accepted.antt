-- No field of accepted sizes is out of its limits.
use Rattle.dude_base.specs.declared.field.Field.{Field}
use Rattle.dude_base.specs.declared.field.Field.TheVariants.{Subscribers, Calls, Rings, Cells, Index, Pages}
use Rattle.dude_base.specs.declared.sizes.Sizes.{Sizes}
use Rattle.dude_base.specs.Sizes.{IsAccepted, IsFirstOut}

pub never_out : (s : Sizes) (field : Field) → IsAccepted s → IsFirstOut field s → ⊥
never_out s Subscribers is out = out.out is.subscribers
never_out s Calls is out = out.out is.calls
never_out s Rings is out = out.out is.rings
never_out s Cells is out = out.out is.cells
never_out s Pages is out = out.out is.pages
never_out s Index is out = out.out is.index
