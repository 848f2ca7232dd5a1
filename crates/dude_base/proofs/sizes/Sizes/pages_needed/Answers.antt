use Rattle.std.proofs.Common.{arith}
use Rattle.dude_base.specs.declared.field.Field.TheVariants.{Subscribers, Calls, Index}
use Rattle.dude_base.proofs.sizes.Sizes.pages_needed.Goals as goal

pub pages_of_home-requires : goal.pages_of_home-requires
pages_of_home-requires c =
    let within = c.requires in
    record { subscribers = (within Subscribers (omega arith)).high; calls = (within Calls (omega arith)).high; index = omega (arith, (within Index (omega arith)).high) }
