use Rattle.pmem_trait.specs.declared.call.Call.TheVariants.{Put}
use Rattle.image_recovery.proofs.plain_image.PlainImageMedium.put.Goals as goal

pub returns : goal.returns
returns c = c.refuse.ensures (Put _ _)
