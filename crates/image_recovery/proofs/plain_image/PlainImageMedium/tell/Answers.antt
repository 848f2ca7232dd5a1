use Rattle.pmem_trait.specs.declared.call.Call.TheVariants.{Tell}
use Rattle.image_recovery.proofs.plain_image.PlainImageMedium.tell.Goals as goal

pub returns : goal.returns
returns c = c.refuse.ensures (Tell _)
