use Rattle.pmem_trait.specs.declared.call.Call.TheVariants.{Flush}
use Rattle.image_recovery.proofs.plain_image.PlainImageMedium.flush.Goals as goal

pub returns : goal.returns
returns c = c.refuse.ensures (Flush _)
