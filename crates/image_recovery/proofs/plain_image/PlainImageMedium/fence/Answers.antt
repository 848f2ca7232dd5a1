use Rattle.pmem_trait.specs.declared.call.Call.TheVariants.{Fence}
use Rattle.image_recovery.proofs.plain_image.PlainImageMedium.fence.Goals as goal

pub returns : goal.returns
returns c = c.refuse.ensures (Fence)
