use Rattle.pmem_trait.specs.declared.call.Call.TheVariants.{Read}
use Rattle.image_recovery.proofs.plain_image.PlainImageMedium.read.Goals as goal

pub returns-then-self-clause-one_call : goal.returns-then-self-clause-one_call
returns-then-self-clause-one_call c = c.refuse.ensures (Read _)
