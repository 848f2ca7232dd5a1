use Rattle.core_medium.proofs.Images.{images_have}
use Rattle.core_medium.proofs.Start.{machine_reached}
use Rattle.core_medium.proofs.laws.law_of_images.Goals as goal

pub returns-clause-kept : goal.returns-clause-kept
returns-clause-kept c = λ z m k. images_have z k.ghost_is m.core k.layers m.store k.store

pub returns-clause-reached : goal.returns-clause-reached
returns-clause-reached c = λ z ss m is. let k = machine_reached z ss m is in images_have z k.ghost_is m.core k.layers m.store k.store
