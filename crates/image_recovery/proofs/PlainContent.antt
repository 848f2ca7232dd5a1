-- An image in memory as a medium: its content is the image.
use Rattle.std.proofs.Common.{ℕ, List, length, refl}
use Rattle.pmem_trait.specs.Words.{IsContent}
use Rattle.image_recovery.specs.PlainImages.{still_state}

pub own_content : (image : List ℕ) → IsContent (length image) (still_state image) image
own_content image = record { size = refl; each = λ k below. refl }
