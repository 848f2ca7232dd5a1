use Rattle.std.proofs.Common.{◌≡◌, ℕ, List, length, refl, sym, subst, rules}
use Rattle.dude_base.specs.declared.sizes.Sizes.{Sizes}
use Rattle.pmem_trait.specs.Words.{IsContent}
use Rattle.tatp_layout.specs.StandsFor.{IsLawful}
use Rattle.image_recovery.specs.PlainImages.{still_state}
use Rattle.image_recovery.proofs.PlainContent.{own_content}
use Rattle.image_recovery.proofs.Reading.{refused_in_memory, never_device}
use Rattle.image_recovery.proofs.recovery.image_of.Goals as goal

-- the content of an image that was made of these words
made_content : (image words : List ℕ) → image ≡ words → IsContent (length image) (still_state image) words
made_content image words is = subst (IsContent (length image) (still_state image)) is (own_content image)

pub returns-in-Ok-clause-recovered : goal.returns-in-Ok-clause-recovered
returns-in-Ok-clause-recovered c =
    let has = c.in-Ok.ensures.recovered refl c.args.words.now (made_content c.new-image.result.image.now c.args.words.now c.new-image.ensures.image) in
    record { recovered = has.recovered; same_sizes = refl }

pub returns-in-Ok-clause-lawful : goal.returns-in-Ok-clause-lawful
returns-in-Ok-clause-lawful c =
    let has = c.in-Ok.ensures.recovered refl c.args.words.now (made_content c.new-image.result.image.now c.args.words.now c.new-image.ensures.image) in
    let P : Sizes → Type 0 = λ s. IsLawful s c.in-Ok.recovered.words.items in
    subst P (sym has.same_sizes) c.in-Ok.ensures.lawful.lawful

pub returns-in-Err-clause-refused : goal.returns-in-Err-clause-refused
returns-in-Err-clause-refused c = refused_in_memory c.args.words.now c.in-Err.fault c.in_memory.result c.in_memory.ensures
    (c.in-Err.ensures.refused refl c.args.words.now (made_content c.new-image.result.image.now c.args.words.now c.new-image.ensures.image))

pub returns-in-Err-clause-never_device : goal.returns-in-Err-clause-never_device
returns-in-Err-clause-never_device c = λ is. never_device c.in-Err.fault (search (rules, is))
