use Rattle.std.proofs.Common.{◌≡◌, ◌≤◌, IsTrue, [], subst, sym}
use Rattle.dude_base.specs.Image.{image_words}
use Rattle.pmem_trait.specs.Sights.{Sight}
use Rattle.back_store.specs.Back.{home_now}
use Rattle.back_store.specs.BackView.{sight_of, state_of}
use Rattle.back_store.specs.Images.{HoldsStore}
use Rattle.stm_slots.specs.Known.{Known, told_before}
use Rattle.stm_slots.specs.KnownLists.{lists}
use Rattle.stm_slots.proofs.Starts.{known_start}
use Rattle.stm_slots.proofs.known_back.start.Goals as goal

pub returns-clause-known : goal.returns-clause-known
returns-clause-known g c =
    let back = c.args.back.now in
    λ b is.
    let here : sight_of back ≡ b.start = is.start in
    let P : Sight → Type 0 = λ s. (image_words (state_of back).log.sizes ≤ s.len) × HoldsStore (told_before b) (state_of back) s × (IsTrue s.is_visible → home_now (state_of back).log.sizes s ≡ b.opening) in
    let at = subst P here (is.room, is.keeps, is.home) in
    subst (Known b (lists (state_of back) [])) (sym here)
    (known_start b (state_of back) c.durable-durable.ensures.lawful is.alive is.none is.durable is.reproduced is.state at.0 at.1 at.2)
