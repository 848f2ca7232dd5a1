-- An image that is opened again behind a run.
use Rattle.std.specs.Prelude.{ℕ, IsTrue}
use Rattle.dude_base.specs.declared.sizes.Sizes.{Sizes}
use Rattle.pmem_trait.specs.Words.{AtLeast}
use Rattle.pmem_trait.specs.Sights.{Sight, state_now}
use Rattle.pmem_trait.specs.declared.medium.Medium.{Ghosts}
use Rattle.back_store.specs.Back.{idle}
use Rattle.back_store.specs.BackView.{medium_of}
use Rattle.back_store.specs.Images.{HoldsStore}
use Rattle.core_events.specs.Views.{View}
use Rattle.dude_recover.specs.Opened.{HoldsOpened}
use Rattle.run_threads.specs.Home.{IsHome}
use Rattle.stm_slots.specs.Opening.{start_sight}
use Rattle.stm_slots.specs.declared.opening.Opening.{Opening}
use Rattle.tiny_stm.specs.declared.closed.Closed.{Closed}

-- Whatever ended there over a medium that was as an idle back with an image of these sizes left it: where it is visible, it is as the opening of
-- such an image, with the last number and these words, leaves it. This holds behind the first so many numbers told of which none is greater,
-- also behind all of them.
abbrev pub HoldsReopened : {M : Type 0} {ghosts : Ghosts M} → (M → Sight) → Sizes → Closed M ghosts → Type 0
HoldsReopened {M} {ghosts} sight sizes c = (o : Opening M ghosts) (v : View) (first before : ℕ) → IsHome sight o v c → HoldsStore first (idle sizes o.terms.first) (start_sight sight o)
    → (IsTrue (sight (medium_of c.back)).is_visible → AtLeast before (state_now (sight (medium_of c.back))).told c.number)
    → HoldsOpened before sizes c.number c.words.items (sight (medium_of c.back))
