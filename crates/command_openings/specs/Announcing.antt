-- The number of an opened image is told.
use Rattle.std.specs.Prelude.{◌≡◌, ℕ, true, false, IsTrue, MatchResult, Result, [], ◌∷◌, ◌++◌}
use Rattle.pmem_trait.specs.declared.medium.Medium.{Ghosts}
use Rattle.pmem_trait.specs.declared.call.Call.TheVariants.{Tell}
use Rattle.pmem_trait.specs.Sights.{Sight, state_now, AtEveryMoment, CallsMade, Risen}
use Rattle.back_store.specs.BackView.{medium_of}
use Rattle.dude_recover.specs.Opened.{HoldsOpened}
use Rattle.dude_recover.specs.declared.opened.Opened.{Opened}
use Rattle.command_edges.specs.declared.fault.Fault.{Fault}
use Rattle.command_edges.specs.declared.fault.Fault.TheVariants.{Device}
use Rattle.dude_engine.specs.Opening.{Opening}
use Rattle.dude_engine.specs.Plain.{IsOpeningOf}
use Rattle.command_openings.specs.Opens.{ShowsOpening, TellsAtMost}

-- the medium of an opened image, seen so
abbrev pub medium_seen : {M : Type 0} {ghosts : Ghosts M} → (M → Sight) → Opened M ghosts → Sight
medium_seen sight o = sight (medium_of o.back)

-- the sizes, the number and the words of an opened image stay
pub record IsSameImage {M : Type 0} {ghosts : Ghosts M} (old new : Opened M ghosts) : Type 0 where
  pub sizes : new.sizes ≡ old.sizes
  pub number : new.number ≡ old.number
  pub words : new.words ≡ old.words

-- the number of an opened image was told, and its medium holds the image as before
pub record IsAnnounced {M : Type 0} {ghosts : Ghosts M} (sight : M → Sight) (old new : Opened M ghosts) : Type 0 where
  pub told : IsTrue (medium_seen sight old).is_visible
      → (state_now (medium_seen sight new)).told ≡ (state_now (medium_seen sight old)).told ++ old.number ∷ []
  pub holds : (before : ℕ) → HoldsOpened before old.sizes old.number old.words.items (medium_seen sight old)
      → HoldsOpened before old.sizes old.number old.words.items (medium_seen sight new)

-- the count of faults of the medium that is given back rose
abbrev pub RisesFaults : {M : Type 0} {ghosts : Ghosts M} → (M → Sight) → Opened M ghosts → Fault × M → Type 0
RisesFaults sight old refused = Risen (medium_seen sight old).faults (sight refused.1).faults

-- the medium failed; on the one that is given back nothing was told, or the number alone
pub record FailsTelling {M : Type 0} {ghosts : Ghosts M} (sight : M → Sight) (old : Opened M ghosts) (refused : Fault × M) : Type 0 where
  pub fault : refused.0 ≡ Device
  pub at_most : IsTrue (medium_seen sight old).is_visible → TellsAtMost old.number (medium_seen sight old) (sight refused.1)

-- exactly the tell of the number was made, and failed exactly where it is refused
abbrev pub RanTelling : {M : Type 0} {ghosts : Ghosts M} → (M → Sight) → Opened M ghosts → Result (Opened M ghosts) (Fault × M) → Type 0
RanTelling sight old result = MatchResult result
    (λ o. CallsMade (Tell old.number ∷ []) true (medium_seen sight old) (medium_seen sight o))
    (λ refused. CallsMade (Tell old.number ∷ []) false (medium_seen sight old) (sight refused.1))

-- at each moment every image shows the opening, where the medium held the image before
abbrev pub ShowsWhileTelling : {M : Type 0} {ghosts : Ghosts M} → (M → Sight) → Opened M ghosts → Result (Opened M ghosts) (Fault × M) → Type 0
ShowsWhileTelling sight old result = (opening : Opening) (before : ℕ) → IsOpeningOf old opening
    → HoldsOpened before old.sizes old.number old.words.items (medium_seen sight old)
    → MatchResult result
    (λ o. AtEveryMoment (ShowsOpening false before opening) (medium_seen sight old) (medium_seen sight o))
    (λ refused. AtEveryMoment (ShowsOpening false before opening) (medium_seen sight old) (sight refused.1))
