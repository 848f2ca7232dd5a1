-- An opened image, and how its medium is.
use Rattle.std.specs.Prelude.{◌≡◌, ℕ, ◌≤◌, List, IsTrue}
use Rattle.dude_base.specs.declared.limits.TheConstants.{MAX_NUMBER}
use Rattle.dude_base.specs.declared.sizes.Sizes.{Sizes}
use Rattle.dude_base.specs.Sizes.{IsAccepted}
use Rattle.pmem_trait.specs.declared.medium.Medium.{Ghosts}
use Rattle.pmem_trait.specs.Words.{AtLeast}
use Rattle.pmem_trait.specs.Sights.{Sight, state_now}
use Rattle.tatp_layout.specs.StandsFor.{IsLawful}
use Rattle.back_store.specs.Back.{home_now, idle}
use Rattle.back_store.specs.BackView.{state_of}
use Rattle.back_store.specs.Images.{HoldsStore, IsIdleMedium}
use Rattle.dude_recover.specs.declared.opened.Opened.{Opened}

-- On any medium: in the back nothing waits, and all up to the number is durable and in the home; the home is lawful.
pub record IsOpened {M : Type 0} {ghosts : Ghosts M} (o : Opened M ghosts) : Type 0 where
  pub idle : state_of o.back ≡ idle o.sizes o.number
  pub layout : o.lay ≡ o.sizes
  pub accepted : IsAccepted o.sizes
  pub small : o.number ≤ MAX_NUMBER
  pub lawful : IsLawful o.sizes o.words.items

-- Where the medium is visible, it is as an idle back left it, and its home has these words; and no number over the opened one
-- was told behind the first `before` ones.
pub record HoldsOpened (before : ℕ) (sizes : Sizes) (number : ℕ) (words : List ℕ) (s : Sight) : Type 0 where
  pub keeps : HoldsStore before (idle sizes number) s
  pub home : IsTrue s.is_visible → home_now sizes s ≡ words

-- the opened image is of these sizes, this number and these home words
abbrev pub HasParts : {M : Type 0} {ghosts : Ghosts M} → Sizes → ℕ → List ℕ → Opened M ghosts → Type 0
HasParts sizes number words o = (o.sizes ≡ sizes) × (o.number ≡ number) × (o.words.items ≡ words)

-- where the medium is settled at the image, with the mark at the number and no head over it, it is as an idle back left it
abbrev pub HoldsWhereIdle : Sizes → ℕ → List ℕ → Sight → Type 0
HoldsWhereIdle sizes number words s = (before : ℕ) → (IsTrue s.is_visible → IsIdleMedium before sizes number words (state_now s))
    → HoldsOpened before sizes number words s

-- no number over this one was told behind the first `before` ones
abbrev pub HasToldNoMore : ℕ → ℕ → Sight → Type 0
HasToldNoMore before number s = IsTrue s.is_visible → AtLeast before (state_now s).told number
