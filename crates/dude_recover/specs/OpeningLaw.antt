-- The crash law of the opening of an image, over states of the medium and lists of calls alone.
use Rattle.std.specs.Prelude.{◌≡◌, ℕ, ◌≤◌, List}
use Rattle.dude_base.specs.declared.limits.TheConstants.{MAX_NUMBER, VERSION}
use Rattle.dude_base.specs.declared.sizes.Sizes.{Sizes}
use Rattle.pmem_trait.specs.Words.{State, IsContent, IsSettled, EveryImage, AfterEachCall, after_all}
use Rattle.redo_record.specs.Images.{version_of}
use Rattle.redo_record.specs.Rest.{RestsAt}
use Rattle.redo_record.specs.BackLaws.{HasNoHeads}
use Rattle.image_recovery.specs.Recovered.{RecoversArray}
use Rattle.dude_recover.specs.OpeningCalls.{stale_lines, opening_calls}

-- nothing more is told, and the image recovers to this number and this array
abbrev pub StillRecoversArray : List ℕ → Sizes → ℕ → List ℕ → List ℕ → List ℕ → Type 0
StillRecoversArray before s number words told image = (told ≡ before) × RecoversArray s number words image

-- The medium rests at the image of the newest version with these home words and the mark at this number, and no head over it
-- is left.
pub record IsOpenedState (s : Sizes) (number : ℕ) (words : List ℕ) (p q : State) : Type 0 where
  pub rest : RestsAt VERSION s number words q
  pub heads : HasNoHeads s number q
  pub told : q.told ≡ p.told

-- From a settled medium whose content recovers to a number and an array: while it is opened every image recovers to them,
-- and behind the whole list the medium rests there.
abbrev pub LawOfOpening : Type 0
LawOfOpening = (s : Sizes) (number : ℕ) (words content : List ℕ) (len : ℕ) (p : State) → IsContent len p content → IsSettled len p
    → RecoversArray s number words content → number ≤ MAX_NUMBER
    → AfterEachCall (EveryImage len (StillRecoversArray p.told s number words)) p (opening_calls (version_of content) s number words (stale_lines s number content))
    × IsOpenedState s number words p (after_all (opening_calls (version_of content) s number words (stale_lines s number content)) p)
