-- What a new image recovers to, and how its medium rests.
use Rattle.std.specs.Prelude.{◌≡◌, ◌⊎◌, ℕ, IsTrue, List, [], ◌∷◌, ◌++◌, length}
use Rattle.dude_base.specs.declared.sizes.Sizes.{Sizes}
use Rattle.pmem_trait.specs.Words.{IsSettled, State}
use Rattle.pmem_trait.specs.Sights.{AtEveryMoment, Sight, state_now}
use Rattle.tatp_model.specs.Population.{population}
use Rattle.tatp_layout.specs.StandsFor.{StandsFor}
use Rattle.tatp_rows.specs.Populated.{IsPopulated}
use Rattle.image_recovery.specs.Recovered.{RecoversTo}
use Rattle.back_store.specs.Images.{IsIdleMedium}

-- Nothing is told yet beside the numbers that were told before; or 0 is, and the image recovers to 0 and the population.
abbrev pub RecoversOnceTold : Sizes → List ℕ → List ℕ → List ℕ → Type 0
RecoversOnceTold sizes before told image =
    (told ≡ before) ⊎ ((told ≡ before ++ 0 ∷ []) × RecoversTo image 0 sizes (population sizes.subscribers))

-- The medium is settled at the new image, with these home words, the mark at 0 and no head; and 0 was told.
pub record IsNewImage (sizes : Sizes) (home : List ℕ) (old new : State) : Type 0 where
  pub stands : StandsFor sizes home (population sizes.subscribers)
  pub told : new.told ≡ old.told ++ 0 ∷ []
  pub idle : IsIdleMedium (length old.told) sizes 0 home new

-- The home of a new image.
pub record IsNewHome (sizes : Sizes) (home : List ℕ) : Type 0 where
  -- it stands for the population
  pub stands : StandsFor sizes home (population sizes.subscribers)
  -- there is one such home
  pub populated : IsPopulated sizes home

-- How a medium that is visible rests behind the calls that make an image with this home.
pub record RestsNew (sizes : Sizes) (home : List ℕ) (s t : Sight) : Type 0 where
  -- it is settled at the image, and 0 was told
  pub image : IsTrue s.is_visible → IsNewImage sizes home (state_now s) (state_now t)
  -- all words are settled, also those behind the image
  pub settled : IsTrue s.is_visible → IsSettled s.len (state_now t)

-- from the moment that 0 is told on, each image recovers to 0 and the population
abbrev pub ShowsNewImage : Sizes → Sight → Sight → Type 0
ShowsNewImage sizes s t = AtEveryMoment (RecoversOnceTold sizes (state_now s).told) s t
