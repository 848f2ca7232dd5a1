-- What an image recovers to, with the database check: a number and a database, or why there is none.
use Rattle.std.specs.Prelude.{◌≡◌, ℕ, ◌*◌, ◌≤◌, List, length}
use Rattle.dude_base.specs.declared.limits.TheConstants.{PAGE, MAX_NUMBER}
use Rattle.dude_base.specs.declared.sizes.Sizes.{Sizes}
use Rattle.dude_base.specs.Sizes.{IsAccepted}
use Rattle.dude_base.specs.Image.{image_words}
use Rattle.tatp_model.specs.Database.{Database}
use Rattle.redo_record.specs.Images.{sizes_of}
use Rattle.redo_record.specs.Recovery.{IsFormatted, IsDamaged, Recovers}
use Rattle.tatp_layout.specs.StandsFor.{StandsFor, IsLawful}
use Rattle.tatp_check.specs.Order.{IsNotDb}

-- The image recovers to this number and this database, by its own header: the array of the number stands for the database.
pub record RecoversTo (image : List ℕ) (number : ℕ) (sizes : Sizes) (db : Database) : Type 0 where
  pub array : List ℕ
  pub recovered : Recovers image number array
  pub same_sizes : sizes_of image ≡ sizes
  pub stands : StandsFor sizes array db

-- The image recovers to this number and this array, of these sizes.
pub record RecoversArray (sizes : Sizes) (number : ℕ) (array image : List ℕ) : Type 0 where
  pub recovered : Recovers image number array
  pub same_sizes : sizes_of image ≡ sizes

-- The image is replayed, but the array stands for no database; this word is the first wrong one in the order of checking.
pub record IsNoDatabase (word : ℕ) (image : List ℕ) : Type 0 where
  pub number : ℕ
  pub array : List ℕ
  pub recovered : Recovers image number array
  pub wrong : IsNotDb (sizes_of image) array word

-- what recovery gives of an image: why there is no database, or a number with sizes and a database
pub data Recovery : Type 0 where
  Unformatted : Recovery
  Damaged : ℕ → Recovery
  NotDb : ℕ → Recovery
  Recovered : ℕ → Sizes → Database → Recovery

-- Recovery gives the first of these that fits.
abbrev pub Gives : List ℕ → Recovery → Type 0
Gives image Unformatted = ¬ IsFormatted image
Gives image (Damaged line) = IsFormatted image × IsDamaged image line
Gives image (NotDb word) = IsNoDatabase word image
Gives image (Recovered number sizes db) = RecoversTo image number sizes db

-- recovery gives at most one answer of an image
abbrev pub LawOfOneRecovery : Type 0
LawOfOneRecovery = (image : List ℕ) (one other : Recovery) → Gives image one → Gives image other → one ≡ other

-- What holds of what was recovered on any medium of so many words: sizes are accepted and there are words enough, the number
-- is in its limits, and the home is lawful.
pub record IsRecovered (len : ℕ) (sizes : Sizes) (number : ℕ) (array : List ℕ) : Type 0 where
  pub accepted : IsAccepted sizes
  pub room : image_words sizes ≤ len
  pub small : number ≤ MAX_NUMBER
  pub size : length array ≡ sizes.pages * PAGE
  pub lawful : IsLawful sizes array
