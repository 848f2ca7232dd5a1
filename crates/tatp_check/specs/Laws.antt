-- What the definitions say of each array.
use Rattle.std.specs.Prelude.{◌≡◌, ℕ, List}
use Rattle.dude_base.specs.declared.sizes.Sizes.{Sizes}
use Rattle.tatp_model.specs.Database.{Database}
use Rattle.tatp_layout.specs.StandsFor.{IsLawful, StandsFor}
use Rattle.tatp_check.specs.Order.{IsFirstWord}

-- an array stands for at most one database
abbrev pub LawOfOneDatabase : Type 0
LawOfOneDatabase = (s : Sizes) (array : List ℕ) (db other : Database) → StandsFor s array db → StandsFor s array other → db ≡ other

-- at most one word of an array is the first wrong one, and none where it stands for tables
pub record LawOfFirstWord : Type 0 where
  pub one : (s : Sizes) (array : List ℕ) (v w : ℕ) → IsFirstWord s array v → IsFirstWord s array w → v ≡ w
  pub none : (s : Sizes) (array : List ℕ) (w : ℕ) → IsLawful s array → ¬ IsFirstWord s array w
