-- What an image recovers to, by its words alone: why it can't be read, or a number and an array of home words.
use Rattle.std.specs.Prelude.{◌≡◌, ◌≢◌, ◌⊎◌, ℕ, ◌+◌, ◌<◌, ◌≤◌, List, [], ◌∷◌, All, length, take}
use Rattle.dude_base.specs.declared.limits.TheConstants.{HEADER, MARK, MAX_NUMBER, MAX_RINGS_ONE, VERSION, VERSION_ONE}
use Rattle.dude_base.specs.declared.sizes.Sizes.{Sizes}
use Rattle.dude_base.specs.Sizes.{IsAccepted}
use Rattle.dude_base.specs.Image.{header_words, image_words, Cell}
use Rattle.dude_base.specs.Records.{RedoBundle, first_of, Covers}
pub use Rattle.dude_base.specs.Records.{overwritten_by_all}
use Rattle.redo_record.specs.Images.{sizes_of, version_of, mark_of, home_of, bundle_at, IsNewHead, IsSound}
use Rattle.redo_record.specs.Damage.{IsUndamaged, IsDamagedAt}
use Rattle.redo_record.specs.Rest.{HasHome}

-- An image of these sizes may have this version.
pub record IsVersion (version : ℕ) (s : Sizes) : Type 0 where
  pub known : (version ≡ VERSION_ONE) ⊎ (version ≡ VERSION)
  pub rings : version ≡ VERSION_ONE → s.rings ≤ MAX_RINGS_ONE
  pub index : version ≡ VERSION_ONE → s.index ≡ 0

-- The image is formatted: the words before the mark are the header of the version and the sizes that it names, which are
-- accepted, and it has as many words as they need.
pub record IsFormatted (image : List ℕ) : Type 0 where
  pub long : HEADER ≤ length image
  pub header : take MARK image ≡ header_words (version_of image) (sizes_of image)
  pub version : IsVersion (version_of image) (sizes_of image)
  pub sizes : IsAccepted (sizes_of image)
  pub whole : image_words (sizes_of image) ≤ length image

-- The record is that of a head with a number over this one.
pub record HasRecord (s : Sizes) (above : ℕ) (image : List ℕ) (r : RedoBundle) : Type 0 where
  pub head : Cell
  pub new : IsNewHead s above image head
  pub same : bundle_at s image head ≡ r

-- The records lead from one number to another: the first begins behind the one, each other one behind the record before
-- it, and the last ends with the other.
abbrev pub AreConsecutive : ℕ → List RedoBundle → ℕ → Type 0
AreConsecutive from [] to = from ≡ to
AreConsecutive from (r ∷ rs) to = (first_of r ≡ from + 1) × AreConsecutive r.last rs to

-- The image recovers to this number and this array. Records over the mark lead from it to the number, and none begins
-- behind that; the array is the home, overwritten by the writes of these records in their order.
pub record Recovers (image : List ℕ) (number : ℕ) (array : List ℕ) : Type 0 where
  pub formatted : IsFormatted image
  pub small : mark_of image ≤ MAX_NUMBER
  pub undamaged : IsUndamaged (sizes_of image) (mark_of image) image
  pub records : List RedoBundle
  pub logged : All (HasRecord (sizes_of image) (mark_of image) image) records
  pub consecutive : AreConsecutive (mark_of image) records number
  pub greatest : (head : Cell) → IsNewHead (sizes_of image) (mark_of image) image head → first_of (bundle_at (sizes_of image) image head) ≢ number + 1
  pub result : array ≡ overwritten_by_all records (home_of (sizes_of image) image)

-- The damage of a formatted image is at this line: the mark's, where the mark is too great, or that of a head.
abbrev pub IsDamaged : List ℕ → ℕ → Type 0
IsDamaged image line =
    ((MAX_NUMBER < mark_of image) × (line ≡ 1))
    ⊎ ((mark_of image ≤ MAX_NUMBER) × IsDamagedAt (sizes_of image) (mark_of image) image line)

-- what the replay of an image gives
pub data Replayed : Type 0 where
  Unformatted : Replayed
  Damaged : ℕ → Replayed
  Recovered : ℕ → List ℕ → Replayed

-- The replay of the image gives the first of these that fits.
abbrev pub Replays : List ℕ → Replayed → Type 0
Replays image Unformatted = ¬ IsFormatted image
Replays image (Damaged line) = IsFormatted image × IsDamaged image line
Replays image (Recovered number array) = Recovers image number array

-- An image has at most one replay.
abbrev pub LawOfReplay : Type 0
LawOfReplay = (image : List ℕ) (one other : Replayed) → Replays image one → Replays image other → one ≡ other

-- The number to which an image recovers is the greatest such that each number from the mark on, the mark aside, is covered by
-- a complete record over the mark: each is, and the number behind it isn't.
abbrev pub LawOfCovering : Type 0
LawOfCovering = (image : List ℕ) (number : ℕ) (array : List ℕ) → Recovers image number array
    → (mark_of image ≤ number)
    × ((n : ℕ) → mark_of image < n → n ≤ number → (head : Cell) × IsNewHead (sizes_of image) (mark_of image) image head
    × IsSound (sizes_of image) (mark_of image) image head × Covers (bundle_at (sizes_of image) image head) n)
    × ((head : Cell) → IsNewHead (sizes_of image) (mark_of image) image head → Covers (bundle_at (sizes_of image) image head) (number + 1) → ⊥)

-- An image of known header, mark and home recovers to what records over its mark lead to.
abbrev pub LawOfRecovery : Type 0
LawOfRecovery = (version : ℕ) (s : Sizes) (mark : ℕ) (home image : List ℕ) (number : ℕ) (records : List RedoBundle) → IsAccepted s → IsVersion version s → mark ≤ MAX_NUMBER
    → HasHome version s mark home image → IsUndamaged s mark image → All (HasRecord s mark image) records → AreConsecutive mark records number
    → ((head : Cell) → IsNewHead s mark image head → first_of (bundle_at s image head) ≢ number + 1)
    → (sizes_of image ≡ s) × Recovers image number (overwritten_by_all records home)
