-- The first word, in the order of checking, at which an array of home words is wrong: table by table, then the references, then
-- the index where there is one.
use Rattle.std.specs.Prelude.{ℕ, ◌<◌, ◌⊎◌, List}
use Rattle.dude_base.specs.declared.sizes.Sizes.{Sizes}
use Rattle.tatp_layout.specs.StandsFor.{IsLawful}
use Rattle.tatp_check.specs.Faults.{IsFirstWrong}
use Rattle.tatp_check.specs.Whole.{HasWhole}
use Rattle.tatp_check.specs.declared.table_kind.TableKind.{TableKind}
use Rattle.tatp_check.specs.Content.{content_of, table_of}
use Rattle.tatp_check.specs.declared.table_kind.TableKind.TheVariants.{Subscribers}
use Rattle.tatp_check.specs.IndexFaults.{IsWrongWhere}
use Rattle.tatp_check.specs.References.{AreAllBound, IsFirstUnbound, kind_rank}

-- nothing is wrong in the table of this kind, whose chains have these records
abbrev pub IsWholeKind : Sizes → List ℕ → TableKind → List ℕ → Type 0
IsWholeKind s array kind records = HasWhole (content_of kind) (table_of kind s) array records

-- the first wrong word in the table of this kind
abbrev pub IsFirstWrongIn : TableKind → Sizes → List ℕ → ℕ → Type 0
IsFirstWrongIn kind s array word = IsFirstWrong (content_of kind) (table_of kind s) array word

-- the first wrong word in the first table where something is wrong
pub record IsInTables (s : Sizes) (array : List ℕ) (word : ℕ) : Type 0 where
  pub kind : TableKind
  pub before : (other : TableKind) → kind_rank other < kind_rank kind → (records : List ℕ) × IsWholeKind s array other records
  pub wrong : IsFirstWrongIn kind s array word

-- nothing is wrong in the five tables, and this is the word of the first record that refers to one that isn't there
pub record IsInReferences (s : Sizes) (array : List ℕ) (word : ℕ) : Type 0 where
  pub records : TableKind → List ℕ
  pub whole : (kind : TableKind) → IsWholeKind s array kind (records kind)
  pub wrong : IsFirstUnbound array records word

-- nothing is wrong in the five tables and their references, and this is the first wrong word of the index
pub record IsInIndex (s : Sizes) (array : List ℕ) (word : ℕ) : Type 0 where
  pub records : TableKind → List ℕ
  pub whole : (kind : TableKind) → IsWholeKind s array kind (records kind)
  pub bound : AreAllBound array records
  pub wrong : IsWrongWhere s array (records Subscribers) word

-- the first wrong word: one of a table; where nothing is wrong in the tables, one of a wrong reference; else one of the index
abbrev pub IsFirstWord : Sizes → List ℕ → ℕ → Type 0
IsFirstWord s array word = IsInTables s array word ⊎ (IsInReferences s array word ⊎ IsInIndex s array word)

-- the array stands for no tables, and this is the word
pub record IsNotDb (s : Sizes) (array : List ℕ) (word : ℕ) : Type 0 where
  pub unlawful : ¬ IsLawful s array
  pub first : IsFirstWord s array word
