-- What may be known of files, and what a read of one does.
use Rattle.std.specs.Prelude.{◌≡◌, ℕ, ◌-◌, ◌≤◌, Bool, true, false, IsTrue, List, [], ◌∷◌, ◌++◌, length, take, drop, Option, IsSomeAnd, Result, Ok, Err}
use Rattle.pmem_trait.specs.declared.failed.Failed.{Failed}
use Rattle.pmem_trait.specs.Sights.{Risen}

-- a read that was made: of the file of this name, from this byte on, and whether it failed
pub record ReadMade : Type 0 where
  pub name : List ℕ
  pub at : ℕ
  pub failed : Bool

-- what may be known of files: the count of their faults; whether their texts are visible, and the text of each file by the
-- bytes of its name, none where it isn't there; whether reads of them are listed, and the list of those made so far
pub record FilesSight : Type 0 where
  pub faults : ℕ
  pub is_visible : Bool
  pub text : List ℕ → Option (List ℕ)
  pub lists_reads : Bool
  pub reads : List ReadMade

-- where reads are listed, these were made, in this order, and no others
abbrev pub ListsReads : List ReadMade → FilesSight → FilesSight → Type 0
ListsReads reads s t = IsTrue t.lists_reads → IsTrue s.lists_reads × (t.reads ≡ s.reads ++ reads)

-- where reads are listed, this one was made, and no other
abbrev pub ListsRead : List ℕ → ℕ → Bool → FilesSight → FilesSight → Type 0
ListsRead name at failed s t = ListsReads (record { name = name; at = at; failed = failed } ∷ []) s t

-- the count of faults doesn't fall, and the texts stay
pub record FilesStay (s t : FilesSight) : Type 0 where
  pub faults : s.faults ≤ t.faults
  pub is_visible : t.is_visible ≡ s.is_visible
  pub text : IsTrue s.is_visible → t.text ≡ s.text

-- a buffer begins with n bytes of the text from `at` on, is as it was behind them, and n is 0 only at the end
pub record GivesBytes (text : List ℕ) (at n : ℕ) (old new : List ℕ) : Type 0 where
  pub within : n ≤ length text - at
  pub bytes : take n new ≡ take n (drop at text)
  pub behind : drop n new ≡ drop n old
  pub end : n ≡ 0 → length text ≤ at

-- a read that was answered: the file is there, the buffer has its bytes, no fault was counted, and the read is listed
pub record Gave (name : List ℕ) (at n : ℕ) (old new : List ℕ) (s t : FilesSight) : Type 0 where
  pub stays : FilesStay s t
  pub calm : t.faults ≡ s.faults
  pub most : n ≤ length old
  pub told : IsTrue s.is_visible → IsSomeAnd (s.text name) (λ text. GivesBytes text at n old new)
  pub listed : ListsRead name at false s t

-- a read that failed: the count of faults rose, and the read is listed
pub record FailedRead (name : List ℕ) (at : ℕ) (s t : FilesSight) : Type 0 where
  pub stays : FilesStay s t
  pub cause : Risen s.faults t.faults
  pub listed : ListsRead name at true s t

-- one read: it is answered, or it failed
abbrev pub FileRead : List ℕ → ℕ → List ℕ → List ℕ → Result ℕ Failed → FilesSight → FilesSight → Type 0
FileRead name at old new (Ok n) s t = Gave name at n old new s t
FileRead name at old new (Err e) s t = FailedRead name at s t
