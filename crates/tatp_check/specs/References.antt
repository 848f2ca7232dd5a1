-- How the rows of one table refer to those of another, by the words of their records.
use Rattle.std.specs.Prelude.{◌≡◌, ℕ, ◌+◌, ◌/◌, ◌<◌, List, ◌∷◌, ◌++◌, All, Any, Option, MatchOption, slice_index}
use Rattle.tatp_check.specs.declared.table_kind.TableKind.{TableKind}
use Rattle.tatp_check.specs.declared.table_kind.TableKind.TheVariants.{Subscribers, Numbers, Access, Facilities, Calls}

-- The record at this word refers to a record that is there, where the tables have these: a subscriber to the number record
-- with its phone number, which has its s_id; a number record to the subscriber with its s_id, which has its number; an access
-- row and a facility to their subscriber; a call row to its facility.
abbrev pub Refers : List ℕ → (TableKind → List ℕ) → TableKind → ℕ → Type 0
Refers array records Subscribers at = Any (λ number. (slice_index array number ≡ slice_index array (at + 7)) × (slice_index array (number + 2) ≡ slice_index array at)) (records Numbers)
Refers array records Numbers at = Any (λ subscriber. (slice_index array subscriber ≡ slice_index array (at + 2)) × (slice_index array (subscriber + 7) ≡ slice_index array at)) (records Subscribers)
Refers array records Access at = Any (λ subscriber. slice_index array subscriber ≡ slice_index array at / 4) (records Subscribers)
Refers array records Facilities at = Any (λ subscriber. slice_index array subscriber ≡ slice_index array at / 4) (records Subscribers)
Refers array records Calls at = Any (λ facility. slice_index array facility ≡ slice_index array at / 3) (records Facilities)

-- the offset of the word that is named where it refers to none
abbrev pub reference_offset : TableKind → ℕ
reference_offset Subscribers = 7
reference_offset Numbers = 2
reference_offset _ = 0

-- the order of the tables
abbrev pub kind_rank : (kind : TableKind) → ℕ
kind_rank Subscribers = 0
kind_rank Numbers = 1
kind_rank Access = 2
kind_rank Facilities = 3
kind_rank Calls = 4

-- each record of this table refers to one that is there
abbrev pub AreBound : List ℕ → (TableKind → List ℕ) → TableKind → Type 0
AreBound array records kind = All (Refers array records kind) (records kind)

-- the first record of the table that refers to none, in the order of the walk
pub record IsUnbound (array : List ℕ) (records : TableKind → List ℕ) (kind : TableKind) (at : ℕ) : Type 0 where
  pub before : List ℕ
  pub behind : List ℕ
  pub split : records kind ≡ before ++ at ∷ behind
  pub bound : All (Refers array records kind) before
  pub unbound : ¬ Refers array records kind at

-- the word of the first record that refers to none, in the order of the tables
pub record IsFirstUnbound (array : List ℕ) (records : TableKind → List ℕ) (word : ℕ) : Type 0 where
  pub kind : TableKind
  pub before : (other : TableKind) → kind_rank other < kind_rank kind → AreBound array records other
  pub at : ℕ
  pub unbound : IsUnbound array records kind at
  pub word_is : word ≡ at + reference_offset kind

-- each record of each table refers to one that is there
abbrev pub AreAllBound : List ℕ → (TableKind → List ℕ) → Type 0
AreAllBound array records = (kind : TableKind) → AreBound array records kind

-- the first record of this table that refers to none, or none where each record refers to one
abbrev pub FindsUnbound : List ℕ → (TableKind → List ℕ) → TableKind → Option ℕ → Type 0
FindsUnbound array records kind found = MatchOption found (AreBound array records kind) (IsUnbound array records kind)

-- the word of the first record of all tables that refers to none, or none where each record refers to one
abbrev pub FindsFirstUnbound : List ℕ → (TableKind → List ℕ) → Option ℕ → Type 0
FindsFirstUnbound array records found = MatchOption found (AreAllBound array records) (IsFirstUnbound array records)
