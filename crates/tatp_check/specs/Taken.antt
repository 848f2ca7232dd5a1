-- The records met in chains, and the record of each key.
use Rattle.std.specs.Prelude.{◌≡◌, ◌≢◌, ℕ, List, [], ◌∷◌, ◌++◌, Bool, Option, All, Contains, MatchBool, MatchOption, slice_index}
use Rattle.std.specs.Ordering.{nat_cmp}
use Rattle.std.specs.BTreeMap.{get, values}
use Rattle.tatp_check.specs.declared.taken.Taken.{Taken}

-- the records met in chains, in the order of the walk
abbrev pub records_taken : Taken → List ℕ
records_taken taken = taken.records.items

-- the records met in chains, in rising order of their keys
abbrev pub records_by_key : Taken → List ℕ
records_by_key taken = values taken.by_key

-- one of these records has the key, or none has it
abbrev pub Finds : List ℕ → List ℕ → ℕ → Option ℕ → Type 0
Finds array records key found = MatchOption found (All (λ x. slice_index array x ≢ key) records) (λ at. Contains records at × (slice_index array at ≡ key))

-- these records are kept, in the order of the walk, and each is found by the key that it has in this array
pub record AreTaken (array records : List ℕ) (taken : Taken) : Type 0 where
  pub records_are : records_taken taken ≡ records
  pub finds : (key : ℕ) → Finds array records key (get nat_cmp taken.by_key key)

-- the record, with the key that it has, comes behind the others; or one of them has that key
abbrev pub Takes : List ℕ → ℕ → Taken → Taken → Bool → Type 0
Takes array at old new is_new = (records : List ℕ) → AreTaken array records old →
    MatchBool is_new (All (λ x. slice_index array x ≢ slice_index array at) records × AreTaken array (records ++ at ∷ []) new) (¬ All (λ x. slice_index array x ≢ slice_index array at) records)

-- in whatever array the record has this key, it comes behind the others, or one of them has the key
abbrev pub TakesKey : ℕ → ℕ → Taken → Taken → Bool → Type 0
TakesKey at key old new is_new = (array : List ℕ) → slice_index array at ≡ key → Takes array at old new is_new

-- whatever records were taken, and in whatever array: the answer is the one that has the key, or none where none has it
abbrev pub FindsTaken : Taken → ℕ → Option ℕ → Type 0
FindsTaken taken key found = (array records : List ℕ) → AreTaken array records taken → Finds array records key found
