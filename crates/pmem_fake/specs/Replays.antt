-- The words of a medium while its calls are done again.
use Rattle.std.specs.Prelude.{◌≡◌, ℕ, ◌<◌, Bool, Option, List, length, slice_index, slice_index_or}
use Rattle.std.specs.Global.{Vec}
use Rattle.pmem_trait.specs.declared.call.Call.{Call}
use Rattle.pmem_trait.specs.declared.made.Made.{Made}
use Rattle.pmem_trait.specs.Words.{Word, State, last_told, settled_at, word_after}
use Rattle.pmem_fake.specs.History.{start_state, step_made, after_made, picked_value, IsPicked}

-- the words of a medium stand as at this point
pub record AreInState (len : ℕ) (words : List Word) (p : State) : Type 0 where
  pub size : length words ≡ len
  pub each : (k : ℕ) → k < len → slice_index_or words k (settled_at 0) ≡ p.word k

-- each word is as a call leaves it
pub record Steps (c : Call) (old new : List Word) : Type 0 where
  pub size : length new ≡ length old
  pub each : (k : ℕ) → k < length old → slice_index_or new k (settled_at 0) ≡ word_after c k (slice_index_or old k (settled_at 0))

-- this value is taken of each word
pub record TakesPicks (words : List Word) (picks image : List ℕ) : Type 0 where
  pub size : length image ≡ length words
  pub each : (k : ℕ) → k < length words → slice_index image k ≡ picked_value (slice_index_or words k (settled_at 0)) (slice_index picks k)

-- the words of an untouched medium
abbrev pub AreAtStart : List ℕ → Vec Word → Type 0
AreAtStart start words = AreInState (length start) words.items (start_state start)

-- the words after these calls on a medium that began with these
abbrev pub AreAfter : Bool → List Made → List ℕ → Vec Word → Type 0
AreAfter late calls start words = AreInState (length start) words.items (after_made late calls (start_state start))

-- from each state on, the words are as a call that was made leaves them
abbrev pub StepsMade : Bool → Made → List Word → List Word → Type 0
StepsMade late made old new =
    (p : State) → AreInState (length old) old p → AreInState (length old) new (step_made late made p)

-- the image that these picks take after these calls
abbrev pub IsPickedAfter : Bool → List Made → List ℕ → List ℕ → Vec ℕ → Type 0
IsPickedAfter late calls start picks image =
    IsPicked (length start) (after_made late calls (start_state start)) picks image.items

-- the last number told after a call that was made, by the last one before it
abbrev pub IsLastAfter : Bool → Made → Option ℕ → Option ℕ → Type 0
IsLastAfter late made before last =
    (p : State) → before ≡ last_told p.told → last ≡ last_told (step_made late made p).told

-- the last number told in these calls
abbrev pub IsLastTold : Bool → List Made → Option ℕ → Type 0
IsLastTold late calls last = (start : List ℕ) → last ≡ last_told (after_made late calls (start_state start)).told
