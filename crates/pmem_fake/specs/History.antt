-- The state of a medium in memory after the calls made on it, and what a crash then leaves.
use Rattle.std.specs.Prelude.{◌≡◌, ℕ, ◌%◌, ◌<◌, ◌^◌, Bool, true, not, ◌||◌, if◌then◌else◌, nat_le, List, [], ◌∷◌, take, length, slice_index, IsTrue, All}
use Rattle.pmem_trait.specs.declared.made.Made.{Made}
use Rattle.pmem_trait.specs.Words.{Word, State, settled_at, value_of, after, IsImage}
use Rattle.pmem_trait.specs.Sights.{Sight, state_now}

-- settled at these words, and nothing told
abbrev pub start_state : List ℕ → State
start_state words = record { word = λ k. settled_at (slice_index words k); told = [] }

-- a call that was made had its effect: it didn't fail, or it failed late
abbrev pub was_effective : Bool → Made → Bool
was_effective late m = late || not m.failed

-- the state after a call that was made
abbrev pub step_made : Bool → Made → State → State
step_made late m p = if was_effective late m then after m.call p else p

-- the state after these calls
abbrev pub after_made : Bool → List Made → State → State
after_made late [] p = p
after_made late (m ∷ ms) p = after_made late ms (step_made late m p)

-- these words are the content after these calls on a medium that began with those
abbrev pub AreContent : Bool → List Made → List ℕ → List ℕ → Type 0
AreContent late calls start words =
    (k : ℕ) → k < length start → slice_index words k ≡ value_of ((after_made late calls (start_state start)).word k)

-- What is seen of a medium that began with these words: the state at each moment is the one after the calls up to it.
-- Calls over the budget aren't listed, and have done nothing.
abbrev pub sight_of : Bool → List ℕ → List Made → ℕ → ℕ → ℕ → Sight
sight_of late start calls now budget faults = record {
  len = length start;
  now = now;
  faults = faults;
  is_visible = true;
  state = λ moment. after_made late (take moment calls) (start_state start);
  lists_calls = nat_le now budget;
  made = calls;
}

-- settled at these words, at moment 0, with no fault, no call and nothing told
pub record IsUntouched (words : List ℕ) (s : Sight) : Type 0 where
  pub len : s.len ≡ length words
  pub now : s.now ≡ 0
  pub faults : s.faults ≡ 0
  pub is_visible : IsTrue s.is_visible
  pub state : state_now s ≡ start_state words
  pub lists_calls : IsTrue s.lists_calls
  pub made : s.made ≡ []

-- what a crash may leave of a word: its settled value, and then its later values in order of their puts
abbrev pub choices : Word → List ℕ
choices w = w.settled ∷ w.later

-- the one that a pick takes, modulo their count
abbrev pub picked_value : Word → ℕ → ℕ
picked_value w pick = slice_index (choices w) (pick % length (choices w))

-- The image that these picks take. An absent pick counts as 0.
pub record IsPicked (len : ℕ) (p : State) (picks image : List ℕ) : Type 0 where
  pub size : length image ≡ len
  pub each : (k : ℕ) → k < len → slice_index image k ≡ picked_value (p.word k) (slice_index picks k)

-- each image that a crash may leave is taken by some picks of 64 bits
abbrev pub EachIsPicked : ℕ → State → Type 0
EachIsPicked len p = (image : List ℕ) → IsImage len p image → (picks : List ℕ) × All (λ pick. pick < 2 ^ 64) picks × IsPicked len p picks image
