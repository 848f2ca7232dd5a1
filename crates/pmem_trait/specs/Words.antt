-- The medium model: the state of each word, what a call does to it, and what a crash may leave.
use Rattle.std.specs.Prelude.{◌≡◌, ◌⊎◌, ◌==◌, ℕ, ◌/◌, ◌<◌, ◌≤◌, if◌then◌else◌, List, [], ◌∷◌, ◌++◌, length, take, drop, slice_index, Option, Some, None}
use Rattle.pmem_trait.specs.declared.call.Call.{Call}
use Rattle.pmem_trait.specs.declared.call.Call.TheVariants.{Read, Put, Flush, Fence, Tell}

-- x is one of the values of a list
abbrev pub IsIn : ℕ → List ℕ → Type 0
IsIn x [] = ⊥
IsIn x (y ∷ ys) = (x ≡ y) ⊎ IsIn x ys

-- A word of the medium: its settled value, the values put since, in order, and how many of those the last flush of
-- its line noted (0 where there is no note).
pub record Word : Type 0 where
  pub settled : ℕ
  pub later : List ℕ
  pub noted : ℕ

-- The state at a moment: each word by its number, and all the numbers told so far, in order.
pub record State : Type 0 where
  pub word : ℕ → Word
  pub told : List ℕ

-- the last value of a list that begins with x
abbrev pub newest : ℕ → List ℕ → ℕ
newest x [] = x
newest x (y ∷ ys) = newest y ys

-- the last number told, or none
abbrev pub last_told : List ℕ → Option ℕ
last_told [] = None
last_told (n ∷ ns) = Some (newest n ns)

-- a number is at least every number told behind the first `before` ones
abbrev pub AtLeast : ℕ → List ℕ → ℕ → Type 0
AtLeast before told number = (x : ℕ) → IsIn x (drop before told) → x ≤ number

-- what a read gives: the last value put, or the settled one
abbrev pub value_of : Word → ℕ
value_of w = newest w.settled w.later

-- a put adds a later value
abbrev pub with_later : ℕ → Word → Word
with_later v w = record w { later = w.later ++ v ∷ [] }

-- a flush notes the value that the word holds, and so all values up to it
abbrev pub with_note : Word → Word
with_note w = record w { noted = length w.later }

-- a fence settles the noted value, and keeps of the later values only those put after the note
abbrev pub settle : Word → Word
settle w = record { settled = newest w.settled (take w.noted w.later); later = drop w.noted w.later; noted = 0 }

-- what a call leaves of word k
abbrev pub word_after : Call → ℕ → Word → Word
word_after (Put at value) k w = if k == at then with_later value w else w
word_after (Flush line) k w = if k / 8 == line then with_note w else w
word_after Fence k w = settle w
word_after (Read at) k w = w
word_after (Tell number) k w = w

-- what a call leaves of the numbers told
abbrev pub told_after : Call → List ℕ → List ℕ
told_after (Tell number) told = told ++ number ∷ []
told_after (Put at value) told = told
told_after (Flush line) told = told
told_after Fence told = told
told_after (Read at) told = told

-- the state after a call
abbrev pub after : Call → State → State
after c p = record { word = λ k. word_after c k (p.word k); told = told_after c p.told }

-- the state after some calls, the first one first
abbrev pub after_all : List Call → State → State
after_all [] p = p
after_all (c ∷ cs) p = after_all cs (after c p)

-- A failed call: at each word it has done nothing, or what it would have done, and so with the numbers told.
pub record HalfDone (c : Call) (p q : State) : Type 0 where
  pub word : (k : ℕ) → (q.word k ≡ p.word k) ⊎ (q.word k ≡ word_after c k (p.word k))
  pub told : (q.told ≡ p.told) ⊎ (q.told ≡ told_after c p.told)

-- a crash may leave this value of the word: the settled one or a later one
abbrev pub MayHold : Word → ℕ → Type 0
MayHold w x = (x ≡ w.settled) ⊎ IsIn x w.later

-- An image that a crash may leave of the first len words: each word by itself.
pub record IsImage (len : ℕ) (p : State) (image : List ℕ) : Type 0 where
  pub size : length image ≡ len
  pub each : (k : ℕ) → k < len → MayHold (p.word k) (slice_index image k)

-- what a crash at this state leaves: this image, beside these numbers told by then
abbrev pub CrashLeaves : ℕ → State → List ℕ → List ℕ → Type 0
CrashLeaves len p told image = (told ≡ p.told) × IsImage len p image

-- The content at this state, as reads give it: of each of the first len words the last value put, or the settled one.
pub record IsContent (len : ℕ) (p : State) (content : List ℕ) : Type 0 where
  pub size : length content ≡ len
  pub each : (k : ℕ) → k < len → slice_index content k ≡ value_of (p.word k)

-- Every image that a crash may leave at this state has P, beside the numbers told.
pub record EveryImage (len : ℕ) (P : List ℕ → List ℕ → Type 0) (p : State) : Type 0 where
  pub each : (image : List ℕ) → IsImage len p image → P p.told image

-- a word with no later value and no note
abbrev pub settled_at : ℕ → Word
settled_at x = record { settled = x; later = []; noted = 0 }

-- the word has no later value and no note
abbrev pub IsSettledWord : Word → Type 0
IsSettledWord w = w ≡ settled_at w.settled

-- each of the first len words is settled
abbrev pub IsSettled : ℕ → State → Type 0
IsSettled len p = (k : ℕ) → k < len → IsSettledWord (p.word k)

-- P holds here and after each call of a list, none of which fails
pub data AfterEachCall (P : State → Type 0) : State → List Call → Type 0 where
  end : {p : State} → P p → AfterEachCall P p []
  more : {p : State} {c : Call} {cs : List Call} → P p → AfterEachCall P (after c p) cs → AfterEachCall P p (c ∷ cs)
