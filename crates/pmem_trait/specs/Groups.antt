-- A group of writes: some words are put, their lines flushed, and a fence made.
use Rattle.std.specs.Prelude.{All, ◌*◌, ◌+◌, ◌≤◌, ◌≡◌, ◌⊎◌, ◌==◌, ℕ, ◌/◌, ◌<◌, if◌then◌else◌, List, [], ◌∷◌, ◌++◌, length, slice_index, IsTrue}
use Rattle.pmem_trait.specs.declared.call.Call.{Call}
use Rattle.pmem_trait.specs.declared.call.Call.TheVariants.{Put, Flush, Fence}
use Rattle.pmem_trait.specs.Words.{State, IsIn, MayHold, newest, value_of, settled_at, IsSettledWord}
use Rattle.pmem_trait.specs.Sights.{Sight, state_now, AtEveryMoment}

-- a put for each pair of a word and a value
abbrev pub put_pairs : List (ℕ × ℕ) → List Call
put_pairs [] = []
put_pairs (w ∷ ws) = Put w.0 w.1 ∷ put_pairs ws

-- a flush for each line
abbrev pub flush_lines : List ℕ → List Call
flush_lines [] = []
flush_lines (l ∷ ls) = Flush l ∷ flush_lines ls

-- a flush for each line, and the fence
abbrev pub fence_calls : List ℕ → List Call
fence_calls ls = flush_lines ls ++ Fence ∷ []

-- the puts, the flushes, and the fence
unfoldable pub group_calls : List (ℕ × ℕ) → List ℕ → List Call
group_calls ws ls = put_pairs ws ++ fence_calls ls

-- the values that these writes put in word k, in order
abbrev pub values_put : List (ℕ × ℕ) → ℕ → List ℕ
values_put [] k = []
values_put (w ∷ ws) k = if k == w.0 then w.1 ∷ values_put ws k else values_put ws k

-- the last value put in word k, or x where there is none
abbrev pub final : List (ℕ × ℕ) → ℕ → ℕ → ℕ
final ws k x = newest x (values_put ws k)

-- an image in which each word is as it may have been before, or as some write has it
pub record OldOrNew (len : ℕ) (p : State) (ws : List (ℕ × ℕ)) (image : List ℕ) : Type 0 where
  pub size : length image ≡ len
  pub each : (k : ℕ) → k < len → MayHold (p.word k) (slice_index image k) ⊎ IsIn (slice_index image k) (values_put ws k)

-- What a group of writes leaves. A word whose line is flushed is settled at the last value written there, or, where there
-- is none, at the value that it had. A word that isn't written holds no value in a crash that it might not have held
-- before, and stays as it was where it was settled. Nothing more is told.
pub record SettlesGroup (ws : List (ℕ × ℕ)) (ls : List ℕ) (p q : State) : Type 0 where
  pub flushed : (k : ℕ) → IsIn (k / 8) ls → q.word k ≡ settled_at (final ws k (value_of (p.word k)))
  pub unwritten : (k x : ℕ) → values_put ws k ≡ [] → MayHold (q.word k) x → MayHold (p.word k) x
  pub settled : (k : ℕ) → values_put ws k ≡ [] → IsSettledWord (p.word k) → q.word k ≡ p.word k
  pub told : q.told ≡ p.told

-- the numbers told stay, and the image is such a mix
abbrev pub MixOf : ℕ → State → List (ℕ × ℕ) → List ℕ → List ℕ → Type 0
MixOf len p ws told image = (told ≡ p.told) × OldOrNew len p ws image

-- at each moment each image is a mix of the words at the entry and the written ones
abbrev pub MixesAtEveryMoment : List (ℕ × ℕ) → Sight → Sight → Type 0
MixesAtEveryMoment ws s t = AtEveryMoment (MixOf s.len (state_now s) ws) s t

-- where the states are visible, the group has settled its words at the exit
abbrev pub Settles : List (ℕ × ℕ) → List ℕ → Sight → Sight → Type 0
Settles ws ls s t = IsTrue s.is_visible → SettlesGroup ws ls (state_now s) (state_now t)

-- each word written is below the length
abbrev pub PlacesFit : ℕ → List (ℕ × ℕ) → Type 0
PlacesFit len ws = All (λ w. w.0 < len) ws

-- each line that is flushed lies within the length
abbrev pub LinesFit : ℕ → List ℕ → Type 0
LinesFit len ls = All (λ l. 8 * l + 8 ≤ len) ls
