-- What was found in front of the boxes of threads: which of it is taken first, and by which looks it was found.
use Rattle.std.specs.Prelude.{◌≡◌, ◌≢◌, ◌==◌, ◌↔◌, ℕ, zero, suc, ◌<◌, ◌≤◌, ltb, Bool, IsTrue, List, MatchBool, slice_index, if◌then◌else◌}
use Rattle.core_events.specs.Setups.{Setup}
use Rattle.core_events.specs.Views.{View}
use Rattle.core_events.specs.Events.{see_full, view_after}
use Rattle.stm_turns.specs.declared.gathers.TheConstants.{LEFT}

-- ---- which number is taken first
-- a number in front is one to take: 0 says that there is none, and LEFT that the records stay
abbrev pub IsToTake : ℕ → Type 0
IsToTake front = (front ≢ 0) × (front < LEFT)

-- none of the first so many threads has a number to take in front
abbrev pub NoneToTake : List ℕ → ℕ → Type 0
NoneToTake fronts threads = (u : ℕ) → u < threads → IsToTake (slice_index fronts u) → ⊥

-- The thread has a number to take in front, and none of the first so many threads has a lesser one
pub record IsLeast (fronts : List ℕ) (threads thread : ℕ) : Type 0 where
  pub inside : thread < threads
  pub some : IsToTake (slice_index fronts thread)
  pub least : (u : ℕ) → u < threads → IsToTake (slice_index fronts u) → slice_index fronts thread ≤ slice_index fronts u

-- none of the first so many threads has this number in front
abbrev pub NoneHas : List ℕ → ℕ → ℕ → Type 0
NoneHas fronts threads number = (u : ℕ) → u < threads → slice_index fronts u ≢ number

-- The thread is the first one that has this number in front
pub record IsFirstWith (fronts : List ℕ) (threads number thread : ℕ) : Type 0 where
  pub inside : thread < threads
  pub has : slice_index fronts thread ≡ number
  pub first : NoneHas fronts thread number

-- The front of each of the first so many threads of the list is LEFT, and each other front is as before
pub record AreLeft (threads : List ℕ) (count : ℕ) (old new : List ℕ) : Type 0 where
  pub left : (i : ℕ) → i < count → slice_index new (slice_index threads i) ≡ LEFT
  pub others : (u : ℕ) → ((i : ℕ) → i < count → slice_index threads i ≢ u) → slice_index new u ≡ slice_index old u

-- ---- looks
-- One look at a box found a number, and it is told whether it is this one
pub record FindsWhether (z : Setup) (thread place wanted : ℕ) (v w : View) (told : Bool) : Type 0 where
  pub number : ℕ
  pub after : w ≡ view_after z (see_full thread place) v number
  pub is : IsTrue told ↔ (number ≡ wanted)

-- One look at a box found a number, which is in front where it is greater than `above`; else none is
pub record FindsFront (z : Setup) (thread place above : ℕ) (v w : View) (front : ℕ) : Type 0 where
  pub number : ℕ
  pub after : w ≡ view_after z (see_full thread place) v number
  pub is : front ≡ (if ltb above number then number else 0)

-- a number that is in front stays there, with no look; where none is, one look finds what is in front now
abbrev pub FindsWhereNone : Setup → ℕ → ℕ → ℕ → ℕ → View → View → ℕ → Type 0
FindsWhereNone z thread place above front v w now = MatchBool (front == 0) (FindsFront z thread place above v w now) ((w ≡ v) × (now ≡ front))

-- a step of each of the first so many threads, one after another
abbrev pub InOrder : {V : Type 0} → (ℕ → V → V → Type 0) → ℕ → V → V → Type 0
InOrder {V} step zero v w = w ≡ v
InOrder {V} step (suc k) v w = (u : V) × InOrder step k v u × step k u w

-- a look at this place of each of the first so many threads found these fronts
abbrev pub AreFound : Setup → List ℕ → List ℕ → ℕ → View → View → Type 0
AreFound z places fronts = InOrder (λ u v w. w ≡ view_after z (see_full u (slice_index places u)) v (slice_index fronts u))

-- a look at this place of each of the first so many threads, where no number was in front, leaves these fronts
abbrev pub AreFoundAgain : Setup → List ℕ → ℕ → List ℕ → List ℕ → ℕ → View → View → Type 0
AreFoundAgain z places above old new = InOrder (λ u v w. FindsWhereNone z u (slice_index places u) above (slice_index old u) v w (slice_index new u))
