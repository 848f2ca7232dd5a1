-- What a view says of the writes of a number, and of the value that waits.
use Rattle.std.specs.Prelude.{◌≡◌, ◌*◌, ◌<◌, ℕ, Bool, true, false, List, All, Some, MatchBool}
use Rattle.dude_base.specs.declared.limits.TheConstants.{PAGE}
use Rattle.dude_base.specs.declared.write.Write.{Write}
use Rattle.dude_base.specs.Writes.{written}
use Rattle.core_events.specs.Setups.{Setup, lock_of, page_of}
use Rattle.core_events.specs.Keyed.{has}
use Rattle.core_events.specs.Views.{Transaction, View}
use Rattle.core_events.specs.Conditions.{Owns, Pins}

-- the write is of a home word whose lock is owned and whose page is pinned
abbrev pub Holds : Setup → View → Write → Type 0
Holds z v w = (w.at < z.pages * PAGE) × Owns v (lock_of z w.at) × Pins v (page_of w.at)

-- the writes are of home words whose locks are owned and whose pages are pinned
pub record HoldsAll (z : Setup) (v : View) (ws : List Write) : Type 0 where
  pub inside : All (λ w. w.at < z.pages * PAGE) ws
  pub owned : (i x : ℕ) → written ws i ≡ Some x → Owns v (lock_of z i)
  pub pinned : (i x : ℕ) → written ws i ≡ Some x → Pins v (page_of i)

-- r says whether E answers true at each written word; where it doesn't, E answers false at one
pub record AnswersEach (E : ℕ → Bool → Type 0) (ws : List Write) (r : Bool) : Type 0 where
  pub told : MatchBool r ((i x : ℕ) → written ws i ≡ Some x → E i true) ((i : ℕ) × ((x : ℕ) × (written ws i ≡ Some x)) × E i false)

-- all written words under the lock k are stored
pub record IsStoredUnder (z : Setup) (ws : List Write) (stored : List ℕ) (k : ℕ) : Type 0 where
  pub each : (i x : ℕ) → written ws i ≡ Some x → lock_of z i ≡ k → has stored i ≡ true

-- the number in hand stored all that it wrote under the lock k
abbrev pub HasStoredUnder : Setup → View → ℕ → Type 0
HasStoredUnder z v k = IsStoredUnder z v.tx.hand.writes v.tx.hand.stored k

-- the home word i is stored and its page p touched, if it is one of that page
abbrev pub IsSettledAt : List ℕ → List ℕ → ℕ → ℕ → Type 0
IsSettledAt stored touched p i = page_of i ≡ p → (has stored i ≡ true) × (has touched p ≡ true)

-- all written words of the page p are stored, and it is touched if there is one
pub record IsSettledIn (ws : List Write) (stored touched : List ℕ) (p : ℕ) : Type 0 where
  pub each : (i x : ℕ) → written ws i ≡ Some x → page_of i ≡ p → (has stored i ≡ true) × (has touched p ≡ true)

-- the number in hand stored all that it wrote in the page p, and touched it
abbrev pub HasSettledIn : View → ℕ → Type 0
HasSettledIn v p = IsSettledIn v.tx.hand.writes v.tx.hand.stored v.paging.touched p

-- a word of the page p is written
abbrev pub WritesIn : List Write → ℕ → Type 0
WritesIn ws p = (i : ℕ) × ((x : ℕ) × (written ws i ≡ Some x)) × (page_of i ≡ p)

-- a value waits for the second look at the lock k
abbrev pub WaitsFor : Setup → Transaction → ℕ → Type 0
WaitsFor z t k = (i : ℕ) × (x : ℕ) × (t.loaded ≡ Some (i, x)) × (k ≡ lock_of z i)
