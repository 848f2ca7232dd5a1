-- What clauses see of a medium, what one call leaves of it, and what a list of calls does.
use Rattle.std.specs.Prelude.{◌≡◌, ◌⊎◌, ℕ, ◌+◌, ◌-◌, ◌^◌, ◌≤◌, Bool, true, false, not, List, [], ◌∷◌, ◌++◌, IsTrue, MatchBool, Result, is_ok}
use Rattle.pmem_trait.specs.declared.call.Call.{Call}
use Rattle.pmem_trait.specs.declared.made.Made.{Made}
use Rattle.pmem_trait.specs.Faults.{up_to_last}
use Rattle.pmem_trait.specs.Words.{State, value_of, after, HalfDone, EveryImage, IsSettled}

-- A medium: its length, its moment, its count of faults; whether its states are visible, and the state at each
-- moment up to now; whether its calls are listed, and the list of them.
pub record Sight : Type 0 where
  pub len : ℕ
  pub now : ℕ
  pub faults : ℕ
  pub is_visible : Bool
  pub state : ℕ → State
  pub lists_calls : Bool
  pub made : List Made

-- the state now
abbrev pub state_now : Sight → State
state_now s = s.state s.now

-- each word is settled, where the states are visible
abbrev pub IsAtRest : Sight → Type 0
IsAtRest s = IsTrue s.is_visible → IsSettled s.len (state_now s)

-- a count of faults rose, or stands at its last value
abbrev pub Risen : ℕ → ℕ → Type 0
Risen old new = up_to_last (old + 1) ≤ new

-- What stays of a medium, whatever calls are made: its length, and each moment up to the entry.
pub record Extends (s t : Sight) : Type 0 where
  pub len : t.len ≡ s.len
  pub now : s.now ≤ t.now
  pub faults : s.faults ≤ t.faults
  pub is_visible : t.is_visible ≡ s.is_visible
  pub past : IsTrue s.is_visible → (m : ℕ) → m ≤ s.now → t.state m ≡ s.state m

-- where the states are visible, a read of this word gives this value
abbrev pub ReadGives : Sight → ℕ → ℕ → Type 0
ReadGives s at v = IsTrue s.is_visible → v ≡ value_of ((state_now s).word at)

-- what a call does to the state: all of it, or at each word nothing or what it would have done
abbrev pub CallEffect : Call → Bool → State → State → Type 0
CallEffect c ok p q = MatchBool ok (q ≡ after c p) (HalfDone c p q)

-- One call, from entry to exit. It is one moment, or it fails since no moment is left. It fails only where the count
-- of faults rose.
pub record OneCall (c : Call) (ok : Bool) (s t : Sight) : Type 0 where
  pub later : Extends s t
  pub time : (t.now ≡ s.now + 1) ⊎ ((s.now ≡ 2 ^ 64 - 1) × (t.now ≡ s.now) × (ok ≡ false))
  pub cause : ok ≡ false → Risen s.faults t.faults
  -- where the states are visible, the call has its effect, or is half done where it failed
  pub does : IsTrue s.is_visible → t.now ≡ s.now + 1 → CallEffect c ok (state_now s) (state_now t)
  -- where the calls are listed, this one comes last
  pub lists_calls : IsTrue t.lists_calls → IsTrue s.lists_calls × (t.made ≡ s.made ++ record { call = c; failed = not ok } ∷ [])

-- Exactly these calls, from entry to exit; or, where ok is false, a prefix of them, whose last one failed.
pub data CallsMade : List Call → Bool → Sight → Sight → Type 0 where
  none : {s : Sight} → CallsMade [] true s s
  stop : {c : Call} {cs : List Call} {s t : Sight} → OneCall c false s t → CallsMade (c ∷ cs) false s t
  step : {c : Call} {cs : List Call} {ok : Bool} {s t u : Sight} → OneCall c true s t → CallsMade cs ok t u → CallsMade (c ∷ cs) ok s u

-- exactly these calls where the result is Ok; where it is an Err, a prefix of them, whose last one failed
abbrev pub Makes : {T E : Type 0} → List Call → Result T E → Sight → Sight → Type 0
Makes cs r s t = CallsMade cs (is_ok r) s t

-- some calls, of which none failed but perhaps the last
abbrev pub SomeCalls : Bool → Sight → Sight → Type 0
SomeCalls ok s t = (cs : List Call) × CallsMade cs ok s t

-- At each moment from entry to exit, every image that a crash may leave has P, beside the numbers told by then.
pub record AtEveryMoment (P : List ℕ → List ℕ → Type 0) (s t : Sight) : Type 0 where
  pub later : Extends s t
  pub each : IsTrue s.is_visible → (m : ℕ) → s.now ≤ m → m ≤ t.now → EveryImage s.len P (t.state m)
