-- What a medium in memory notes of a call.
use Rattle.std.specs.Prelude.{◌≡◌, ℕ, ◌+◌, ◌-◌, ◌^◌, min, Bool, ◌&&◌, ◌||◌, not, if◌then◌else◌, nat_eq, nat_lt, nat_le, List, [], ◌∷◌, ◌++◌}
use Rattle.std.specs.List.{list_any}
use Rattle.pmem_trait.specs.declared.call.Call.{Call}
use Rattle.pmem_trait.specs.Faults.{faults_after}
use Rattle.pmem_fake.specs.declared.call_history.CallHistory.{CallHistory}

-- the call of this count is among those that are to fail
abbrev pub is_to_fail : ℕ → List ℕ → Bool
is_to_fail count fail = list_any (λ n. nat_eq n count) fail

-- the call of this count succeeds: it is within the budget, and not among those that are to fail
abbrev pub is_ok_at : ℕ → ℕ → List ℕ → Bool
is_ok_at count budget fail = nat_le count budget && not (is_to_fail count fail)

-- the call of this count has its effect: so has each one that succeeds, and, where failed calls have theirs, each one
-- within the budget
abbrev pub is_effective_at : Bool → ℕ → ℕ → List ℕ → Bool
is_effective_at late count budget fail = nat_le count budget && (late || not (is_to_fail count fail))

-- the next call has its effect
abbrev pub has_next_effect : CallHistory → Bool
has_next_effect history = is_effective_at history.late (history.now + 1) history.budget history.fail.items

-- What the history notes of a call: it is one moment, succeeds or fails by its count, and is listed where it is within the
-- budget.
pub record Entered (c : Call) (ok : Bool) (old new : CallHistory) : Type 0 where
  pub exact : ok ≡ is_ok_at (old.now + 1) old.budget old.fail.items
  pub calls : new.calls.items ≡ (if nat_lt old.now old.budget then old.calls.items ++ record { call = c; failed = not ok } ∷ [] else old.calls.items)
  pub now : new.now ≡ min (old.now + 1) (2 ^ 64 - 1)
  pub faults : new.faults ≡ faults_after ok old.faults
  pub budget : new.budget ≡ old.budget
  pub fail : new.fail ≡ old.fail
  pub late : new.late ≡ old.late
