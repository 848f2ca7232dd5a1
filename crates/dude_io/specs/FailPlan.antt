-- Which calls on a thing in memory fail.
use Rattle.std.specs.Prelude.{◌≡◌, ◌==◌, ℕ, ◌+◌, Bool, List}
use Rattle.std.specs.List.{list_any}
use Rattle.pmem_trait.specs.Faults.{up_to_last, faults_after}
use Rattle.dude_io.specs.declared.fail_plan.FailPlan.{FailPlan}

-- the number of the next call
abbrev pub next_call : FailPlan → ℕ
next_call plan = up_to_last (plan.made + 1)

-- the next call is one of those that are to fail
abbrev pub is_next_to_fail : FailPlan → Bool
is_next_to_fail plan = list_any (λ number. number == next_call plan) plan.fail.items

-- one call was counted, and a fault exactly where it failed; the plan stays
pub record CountsCall (ok : Bool) (old new : FailPlan) : Type 0 where
  pub made : new.made ≡ next_call old
  pub faults : new.faults.count ≡ faults_after ok old.faults.count
  pub fail : new.fail.items ≡ old.fail.items
  pub chunk : new.chunk ≡ old.chunk

-- nothing was called yet, and this is the plan
pub record IsNewPlan (most : ℕ) (failing : List ℕ) (plan : FailPlan) : Type 0 where
  pub made : plan.made ≡ 0
  pub faults : plan.faults.count ≡ 0
  pub fail : plan.fail.items ≡ failing
  pub chunk : plan.chunk ≡ most
