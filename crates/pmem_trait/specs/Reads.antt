-- Reads, which leave a medium as it is.
use Rattle.std.specs.Prelude.{◌≡◌, ℕ, ◌≤◌, Bool, List, map, IsTrue}
use Rattle.pmem_trait.specs.declared.call.Call.TheVariants.{Read}
use Rattle.pmem_trait.specs.Words.{State, IsContent}
use Rattle.pmem_trait.specs.Sights.{Sight, state_now, CallsMade}

-- Some reads, of which none failed but perhaps the last.
pub record OnlyReads (ok : Bool) (s t : Sight) : Type 0 where
  pub words : List ℕ
  pub made : CallsMade (map Read words) ok s t

-- each word and the numbers told are the same
pub record IsSameState (p q : State) : Type 0 where
  pub word : (k : ℕ) → q.word k ≡ p.word k
  pub told : q.told ≡ p.told

-- At each moment of some reads, also where one fails, the state is as it was.
abbrev pub LawOfReads : Type 0
LawOfReads = (ok : Bool) (s t : Sight) → OnlyReads ok s t → IsTrue s.is_visible → (m : ℕ) → s.now ≤ m → m ≤ t.now → IsSameState (state_now s) (t.state m)

-- where the medium is visible, its content has P
abbrev pub ContentHas : (List ℕ → Type 0) → Sight → Type 0
ContentHas P s = IsTrue s.is_visible → (content : List ℕ) → IsContent s.len (state_now s) content → P content
