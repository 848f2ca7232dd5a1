-- What is known on the way through a pool, behind the walk that took records of it.
use Rattle.std.specs.Prelude.{◌≡◌, ◌≢◌, ℕ, List, ◌++◌, AllPairs, Result, OnOk, IfErr}
use Rattle.record_heap.specs.declared.pool.Pool.{Pool}
use Rattle.hash_table.specs.Table.{link_after}
use Rattle.tatp_check.specs.declared.marks.Marks.{Marks}
use Rattle.tatp_check.specs.declared.check_fault.CheckFault.{CheckFault}
use Rattle.tatp_check.specs.Faults.{NamesWord}
use Rattle.tatp_check.specs.Marks.{AreMarked}
use Rattle.tatp_check.specs.Pools.{HasFreeList, HasMetFree, IsWrongFree}

-- the marks are those of these records, which differ from one another
pub record AreApartMarked (pool : Pool) (taken : List ℕ) (marks : Marks) : Type 0 where
  pub marked : AreMarked pool taken marks.marks.items
  pub differ : AllPairs (λ x y. x ≢ y) taken

-- of the free list, behind these taken records, the word `link` comes next
pub record KnowsFree (pool : Pool) (array taken : List ℕ) (link : ℕ) (marks : Marks) : Type 0 where
  pub free : List ℕ
  pub met : HasMetFree pool array taken free
  pub link_is : link ≡ link_after pool.base free
  pub marked : AreMarked pool (taken ++ free) marks.marks.items

-- the free list was followed to its end
pub record KnowsFreeList (pool : Pool) (array taken : List ℕ) (marks : Marks) : Type 0 where
  pub free : List ℕ
  pub list : HasFreeList pool array taken free
  pub marked : AreMarked pool (taken ++ free) marks.marks.items

-- where the free list is accepted, it was followed to its end, behind whatever records were marked before
abbrev pub FollowsFree : {T : Type 0} → Pool → List ℕ → Marks → Result T CheckFault → Marks → Type 0
FollowsFree pool array old r new = (taken : List ℕ) → AreApartMarked pool taken old → OnOk r (KnowsFreeList pool array taken new)

-- where the free list is refused, the answer is a wrong link in it
abbrev pub RefusesFree : {T : Type 0} → Pool → List ℕ → Marks → Result T CheckFault → Type 0
RefusesFree pool array old r = (taken : List ℕ) → AreApartMarked pool taken old → IfErr r (NamesWord (IsWrongFree pool array taken))
