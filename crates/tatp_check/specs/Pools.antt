-- A pool behind the walk that took records of it: its free list, the record that is in no list, and the header's count. It is
-- said of any list of taken records, whatever links those.
use Rattle.std.specs.Prelude.{◌≡◌, ◌≢◌, ℕ, ◌+◌, ◌<◌, ◌⊎◌, List, ◌++◌, length, All, AllPairs, Contains, slice_index}
use Rattle.record_heap.specs.declared.pool.Pool.{Pool}
use Rattle.record_heap.specs.Links.{Linked}
use Rattle.record_heap.specs.Pool.{IsRecord}
use Rattle.hash_table.specs.Table.{link_after}
use Rattle.hash_table.specs.Walk.{IsPath}
use Rattle.tatp_check.specs.Marks.{IsNew}

-- the word `link` leads on, but to no record, or to one that was met before
pub record IsWrongLink (pool : Pool) (array met : List ℕ) (link : ℕ) : Type 0 where
  pub leads : slice_index array link ≢ 0
  pub astray : ¬ IsNew pool met (slice_index array link)

-- behind the records taken, a walk has met these first ones of the free list, and none of them before
pub record HasMetFree (pool : Pool) (array taken free : List ℕ) : Type 0 where
  pub path : IsPath array pool.base free
  pub places : All (IsRecord pool) free
  pub differ : AllPairs (λ x y. x ≢ y) (taken ++ free)

-- behind the records taken, a walk has met the whole free list, which has these records
pub record HasFreeList (pool : Pool) (array taken free : List ℕ) : Type 0 where
  pub met : HasMetFree pool array taken free
  pub ended : Linked array pool.base free

-- behind the records taken, a walk has met the whole free list, and with them each record of the pool
pub record HasMetEach (pool : Pool) (array taken free : List ℕ) : Type 0 where
  pub list : HasFreeList pool array taken free
  pub every : (at : ℕ) → IsRecord pool at → Contains (taken ++ free) at

-- nothing is wrong in the pool: each record that isn't taken is in the free list, and the header counts those taken
pub record IsWholePool (pool : Pool) (array taken free : List ℕ) : Type 0 where
  pub met : HasMetEach pool array taken free
  pub count : slice_index array (pool.base + 1) ≡ length taken

-- nothing is wrong in the pool of which these records are taken, whatever its free list is
pub record HasWholePool (pool : Pool) (array taken : List ℕ) : Type 0 where
  pub free : List ℕ
  pub whole : IsWholePool pool array taken free

-- a wrong link in the free list, behind these taken records
pub record IsWrongFree (pool : Pool) (array taken : List ℕ) (word : ℕ) : Type 0 where
  pub free : List ℕ
  pub met : HasMetFree pool array taken free
  pub link : IsWrongLink pool array (taken ++ free) word
  pub word_is : word ≡ link_after pool.base free

-- the least record that is neither taken nor free
pub record IsLost (pool : Pool) (array taken : List ℕ) (word : ℕ) : Type 0 where
  pub free : List ℕ
  pub list : HasFreeList pool array taken free
  pub new : IsNew pool (taken ++ free) word
  pub lower : (at : ℕ) → IsRecord pool at → at < word → Contains (taken ++ free) at

-- the header's count, where it isn't the number of records taken
pub record IsMiscounted (pool : Pool) (array taken : List ℕ) (word : ℕ) : Type 0 where
  pub free : List ℕ
  pub met : HasMetEach pool array taken free
  pub word_is : word ≡ pool.base + 1
  pub differs : slice_index array word ≢ length taken

-- the first word at which something is wrong in the pool: in its free list; else a lost record; else the count
abbrev pub IsWrongPool : Pool → List ℕ → List ℕ → ℕ → Type 0
IsWrongPool pool array taken word = IsWrongFree pool array taken word ⊎ (IsLost pool array taken word ⊎ IsMiscounted pool array taken word)
