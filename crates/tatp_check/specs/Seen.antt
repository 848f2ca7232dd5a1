-- What is known on the way through a table.
use Rattle.std.specs.Prelude.{◌≡◌, ◌≢◌, ℕ, ◌+◌, ◌<◌, ◌≤◌, Option, MatchOption, List, [], ◌∷◌, ◌++◌, length, All, slice_index, Result, OnOk, IfErr}
use Rattle.hash_table.specs.declared.table.Table.{Table}
use Rattle.hash_table.specs.Table.{link_after, records_in}
use Rattle.tatp_check.specs.declared.seen.Seen.{Seen}
use Rattle.tatp_check.specs.declared.taken.Taken.{Taken}
use Rattle.tatp_check.specs.declared.check_fault.CheckFault.{CheckFault}
use Rattle.tatp_check.specs.Faults.{IsCause, IsWrongRecord}
use Rattle.tatp_check.specs.Marks.{AreMarked, IsNew}
use Rattle.tatp_check.specs.Taken.{AreTaken}
use Rattle.tatp_check.specs.Walk.{HasMet, IsSound}

-- the records met in chains are marked and taken
pub record KnowsMet (table : Table) (array met : List ℕ) (seen : Seen) : Type 0 where
  pub marked : AreMarked table.pool met seen.marks.marks.items
  pub taken : AreTaken array met seen.taken

-- in the chain of this bucket the word `link` comes next
pub record KnowsPart (content : ℕ → ℕ → Type 0) (table : Table) (array : List ℕ) (bucket link : ℕ) (seen : Seen) : Type 0 where
  pub chains : List (List ℕ)
  pub part : List ℕ
  pub bucket_is : length chains ≡ bucket
  pub link_is : link ≡ link_after (table.at + bucket) part
  pub met : HasMet content table array chains part
  pub knows : KnowsMet table array (records_in chains ++ part) seen

-- the chains of so many buckets were followed
pub record KnowsChains (content : ℕ → ℕ → Type 0) (table : Table) (array : List ℕ) (buckets : ℕ) (seen : Seen) : Type 0 where
  pub chains : List (List ℕ)
  pub buckets_are : length chains ≡ buckets
  pub met : HasMet content table array chains []
  pub knows : KnowsMet table array (records_in chains ++ []) seen

-- a record of the bucket's chain was taken in: it is sound, and its key is a new one
pub record TakesSound (content : ℕ → ℕ → Type 0) (table : Table) (array : List ℕ) (bucket at : ℕ) (met : List ℕ) (taken : Taken) : Type 0 where
  pub sound : IsSound content table array bucket at
  pub new_key : All (λ x. slice_index array x ≢ slice_index array at) met
  pub taken_in : AreTaken array (met ++ at ∷ []) taken

-- where nothing is refused, the chain of this bucket was followed too
abbrev pub FollowsChain : {T : Type 0} → (ℕ → ℕ → Type 0) → Table → List ℕ → ℕ → Result T CheckFault → Seen → Type 0
FollowsChain content table array bucket r seen = OnOk r (KnowsChains content table array (bucket + 1) seen)

-- where the record is accepted, it was taken in, behind whatever records were taken before
abbrev pub TakesIn : {T : Type 0} → (ℕ → ℕ → Type 0) → Table → List ℕ → ℕ → ℕ → Taken → Result T CheckFault → Taken → Type 0
TakesIn content table array bucket at old r new =
    (met : List ℕ) → AreTaken array met old → OnOk r (TakesSound content table array bucket at met new)

-- where the record is refused, the answer is its first word that doesn't hold what it has to, or memory is wanting
abbrev pub RefusesRecord : {T : Type 0} → (ℕ → ℕ → Type 0) → Table → List ℕ → ℕ → ℕ → Taken → Result T CheckFault → Type 0
RefusesRecord content table array bucket at old r =
    (met : List ℕ) → AreTaken array met old → IsNew table.pool met at → IfErr r (IsCause (IsWrongRecord content table array bucket met at))

-- the first offset behind the link at which the record's word isn't one that it may hold
abbrev pub IsFirstWrongBehind : (ℕ → ℕ → Type 0) → Table → List ℕ → ℕ → Option ℕ → Type 0
IsFirstWrongBehind content table array at found = MatchOption found
    ((offset : ℕ) → 2 ≤ offset → offset < table.pool.size → content offset (slice_index array (at + offset)))
    (λ wrong. (2 ≤ wrong) × (wrong < table.pool.size) × ¬ content wrong (slice_index array (at + wrong))
    × ((offset : ℕ) → 2 ≤ offset → offset < wrong → content offset (slice_index array (at + offset))))
