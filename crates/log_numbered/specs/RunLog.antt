-- What contracts see of the log of a run, how its medium is, and what its calls leave.
use Rattle.std.specs.Prelude.{◌≡◌, ℕ, ◌+◌, ◌*◌, ◌<◌, ◌≤◌, Bool, IsTrue, List, [], ◌∷◌, ◌++◌, length, All, Option, Some, None}
use Rattle.dude_base.specs.declared.limits.TheConstants.{MAX_NUMBER, MAX_SPAN, PAGE}
use Rattle.dude_base.specs.declared.sizes.Sizes.{Sizes}
use Rattle.dude_base.specs.Records.{RedoRecord, first_of}
use Rattle.pmem_trait.specs.declared.medium.Medium.{Ghosts}
use Rattle.pmem_trait.specs.Words.{EveryImage}
use Rattle.pmem_trait.specs.Sights.{Sight, state_now, AtEveryMoment}
use Rattle.redo_record.specs.Record.{cells_for}
use Rattle.back_store.specs.Back.{BackState, IsRingFull, home_now}
use Rattle.back_store.specs.declared.back.Back.{Back}
use Rattle.back_store.specs.BackView.{medium_of, sight_of, state_of}
use Rattle.dude_recover.specs.Opened.{HoldsOpened}
use Rattle.log_numbered.specs.declared.open_bundle.OpenBundle.{OpenBundle}
use Rattle.log_numbered.specs.declared.run_log.RunLog.{RunLog}
use Rattle.log_numbered.specs.Arrays.{LeadsToLast, RecoversIn, RunArrays, array_at, last_number, with_writes}
use Rattle.log_numbered.specs.Backs.{Carries, LeadsUpTo, LogGoesOn}
use Rattle.log_numbered.specs.BundleLog.{TellsNone, kept_back, kept_medium, kept_sight}
use Rattle.back_store.specs.Operations.{Makes}
use Rattle.log_numbered.specs.LogCalls.{AnnouncedBy, AppendedBy, CheckpointedBy, ClosedBy, Joins, LogParts, with_joined}

-- the medium of the log of a run
abbrev pub log_medium : {M : Type 0} {ghosts : Ghosts M} → RunLog M ghosts → M
log_medium l = kept_medium l.log

-- what clauses see of the medium of the log of a run
abbrev pub log_sight : {M : Type 0} {ghosts : Ghosts M} → RunLog M ghosts → Sight
log_sight l = kept_sight l.log

-- the back of the log of a run, without its medium
abbrev pub log_back : {M : Type 0} {ghosts : Ghosts M} → RunLog M ghosts → BackState
log_back l = kept_back l.log

-- the last number that was persisted
abbrev pub log_end : {M : Type 0} {ghosts : Ghosts M} → RunLog M ghosts → ℕ
log_end l = l.log.end

-- the last number of the run
abbrev pub log_last : {M : Type 0} {ghosts : Ghosts M} → RunLog M ghosts → ℕ
log_last l = l.last

-- the open bundle of the log of a run, if there is one
abbrev pub log_open : {M : Type 0} {ghosts : Ghosts M} → RunLog M ghosts → Option OpenBundle
log_open l = l.current

-- the back of the log of a run, without its medium, and its open bundle
abbrev pub log_parts : {M : Type 0} {ghosts : Ghosts M} → RunLog M ghosts → LogParts
log_parts l = record { back = log_back l; current = log_open l }

-- the number that was told last, or the first one of the run where none was
abbrev pub log_durable : {M : Type 0} {ghosts : Ghosts M} → RunLog M ghosts → ℕ
log_durable l = (log_back l).log.durable

-- the number up to which the home has all writes
abbrev pub log_reproduced : {M : Type 0} {ghosts : Ghosts M} → RunLog M ghosts → ℕ
log_reproduced l = (log_back l).log.reproduced

-- the sizes of the image that the log of a run is in
abbrev pub log_sizes : {M : Type 0} {ghosts : Ghosts M} → RunLog M ghosts → Sizes
log_sizes l = (log_back l).log.sizes

-- An open bundle covers exactly the numbers behind `end` up to `last`, so many as a bundle may at most. Its ring exists and
-- isn't too short for it, and it writes home words.
pub record IsOpen (s : Sizes) (end last : ℕ) (o : OpenBundle) : Type 0 where
  pub ring : o.ring < s.rings
  pub first : first_of o.bundle ≡ end + 1
  pub last_is : o.bundle.last ≡ last
  pub span : o.bundle.span ≤ MAX_SPAN
  pub short : cells_for (length o.bundle.writes) ≤ s.cells
  pub home : All (λ w. w.at < s.pages * PAGE) o.bundle.writes

-- an open bundle covers exactly the numbers behind `end` up to `last`; where none is open there are no such numbers
abbrev pub OpensUpTo : Sizes → ℕ → ℕ → Option OpenBundle → Type 0
OpensUpTo s end last None = end ≡ last
OpensUpTo s end last (Some o) = IsOpen s end last o

-- Whatever the medium: the bundles that wait lead up to the last number persisted, and the open one from there to the last
-- number of the run.
pub record IsAlive {M : Type 0} {ghosts : Ghosts M} (l : RunLog M ghosts) : Type 0 where
  pub leads : LeadsUpTo (log_back l) (log_end l)
  pub opens : OpensUpTo (log_sizes l) (log_end l) (log_last l) (log_open l)
  pub small : log_last l ≤ MAX_NUMBER

-- the open bundle leads from the array at the last number persisted to the last one; where none is open that is the last
abbrev pub OpenLeads : RunArrays → ℕ → Option OpenBundle → Type 0
OpenLeads a end None = end ≡ last_number a
OpenLeads a end (Some o) = LeadsToLast a end o.bundle

-- The log follows these arrays: its last number is theirs; its back has those so far, and its open bundle leads to the last.
pub record Follows {M : Type 0} {ghosts : Ghosts M} (before : ℕ) (a : RunArrays) (l : RunLog M ghosts) (s : Sight) : Type 0 where
  pub last : l.last ≡ last_number a
  pub carried : Carries before a (log_back l) (log_end l) s
  pub leads_on : OpenLeads a (log_end l) (log_open l)

-- from one log and its medium to another: it follows these arrays where it followed those
abbrev pub FollowsOn : {M : Type 0} {ghosts : Ghosts M} → (RunArrays → RunArrays) → RunLog M ghosts → Sight → RunLog M ghosts → Sight → Type 0
FollowsOn more k s l t = (before : ℕ) (a : RunArrays) → Follows before a k s → Follows before (more a) l t

-- At each moment every image recovers to a number from the last one that k had persisted on, and to one of the arrays that
-- follow from those of k.
abbrev pub RecoversOn : {M : Type 0} {ghosts : Ghosts M} → (RunArrays → RunArrays) → RunLog M ghosts → Sight → Sight → Type 0
RecoversOn more k s t = (before : ℕ) (a : RunArrays) → Follows before a k s → AtEveryMoment (RecoversIn (log_sizes k) (more a) (log_end k) before) s t

-- at the end every image recovers to the last number of k
abbrev pub EndsAtLast : {M : Type 0} {ghosts : Ghosts M} → RunLog M ghosts → Sight → Sight → Type 0
EndsAtLast k s t = (before : ℕ) (a : RunArrays) → Follows before a k s → IsTrue s.is_visible → EveryImage t.len (RecoversIn (log_sizes k) a (log_last k) before) (state_now t)

-- the ring of the open bundle has room for it, where one is open
abbrev pub HasRoom : {M : Type 0} {ghosts : Ghosts M} → RunLog M ghosts → Type 0
HasRoom k = (o : OpenBundle) → log_open k ≡ Some o → IsRingFull (log_back k) o.ring o.bundle → ⊥

-- the home is the last array that k follows
abbrev pub HomeIsLast : {M : Type 0} {ghosts : Ghosts M} → RunLog M ghosts → Sight → Sight → Type 0
HomeIsLast k s t = (before : ℕ) (a : RunArrays) → Follows before a k s → IsTrue s.is_visible → home_now (log_sizes k) t ≡ array_at a (last_number a)

-- ---- what calls leave

-- what a call leaves of the log, whatever the medium
abbrev pub RunGoesOn : {M : Type 0} {ghosts : Ghosts M} → Bool → RunLog M ghosts → RunLog M ghosts → Type 0
RunGoesOn ok k l = LogGoesOn ok (log_back k) (log_sight k) (log_back l) (log_sight l)

-- at each moment every image recovers to an array from the last one persisted on, of those that follow from those of k
abbrev pub RunRecovers : {M : Type 0} {ghosts : Ghosts M} → (RunArrays → RunArrays) → RunLog M ghosts → RunLog M ghosts → Type 0
RunRecovers more k l = RecoversOn more k (log_sight k) (log_sight l)

-- The log starts at this number on a back where all up to it is in the home.
pub record StartsOn {M : Type 0} {ghosts : Ghosts M} (back : Back M ghosts) (number : ℕ) (l : RunLog M ghosts) : Type 0 where
  -- its back and its medium are those
  pub medium : log_medium l ≡ medium_of back
  pub sizes : log_sizes l ≡ (state_of back).log.sizes
  pub back_is : log_back l ≡ state_of back
  -- no bundle is open
  pub none_open : log_open l ≡ None
  -- the number is the last one, the last one persisted, and durable
  pub last : log_last l ≡ number
  pub end : log_end l ≡ number
  pub durable : log_durable l ≡ number

-- where the medium is as an opening at this number left it, the log follows the one array of the home
abbrev pub FollowsOpened : {M : Type 0} {ghosts : Ghosts M} → Back M ghosts → ℕ → RunLog M ghosts → Type 0
FollowsOpened back number l = (before : ℕ) (words : List ℕ) → HoldsOpened before (state_of back).log.sizes number words (sight_of back)
    → Follows before (record { first = number; opening = words; others = [] }) l (sight_of back)

-- the open bundle of k takes the record, and is that of l with it
abbrev pub JoinsOpen : {M : Type 0} {ghosts : Ghosts M} → RedoRecord → RunLog M ghosts → RunLog M ghosts → Type 0
JoinsOpen r k l = (o : OpenBundle) × (log_open k ≡ Some o) × Joins (log_sizes k).cells o r
    × (log_open l ≡ Some (with_joined o r))

-- no open bundle takes the record
abbrev pub NoneJoins : {M : Type 0} {ghosts : Ghosts M} → RedoRecord → RunLog M ghosts → Type 0
NoneJoins r k = (o : OpenBundle) → log_open k ≡ Some o → Joins (log_sizes k).cells o r → ⊥

-- The open bundle is persisted, where there is one.
pub record Closes {M : Type 0} {ghosts : Ghosts M} (k l : RunLog M ghosts) : Type 0 where
  -- all is persisted
  pub end : log_end l ≡ log_last k
  -- no bundle is open
  pub none_open : log_open l ≡ None
  -- just the calls for that were made
  pub calls : Makes (ClosedBy (log_open k) (log_back k) (log_back l)) (log_sight k) (log_sight l)
  -- where its ring had room nothing was told
  pub untold : HasRoom k → TellsNone (log_sight k) (log_sight l)
  -- the log follows the arrays that it followed
  pub follows : FollowsOn (λ a. a) k (log_sight k) l (log_sight l)

-- The record is that of the next number, and may go to this ring.
pub record IsNextRecord {M : Type 0} {ghosts : Ghosts M} (l : RunLog M ghosts) (ring : ℕ) (r : RedoRecord) : Type 0 where
  -- there is such a ring
  pub ring_is : ring < (log_sizes l).rings
  -- the number is the next one
  pub number : r.number ≡ log_last l + 1
  -- it is in its limit
  pub small : log_last l < MAX_NUMBER
  -- each write is of a home word
  pub home : All (λ w. w.at < (log_sizes l).pages * PAGE) r.writes

-- The record is in the open bundle.
pub record AppendsRecord {M : Type 0} {ghosts : Ghosts M} (ring : ℕ) (r : RedoRecord) (k l : RunLog M ghosts) : Type 0 where
  -- its number is the last
  pub last : log_last l ≡ log_last k + 1
  -- where it joined none there are just the calls that persist the bundle before
  pub calls : Makes (AppendedBy ring r (log_parts k) (log_parts l)) (log_sight k) (log_sight l)
  -- where the ring of the open bundle had room nothing was told
  pub untold : HasRoom k → TellsNone (log_sight k) (log_sight l)
  -- the arrays get one more
  pub follows : FollowsOn (with_writes r.writes) k (log_sight k) l (log_sight l)

-- The last number was told.
pub record TellsRun {M : Type 0} {ghosts : Ghosts M} (k l : RunLog M ghosts) : Type 0 where
  -- it was told last
  pub told : IsTrue (log_sight k).is_visible
      → (earlier : List ℕ) × ((state_now (log_sight l)).told ≡ (state_now (log_sight k)).told ++ earlier ++ log_last k ∷ [])
  -- it stays the last, is the last one persisted, and is durable
  pub last : log_last l ≡ log_last k
  pub end : log_end l ≡ log_last k
  pub durable : log_durable l ≡ log_last k
  -- the log follows the arrays that it followed
  pub follows : FollowsOn (λ a. a) k (log_sight k) l (log_sight l)

-- The open bundle is persisted, and the last number announced.
pub record AnnouncesRun {M : Type 0} {ghosts : Ghosts M} (k l : RunLog M ghosts) : Type 0 where
  -- by just the calls for that
  pub calls : Makes (AnnouncedBy (log_parts k) (log_last k) (log_parts l)) (log_sight k) (log_sight l)
  -- and it was told
  pub tells : TellsRun k l

-- The open bundle is persisted, the last number announced, and all that waits reproduced.
pub record CheckpointsRun {M : Type 0} {ghosts : Ghosts M} (k l : RunLog M ghosts) : Type 0 where
  -- by just the calls for that
  pub calls : Makes (CheckpointedBy (log_parts k) (log_last k) (log_parts l)) (log_sight k) (log_sight l)
  -- and it was told
  pub tells : TellsRun k l
  -- the home has all writes
  pub reproduced : log_reproduced l ≡ log_last k
  -- it is the last array
  pub home : HomeIsLast k (log_sight k) (log_sight l)
  -- and every image recovers to it
  pub ends : EndsAtLast k (log_sight k) (log_sight l)
