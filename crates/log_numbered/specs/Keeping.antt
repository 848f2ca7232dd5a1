-- What the calls of a log leave of the bundles that are kept: where they are kept, they are all that was persisted.
use Rattle.std.specs.Prelude.{◌≡◌, ℕ, Bool, IsTrue, List, true, false, Result, IfOk, is_ok}
use Rattle.dude_base.specs.Records.{RedoBundle}
use Rattle.pmem_trait.specs.declared.failed.Failed.{Failed}
use Rattle.pmem_trait.specs.declared.medium.Medium.{Ghosts}
use Rattle.pmem_trait.specs.Words.{EveryImage}
use Rattle.pmem_trait.specs.Sights.{Sight, state_now}
use Rattle.log_numbered.specs.declared.kept_bundles.KeptBundles.{KeptBundles}
use Rattle.log_numbered.specs.declared.run_log.RunLog.{RunLog}
use Rattle.log_numbered.specs.Arrays.{RecoversIn, RunArrays, last_number}
use Rattle.log_numbered.specs.KeptBundles.{LeadThrough, are_kept, kept_bundles}
use Rattle.log_numbered.specs.RunLog.{Follows, IsAlive, OpenLeads, RunGoesOn, RunRecovers, log_end, log_last, log_open, log_sight, log_sizes}

-- Whatever the medium: the bundles lead along these arrays to the last number that the log persisted, and its open bundle from
-- there to the last.
pub record KeepsAll {M : Type 0} {ghosts : Ghosts M} (a : RunArrays) (bundles : List RedoBundle) (l : RunLog M ghosts) : Type 0 where
  pub last : log_last l ≡ last_number a
  pub through : LeadThrough (log_sizes l) a (log_end l) bundles
  pub leads_on : OpenLeads a (log_end l) (log_open l)

-- where the bundles kept were all that was persisted, they are so behind the call, along the arrays that follow; where it
-- failed they lead as far as was persisted
abbrev pub KeepsBy : {M : Type 0} {ghosts : Ghosts M} → Bool → (RunArrays → RunArrays) → RunLog M ghosts → KeptBundles → RunLog M ghosts → KeptBundles → Type 0
KeepsBy true more k old l new = (a : RunArrays) → KeepsAll a (kept_bundles old) k → KeepsAll (more a) (kept_bundles new) l
KeepsBy false more k old l new = (a : RunArrays) → KeepsAll a (kept_bundles old) k → LeadThrough (log_sizes l) (more a) (log_end l) (kept_bundles new)

-- What a call leaves of the bundles kept.
pub record KeepsOn {M : Type 0} {ghosts : Ghosts M} (ok : Bool) (more : RunArrays → RunArrays) (k : RunLog M ghosts) (old : KeptBundles) (l : RunLog M ghosts) (new : KeptBundles) : Type 0 where
  -- they are kept or not, as before
  pub kept : are_kept new ≡ are_kept old
  -- where they are, they are all that was persisted
  pub all : IsTrue (are_kept old) → KeepsBy ok more k old l new

-- at the end every image recovers to a number from the last one on that l persisted, and to an array of those that follow
abbrev pub EndsFrom : {M : Type 0} {ghosts : Ghosts M} → (RunArrays → RunArrays) → RunLog M ghosts → Sight → RunLog M ghosts → Sight → Type 0
EndsFrom more k s l t = (before : ℕ) (a : RunArrays) → Follows before a k s → IsTrue s.is_visible → EveryImage t.len (RecoversIn (log_sizes k) (more a) (log_end l) before) (state_now t)

-- where the call failed every image recovers so
abbrev pub FailsFrom : {M : Type 0} {ghosts : Ghosts M} → Bool → (RunArrays → RunArrays) → RunLog M ghosts → RunLog M ghosts → Type 0
FailsFrom ok more k l = ok ≡ false → EndsFrom more k (log_sight k) l (log_sight l)

-- What a call leaves of the log and of the bundles kept that persists the open bundle, adds no record, and answers the last number.
pub record ClosesRun {M : Type 0} {ghosts : Ghosts M} (result : Result ℕ Failed) (k : RunLog M ghosts) (old : KeptBundles) (l : RunLog M ghosts) (new : KeptBundles) : Type 0 where
  -- the log goes on, alive where the call went well
  pub goes_on : RunGoesOn (is_ok result) k l
  pub alive : is_ok result ≡ true → IsAlive l
  -- the last number is that before
  pub answer : IfOk result (λ number. number ≡ log_last k)
  -- at each moment every image recovers to one of the arrays that the log follows
  pub moments : RunRecovers (λ a. a) k l
  -- the bundles kept are all that was persisted
  pub keeps : KeepsOn (is_ok result) (λ a. a) k old l new
  -- and where the call failed every image recovers to a number from the last one persisted on
  pub ends : FailsFrom (is_ok result) (λ a. a) k l
