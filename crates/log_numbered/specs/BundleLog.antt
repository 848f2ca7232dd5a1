-- What contracts see of the persisted part of a log, and what its calls leave.
use Rattle.std.specs.Prelude.{◌≡◌, ℕ, ◌+◌, ◌*◌, ◌<◌, ◌≤◌, All, Bool, IsTrue, [], ◌∷◌, ◌++◌, false, true}
use Rattle.dude_base.specs.declared.limits.TheConstants.{MAX_NUMBER, PAGE}
use Rattle.dude_base.specs.Records.{RedoBundle, first_of}
use Rattle.pmem_trait.specs.declared.medium.Medium.{Ghosts}
use Rattle.pmem_trait.specs.Sights.{CallsMade, Sight, state_now}
use Rattle.redo_record.specs.BackCalls.{announce_calls}
use Rattle.back_store.specs.Answers.{announced, reproduced}
use Rattle.back_store.specs.Back.{BackState, IsRingFull}
use Rattle.back_store.specs.BackView.{medium_of, state_of}
use Rattle.log_numbered.specs.declared.bundle_log.BundleLog.{BundleLog}
use Rattle.log_numbered.specs.Arrays.{LeadsToLast}
use Rattle.log_numbered.specs.Backs.{Any, CarriesOn, HomeIsAt, LogGoesOn, RecoversAlong, WasFull}
use Rattle.back_store.specs.Operations.{BroughtHomeBy, Makes, PersistedBy}
use Rattle.log_numbered.specs.LogCalls.{BundlePersistedBy, SettledBy, settled}

-- the medium of the persisted part of a log
abbrev pub kept_medium : {M : Type 0} {ghosts : Ghosts M} → BundleLog M ghosts → M
kept_medium l = medium_of l.back

-- what clauses see of the medium of the persisted part of a log
abbrev pub kept_sight : {M : Type 0} {ghosts : Ghosts M} → BundleLog M ghosts → Sight
kept_sight {M} {ghosts} l = ghosts.sight (kept_medium l)

-- the back of the persisted part of a log, without its medium
abbrev pub kept_back : {M : Type 0} {ghosts : Ghosts M} → BundleLog M ghosts → BackState
kept_back l = state_of l.back

-- nothing was told from one sight to another, where the medium is visible
abbrev pub TellsNone : Sight → Sight → Type 0
TellsNone s t = IsTrue s.is_visible → (state_now t).told ≡ (state_now s).told

-- this number alone was told
abbrev pub TellsOne : ℕ → Sight → Sight → Type 0
TellsOne number s t = IsTrue s.is_visible → (state_now t).told ≡ (state_now s).told ++ number ∷ []

-- what a call leaves of the log, whatever the medium
abbrev pub KeptGoesOn : {M : Type 0} {ghosts : Ghosts M} → Bool → BundleLog M ghosts → BundleLog M ghosts → Type 0
KeptGoesOn ok k l = LogGoesOn ok (kept_back k) (kept_sight k) (kept_back l) (kept_sight l)

-- at each moment every image recovers to a number from the last one persisted on, and to an array of those that the log has
abbrev pub KeptRecovers : {M : Type 0} {ghosts : Ghosts M} → BundleLog M ghosts → BundleLog M ghosts → Type 0
KeptRecovers k l = RecoversAlong Any (kept_back k) k.end (kept_sight k) (kept_sight l)

-- at each moment every image recovers to a number from the last one persisted on, and to an array of those that the log
-- has, where the bundle leads to the last of them
abbrev pub RecoversWith : {M : Type 0} {ghosts : Ghosts M} → RedoBundle → BundleLog M ghosts → BundleLog M ghosts → Type 0
RecoversWith b k l = RecoversAlong (λ a. LeadsToLast a k.end b) (kept_back k) k.end (kept_sight k) (kept_sight l)

-- A bundle may be persisted next, in this ring.
pub record IsNextFor {M : Type 0} {ghosts : Ghosts M} (l : BundleLog M ghosts) (ring : ℕ) (b : RedoBundle) : Type 0 where
  -- there is such a ring
  pub ring_is : ring < (kept_back l).log.sizes.rings
  -- the bundle begins behind the last number persisted
  pub first : first_of b ≡ l.end + 1
  -- its numbers are in their limit
  pub small : b.last ≤ MAX_NUMBER
  -- each write is of a home word
  pub home : All (λ w. w.at < (kept_back l).log.sizes.pages * PAGE) b.writes

-- The bundle was put in this ring, which had room.
pub record PersistsNext {M : Type 0} {ghosts : Ghosts M} (ring : ℕ) (b : RedoBundle) (k l : BundleLog M ghosts) : Type 0 where
  -- its last number is the last one persisted
  pub end : l.end ≡ b.last
  -- just the calls for that were made
  pub calls : Makes (PersistedBy ring b (kept_back k) (kept_back l)) (kept_sight k) (kept_sight l)
  -- the log has the arrays up to the one that the bundle leads to
  pub carries : CarriesOn (λ a. LeadsToLast a k.end b) (kept_back k) k.end (kept_sight k) (kept_back l) l.end (kept_sight l)

-- where the ring had room, the bundle was persisted in it
abbrev pub PersistsIf : {M : Type 0} {ghosts : Ghosts M} → Bool → ℕ → RedoBundle → BundleLog M ghosts → BundleLog M ghosts → Type 0
PersistsIf room ring b k l = IsTrue room → PersistsNext ring b k l

-- where the ring had no room for the bundle, nothing was done
abbrev pub WasFullUnless : {M : Type 0} {ghosts : Ghosts M} → Bool → ℕ → RedoBundle → BundleLog M ghosts → BundleLog M ghosts → Type 0
WasFullUnless room ring b k l = room ≡ false → WasFull ring b (kept_back k) k.end (kept_sight k) (kept_back l) l.end (kept_sight l)

-- The bundle was put in this ring, from which all was brought home before where it had no room.
pub record AppendsNext {M : Type 0} {ghosts : Ghosts M} (ring : ℕ) (b : RedoBundle) (k l : BundleLog M ghosts) : Type 0 where
  -- its last number is the last one persisted
  pub end : l.end ≡ b.last
  -- just the calls for that were made, or for settling and that where the ring was full
  pub calls : Makes (BundlePersistedBy ring b (kept_back k) (kept_back l)) (kept_sight k) (kept_sight l)
  -- where it had room nothing was told
  pub untold : (IsRingFull (kept_back k) ring b → ⊥) → TellsNone (kept_sight k) (kept_sight l)
  -- the log has the arrays up to the one that the bundle leads to
  pub carries : CarriesOn (λ a. LeadsToLast a k.end b) (kept_back k) k.end (kept_sight k) (kept_back l) l.end (kept_sight l)

-- All that waits, which was announced, was brought home.
pub record BringsAllHome {M : Type 0} {ghosts : Ghosts M} (k l : BundleLog M ghosts) : Type 0 where
  -- nothing waits any more
  pub back : kept_back l ≡ reproduced (kept_back k) k.end
  -- just the calls for that were made
  pub calls : Makes (BroughtHomeBy (kept_back k) k.end) (kept_sight k) (kept_sight l)
  -- nothing was told
  pub told : TellsNone (kept_sight k) (kept_sight l)
  -- all is durable, and in the home
  pub durable : (kept_back l).log.durable ≡ k.end
  pub reproduced_is : (kept_back l).log.reproduced ≡ k.end
  -- the log has the arrays that it had
  pub carries : CarriesOn Any (kept_back k) k.end (kept_sight k) (kept_back l) l.end (kept_sight l)
  -- the home is the last of them
  pub home : HomeIsAt (kept_back k) k.end (kept_sight k) (kept_sight l)

-- The last number persisted was announced.
pub record AnnouncesLast {M : Type 0} {ghosts : Ghosts M} (k l : BundleLog M ghosts) : Type 0 where
  -- nothing else changed
  pub back : kept_back l ≡ announced (kept_back k) k.end
  -- just the call for that was made
  pub calls : CallsMade (announce_calls k.end) true (kept_sight k) (kept_sight l)
  -- that number alone was told
  pub told : TellsOne k.end (kept_sight k) (kept_sight l)
  -- it is durable
  pub durable : (kept_back l).log.durable ≡ k.end
  -- the log has the arrays that it had
  pub carries : CarriesOn Any (kept_back k) k.end (kept_sight k) (kept_back l) l.end (kept_sight l)

-- The last number persisted was announced, and all that waits brought home.
pub record MakesCheckpoint {M : Type 0} {ghosts : Ghosts M} (k l : BundleLog M ghosts) : Type 0 where
  -- nothing waits any more
  pub back : kept_back l ≡ settled (kept_back k) k.end
  -- just the calls for that were made
  pub calls : Makes (SettledBy (kept_back k) k.end) (kept_sight k) (kept_sight l)
  -- that number alone was told
  pub told : TellsOne k.end (kept_sight k) (kept_sight l)
  -- all is durable, and in the home
  pub durable : (kept_back l).log.durable ≡ k.end
  pub reproduced_is : (kept_back l).log.reproduced ≡ k.end
  -- the log has the arrays that it had
  pub carries : CarriesOn Any (kept_back k) k.end (kept_sight k) (kept_back l) l.end (kept_sight l)
  -- the home is the last of them
  pub home : HomeIsAt (kept_back k) k.end (kept_sight k) (kept_sight l)
