-- What a run on one thread leaves of the bundles that it keeps.
use Rattle.std.specs.Prelude.{◌≡◌, ℕ, IsTrue, List, Result, Ok, Err}
use Rattle.pmem_trait.specs.declared.medium.Medium.{Ghosts}
use Rattle.pmem_trait.specs.Words.{EveryImage}
use Rattle.pmem_trait.specs.Sights.{Sight, state_now}
use Rattle.word_space.specs.Flats.{words_of}
use Rattle.tatp_model.specs.declared.done.Done.{Done}
use Rattle.dude_recover.specs.Opened.{HoldsOpened}
use Rattle.log_numbered.specs.Arrays.{RunArrays}
use Rattle.log_numbered.specs.KeptBundles.{LeadThrough, are_kept, kept_bundles}
use Rattle.log_numbered.specs.Keeping.{KeepsAll}
use Rattle.log_numbered.specs.RunLog.{log_end}
use Rattle.dude_engine.specs.declared.run.Run.{Run}
use Rattle.dude_engine.specs.declared.run_fault.RunFault.{RunFault}
use Rattle.dude_engine.specs.declared.run_fault.RunFault.TheVariants.{Device, NoMemory}
use Rattle.dude_engine.specs.Opening.{Opening}
use Rattle.dude_engine.specs.Shipping.{RecoversOver}
use Rattle.dude_engine.specs.Running.{HasArrays, Runs, run_sight}

-- The bundles kept are all that the run persisted; with its open bundle they lead along its arrays, from the opening's.
pub record KeepsRun {M : Type 0} {ghosts : Ghosts M} (opening : Opening) (words : List ℕ) (run : Run M ghosts) : Type 0 where
  pub arrays : RunArrays
  pub has : HasArrays opening run.done.items (words_of run.words) arrays
  pub opening_is : arrays.opening ≡ words
  pub keeps : KeepsAll arrays (kept_bundles run.packets) run.log

-- where the medium was as the opening left it, every image recovers at the end to a number from this one on
abbrev pub EndsOver : ℕ → Opening → List ℕ → List Done → Sight → Sight → Type 0
EndsOver least opening words performed s t = (before : ℕ) → HoldsOpened before opening.sizes opening.number words s → IsTrue s.is_visible
    → EveryImage t.len (λ told image. RecoversOver least opening performed image) (state_now t)

-- What the last call on the medium leaves where it failed: the bundles kept lead along arrays of the run, from the opening's,
-- as far as was persisted; and every image recovers to a number from there on.
pub record KeepsFailed {M : Type 0} {ghosts : Ghosts M} (opening : Opening) (words : List ℕ) (run : Run M ghosts) (s t : Sight) : Type 0 where
  pub arrays : RunArrays
  pub current : List ℕ
  pub has : HasArrays opening run.done.items current arrays
  pub opening_is : arrays.opening ≡ words
  pub through : LeadThrough opening.sizes arrays (log_end run.log) (kept_bundles run.packets)
  pub ends : EndsOver (log_end run.log) opening words run.done.items s t

-- by an answer
abbrev pub KeepsBy : {M : Type 0} {ghosts : Ghosts M} → Result (Unit {0}) RunFault → Opening → List ℕ → Run M ghosts → Sight → Sight → Type 0
KeepsBy (Ok done) opening words run s t = KeepsRun opening words run
KeepsBy (Err NoMemory) opening words run s t = KeepsRun opening words run
KeepsBy (Err Device) opening words run s t = KeepsFailed opening words run s t

-- What is left of the bundles kept when some requests were served.
pub record LeavesKept {M : Type 0} {ghosts : Ghosts M} (result : Result (Unit {0}) RunFault) (old new : Run M ghosts) : Type 0 where
  -- they are kept or not, as before
  pub kept : are_kept new.packets ≡ are_kept old.packets
  -- where they are, they are all that was persisted, from each opening on that the old run began at
  pub all : IsTrue (are_kept old.packets) → (opening : Opening) (words : List ℕ) (s : Sight) → Runs opening words old s (run_sight old) → KeepsRun opening words old
      → KeepsBy result opening words new s (run_sight new)
