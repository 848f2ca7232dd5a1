-- What transactions may run over, and what runs then.
use Rattle.std.specs.Prelude.{◌≡◌, ℕ, ◌*◌, false, IsTrue, List, length}
use Rattle.std.specs.List.{Contains}
use Rattle.dude_base.specs.declared.limits.TheConstants.{PAGE}
use Rattle.dude_base.specs.declared.run.Run.{Run}
use Rattle.pmem_trait.specs.Sights.{Sight, state_now}
use Rattle.pmem_trait.specs.declared.medium.Medium.{Ghosts}
use Rattle.redo_record.specs.Waiting.{Waiting}
use Rattle.back_store.specs.declared.back.Back.{Back}
use Rattle.back_store.specs.Back.{home_now, waiting_now}
use Rattle.back_store.specs.BackView.{sight_of, state_of}
use Rattle.back_store.specs.Images.{HoldsStore}
use Rattle.core_events.specs.Setups.{Setup, IsSetup}
use Rattle.core_table.specs.Layout.{TableSight}
use Rattle.stm_transactions.specs.Opening.{IsFirstPass}
use Rattle.stm_transactions.specs.Passes.{PassSight}
use Rattle.stm_slots.specs.Beside.{Beside}
use Rattle.stm_slots.specs.Opening.{setup_of}
use Rattle.stm_slots.specs.declared.opening.Opening.{Opening}

-- The back isn't dead, and nothing waits in it; all up to this number is durable and in its home, which has these words; and its medium is as
-- such a back left it
pub record IsAtRest {M : Type 0} {ghosts : Ghosts M} (back : Back M ghosts) (words : List ℕ) (number : ℕ) : Type 0 where
  pub alive : (state_of back).dead ≡ false
  pub none : (w : Waiting) → Contains (waiting_now (state_of back)) w → ⊥
  pub durable : (state_of back).log.durable ≡ number
  pub reproduced : (state_of back).log.reproduced ≡ number
  pub size : length words ≡ (state_of back).log.sizes.pages * PAGE
  pub home : IsTrue (sight_of back).is_visible → home_now (state_of back).log.sizes (sight_of back) ≡ words
  pub keeps : HoldsStore (length (state_now (sight_of back)).told) (state_of back) (sight_of back)

-- the terms of a run with so many threads, over so many pages with these words at this number
abbrev pub terms_of : List ℕ → ℕ → ℕ → Run → ℕ → Setup
terms_of words pages number run threads = record { threads = threads; locks = run.locks; pages = pages; frames = run.frames; boxes = run.boxes; opening = words; first = number; is_told = false; may_fail = false }

-- A table of these terms was made over the back, and its first pass
pub record RunsOver {M : Type 0} {ghosts : Ghosts M} (sight : M → Sight) (terms : Setup) (back : Back M ghosts) (t : TableSight (Opening M ghosts)) (p : PassSight Beside) : Type 0 where
  -- its key has the back as it was, and the terms
  pub back_is : t.key.back.value ≡ back
  pub terms_are : t.key.terms ≡ terms
  pub setup : t.setup ≡ setup_of sight t.key
  pub within : IsSetup t.setup
  pub pass : IsFirstPass t p

-- a table over the back with these words at this number was made, for a run with so many threads, and its first pass
abbrev pub IsStarted : {M : Type 0} {ghosts : Ghosts M} → (M → Sight) → Back M ghosts → List ℕ → ℕ → Run → ℕ → TableSight (Opening M ghosts) → PassSight Beside → Type 0
IsStarted sight back words number run threads t p = RunsOver sight (terms_of words (state_of back).log.sizes.pages number run threads) back t p
