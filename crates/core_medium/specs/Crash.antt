-- What a crash of the machine leaves.
use Rattle.std.specs.Prelude.{◌≡◌, ℕ, ◌*◌, ◌<◌, ◌≤◌, ◌⊎◌, List, [], ◌∷◌, ◌++◌, length, slice_index}
use Rattle.dude_base.specs.declared.limits.TheConstants.{PAGE}
use Rattle.pmem_trait.specs.declared.call.Call.{Call}
use Rattle.pmem_trait.specs.Words.{IsIn}
use Rattle.redo_record.specs.Images.{sizes_of}
use Rattle.redo_record.specs.Recovery.{Recovers}
use Rattle.redo_record.specs.Waiting.{Waiting, IsEnd}
use Rattle.core_events.specs.Setups.{Setup}
use Rattle.core_events.specs.Entries.{value_at, all_entries}
use Rattle.core_events.specs.KeptNumbers.{numbers_of}
use Rattle.core_medium.specs.KeptLog.{IsPosted}
use Rattle.core_medium.specs.BoxBundles.{bundle_in}
use Rattle.core_medium.specs.BackCalls.{persisting, MayPersist, calls_of, waiting_as}
use Rattle.core_medium.specs.Machines.{Machine}

-- the bundle of records in these boxes is being persisted: the calls made are the first ones of its list
pub record IsPersisting (z : Setup) (m : Machine) (t j : ℕ) (more : List (ℕ × ℕ)) : Type 0 where
  pub made : 0 < length m.store.calls
  pub may : MayPersist z m.core.boxes m.core.records m.store.log t j more
  pub later : List Call
  pub whole : calls_of z m.core.records m.store.log.sizes m.store.next (persisting t j more) ≡ m.store.calls ++ later

-- the bundles that wait, with that of these boxes behind them
abbrev pub waiting_with : Setup → Machine → ℕ → ℕ → List (ℕ × ℕ) → List Waiting
waiting_with z m t j more = m.store.log.waiting ++ waiting_as t (bundle_in z m.core.records t j more) ∷ []

-- bundles lead from the settled mark to this number: waiting ones, or such with one that is being persisted
abbrev pub IsEndNow : Setup → Machine → ℕ → Type 0
IsEndNow z m n =
    IsEnd m.store.log.waiting m.store.log.reproduced n
    ⊎ ((t : ℕ) × (j : ℕ) × (more : List (ℕ × ℕ)) × IsPersisting z m t j more × IsEnd (waiting_with z m t j more) m.store.log.reproduced n)

-- The image recovers to a number from the opening one on, which is an end, and to the values of all words at it; each number up to it is
-- posted; and no greater number was told
pub record RecoversToValues (z : Setup) (m : Machine) (told image : List ℕ) : Type 0 where
  pub number : ℕ
  pub array : List ℕ
  pub recovered : Recovers image number array
  pub same_sizes : sizes_of image ≡ m.store.log.sizes
  pub size : length array ≡ z.pages * PAGE
  pub values : (i : ℕ) → i < z.pages * PAGE → slice_index array i ≡ value_at z.opening (all_entries m.core.views) number i
  pub is_end : IsEndNow z m number
  pub from : z.first ≤ number
  pub posted : (n : ℕ) → z.first < n → n ≤ number → IsPosted m.core.boxes (numbers_of m.core.persisted) n
  pub least : (x : ℕ) → IsIn x told → x ≤ number
