-- Bundles that are made of records in boxes.
use Rattle.std.specs.Prelude.{ℕ, ◌<◌, ◌≤◌, List, [], ◌∷◌, slice_index, slice_index_or}
use Rattle.dude_base.specs.Records.{RedoRecord, RedoBundle, bundle_of, with_next}
use Rattle.dude_base.specs.Joins.{CanJoin}
use Rattle.redo_record.specs.LogState.{LogState}
use Rattle.core_events.specs.Setups.{Setup, box_of}
use Rattle.core_events.specs.Conditions.{no_record}
use Rattle.core_medium.specs.KeptLog.{IsOnMedium}

-- the record in a box of a thread
abbrev pub boxed : Setup → List RedoRecord → ℕ → ℕ → RedoRecord
boxed z records t j = slice_index_or records (box_of z t j) no_record

-- This box of a thread is full, with a number that isn't on the medium
pub record IsUnpersisted (z : Setup) (boxes : List ℕ) (l : LogState) (t j : ℕ) : Type 0 where
  pub thread : t < z.threads
  pub place : j < z.boxes
  pub full : 0 < slice_index boxes (box_of z t j)
  pub absent : IsOnMedium l (slice_index boxes (box_of z t j)) → ⊥

-- a bundle, with the records in these boxes behind it; a box is a thread and a place
abbrev pub joined : Setup → List RedoRecord → RedoBundle → List (ℕ × ℕ) → RedoBundle
joined z records b [] = b
joined z records b (p ∷ ps) = joined z records (with_next b (boxed z records p.0 p.1)) ps

-- the numbers in these boxes aren't on the medium, and the bundle takes their records, one behind another
abbrev pub AllJoin : Setup → List ℕ → List RedoRecord → LogState → RedoBundle → List (ℕ × ℕ) → Type 0
AllJoin z boxes records l b [] = Unit {0}
AllJoin z boxes records l b (p ∷ ps) =
    IsUnpersisted z boxes l p.0 p.1 × CanJoin b (boxed z records p.0 p.1) × AllJoin z boxes records l (with_next b (boxed z records p.0 p.1)) ps

-- the bundle of the record in a box, and of those in more boxes behind it
abbrev pub bundle_in : Setup → List RedoRecord → ℕ → ℕ → List (ℕ × ℕ) → RedoBundle
bundle_in z records t j more = joined z records (bundle_of (boxed z records t j)) more

-- A bundle may be made of the record in this box, whose number is the least in the boxes of its thread, and of those in more boxes
pub record MayGather (z : Setup) (boxes : List ℕ) (records : List RedoRecord) (l : LogState) (t j : ℕ) (more : List (ℕ × ℕ)) : Type 0 where
  pub first : IsUnpersisted z boxes l t j
  pub least : (k : ℕ) → k < z.boxes → 0 < slice_index boxes (box_of z t k) → slice_index boxes (box_of z t j) ≤ slice_index boxes (box_of z t k)
  pub join : AllJoin z boxes records l (bundle_of (boxed z records t j)) more
