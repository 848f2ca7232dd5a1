-- What contracts see of the bundles that a log kept, and how they lead from array to array.
use Rattle.std.specs.Prelude.{◌≡◌, ℕ, ◌*◌, ◌<◌, ◌≤◌, All, Bool, IsTrue, List, [], ◌∷◌, ◌++◌, if◌then◌else◌, length, take, vec_capacity, vec_len}
use Rattle.dude_base.specs.declared.limits.TheConstants.{PAGE}
use Rattle.dude_base.specs.declared.sizes.Sizes.{Sizes}
use Rattle.dude_base.specs.Records.{HasNumbers, RedoBundle}
use Rattle.redo_record.specs.Record.{cells_for}
use Rattle.redo_record.specs.Recovery.{AreConsecutive, overwritten_by_all}
use Rattle.log_numbered.specs.declared.kept_bundles.KeptBundles.{KeptBundles}
use Rattle.log_numbered.specs.Arrays.{RunArrays, array_at, last_number}

-- whether bundles are kept
abbrev pub are_kept : KeptBundles → Bool
are_kept k = k.kept

-- the bundles kept, in order
abbrev pub kept_bundles : KeptBundles → List RedoBundle
kept_bundles k = k.bundles.items

-- there is room for one bundle more, where bundles are kept
abbrev pub HasRoomToKeep : KeptBundles → Type 0
HasRoomToKeep k = IsTrue (are_kept k) → vec_len k.bundles < vec_capacity k.bundles

-- the bundles kept and one more, where bundles are kept
abbrev pub bundles_with : RedoBundle → KeptBundles → List RedoBundle
bundles_with b k = if are_kept k then kept_bundles k ++ b ∷ [] else kept_bundles k

-- The bundle may stand in the log of an image of these sizes: its numbers are ones that transactions may have, it writes home
-- words, and no ring is too short for it.
pub record IsPacket (s : Sizes) (b : RedoBundle) : Type 0 where
  pub numbers : HasNumbers b
  pub home : All (λ w. w.at < s.pages * PAGE) b.writes
  pub room : cells_for (length b.writes) ≤ s.cells

-- The bundles lead from the first of these arrays to the one at this number, one after another, and those up to each of their
-- ends to the one there. Each may stand in a log of these sizes.
pub record LeadThrough (s : Sizes) (a : RunArrays) (end : ℕ) (bundles : List RedoBundle) : Type 0 where
  pub lead : AreConsecutive a.first bundles end
  pub upto : end ≤ last_number a
  pub arrays : (k number : ℕ) → AreConsecutive a.first (take k bundles) number → overwritten_by_all (take k bundles) a.opening ≡ array_at a number
  pub packets : All (IsPacket s) bundles
