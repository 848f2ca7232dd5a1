-- What a scan of the rings of an image gives.
use Rattle.std.specs.Prelude.{◌≡◌, ℕ, ◌+◌, ◌*◌, ◌<◌, ◌≤◌, true, false, List, All, AllPairs, IsErrOf, map, Some, Result, Ok, Err}
use Rattle.std.specs.List.{Contains}
use Rattle.std.specs.Ordering.{nat_cmp}
use Rattle.std.specs.BTreeMap.{get, btree_map_len}
use Rattle.dude_base.specs.declared.limits.TheConstants.{PAGE, MAX_RINGS, MAX_CELLS}
use Rattle.dude_base.specs.declared.sizes.Sizes.{Sizes}
use Rattle.dude_base.specs.Records.{RedoBundle, HasNumbers, first_of}
use Rattle.pmem_trait.specs.Sights.{Sight}
use Rattle.pmem_trait.specs.Reads.{ContentHas, OnlyReads}
use Rattle.redo_record.specs.Cells.{IsCell}
use Rattle.redo_record.specs.Images.{IsComplete, IsNewHead}
use Rattle.redo_record.specs.Damage.{IsDamagedAt, IsUndamaged}
use Rattle.redo_record.specs.Recovery.{HasRecord}
use Rattle.log_ring.specs.declared.head.Head.{Head}
use Rattle.log_ring.specs.declared.scan_state.ScanState.{ScanState}
use Rattle.log_ring.specs.declared.scan_fault.ScanFault.{ScanFault}
use Rattle.log_ring.specs.declared.scan_fault.ScanFault.TheVariants.{Damaged, Device, NoMemory}
use Rattle.log_ring.specs.Heads.{bundle_of_head, cell_of}

-- The log is undamaged, and these are the records of all its heads with numbers over this one, in rising order.
pub record AreScanned (s : Sizes) (above : ℕ) (image : List ℕ) (found : List RedoBundle) : Type 0 where
  pub undamaged : IsUndamaged s above image
  pub rising : AllPairs (λ r t. r.last < first_of t) found
  pub logged : All (HasRecord s above image) found
  pub every : (r : RedoBundle) → HasRecord s above image r → Contains found r

-- The log is undamaged, and these are all its heads with numbers over this one, in rising order of their numbers.
pub record AreHeads (s : Sizes) (above : ℕ) (image : List ℕ) (heads : List Head) : Type 0 where
  pub new : All (λ h. IsNewHead s above image (cell_of h)) heads
  pub scanned : AreScanned s above image (map (bundle_of_head s image) heads)

-- the content of the medium, where it is visible, is undamaged and has just these heads over this number
abbrev pub FindsHeads : Sizes → ℕ → Sight → List Head → Type 0
FindsHeads s above m heads = ContentHas (λ content. AreHeads s above content heads) m

-- the content, where it is visible, is undamaged and has just these bundles over this number
abbrev pub FindsBundles : Sizes → ℕ → Sight → List RedoBundle → Type 0
FindsBundles s above m found = ContentHas (λ content. AreScanned s above content found) m

-- at Damaged the content, where it is visible, is damaged, and this line is the one to name
abbrev pub NamesDamage : {X : Type 0} → Sizes → ℕ → Result X ScanFault → Sight → Type 0
NamesDamage s above result m = (line : ℕ) → IsErrOf result (Damaged line) → ContentHas (λ content. IsDamagedAt s above content line) m

-- the bundle is that of this head in the content, where it is visible
abbrev pub IsBundleOf : Sizes → Head → Sight → RedoBundle → Type 0
IsBundleOf s h m b = ContentHas (λ content. b ≡ bundle_of_head s content h) m

-- at Damaged the content, where it is visible, has no complete record for the head
abbrev pub LacksBundle : {X : Type 0} → Sizes → Head → Result X ScanFault → Sight → Type 0
LacksBundle s h result m = (line : ℕ) → IsErrOf result (Damaged line) → ContentHas (λ content. ¬ IsComplete s content (cell_of h)) m

-- the bundles are those of these heads in the content, where it is visible
abbrev pub AreBundles : Sizes → List Head → Sight → List RedoBundle → Type 0
AreBundles s heads m bundles = ContentHas (λ content. bundles ≡ map (bundle_of_head s content) heads) m

-- at Damaged the content, where it is visible, has no complete record for one of the heads
abbrev pub LacksBundles : {X : Type 0} → Sizes → List Head → Result X ScanFault → Sight → Type 0
LacksBundles s heads result m =
    (line : ℕ) → IsErrOf result (Damaged line) → ContentHas (λ content. All (λ h. IsComplete s content (cell_of h)) heads → ⊥) m

-- Reads alone were made. The last one failed at Device, and none otherwise.
abbrev pub ReadsMade : {X : Type 0} → Result X ScanFault → Sight → Sight → Type 0
ReadsMade (Ok found) s t = OnlyReads true s t
ReadsMade (Err (Damaged line)) s t = OnlyReads true s t
ReadsMade (Err NoMemory) s t = OnlyReads true s t
ReadsMade (Err Device) s t = OnlyReads false s t

-- The bundle can be replayed, whatever else it is: its numbers are in their limits, and its writes are of home words.
pub record IsReplayable (s : Sizes) (r : RedoBundle) : Type 0 where
  pub number : HasNumbers r
  pub home : All (λ w. w.at < s.pages * PAGE) r.writes

-- At most so many heads were found, each in a cell of the image.
pub record HoldsCells (s : Sizes) (most : ℕ) (found : ScanState) : Type 0 where
  pub inside : (n : ℕ) (h : Head) → get nat_cmp found.heads n ≡ Some h → IsCell s (cell_of h)
  pub few : btree_map_len found.heads ≤ most

-- how many reads there are at most: for the record of a head, a cell, a ring, the heads of all rings, and their records too
abbrev pub record_reads : ℕ
record_reads = 257

-- the most reads that looking at one cell takes, with those of its record
abbrev pub cell_reads : ℕ
cell_reads = 258

-- the most reads that the scan of one ring takes
abbrev pub ring_reads : ℕ
ring_reads = cell_reads * MAX_CELLS

-- the most reads that finding the heads of all rings takes
abbrev pub head_reads : ℕ
head_reads = 1 + ring_reads * MAX_RINGS

-- the most reads that the scan of all rings takes, which reads the record of each head twice
abbrev pub scan_reads : ℕ
scan_reads = head_reads + record_reads * (MAX_RINGS * MAX_CELLS)
