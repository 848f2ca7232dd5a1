-- What a scan knows on its way through the cells.
use Rattle.std.specs.Prelude.{◌≡◌, ◌⊎◌, ℕ, ◌+◌, ◌*◌, ◌%◌, ◌<◌, ◌≤◌, List, All, IsErrOf, Option, Some, None, MatchOption, Result, slice_index}
use Rattle.std.specs.Option.{option_or}
use Rattle.std.specs.Ordering.{nat_cmp}
use Rattle.std.specs.BTreeMap.{btree_map_len, get, Updates, values}
use Rattle.dude_base.specs.declared.limits.TheConstants.{LINE, MAX_BUNDLE_WRITES, MAX_WRITES, PAGE, VERSION_ONE}
use Rattle.dude_base.specs.declared.sizes.Sizes.{Sizes}
use Rattle.dude_base.specs.Records.{RedoBundle, Covers}
use Rattle.dude_base.specs.Image.{Cell, cell_at}
use Rattle.pmem_trait.specs.Sights.{Sight}
use Rattle.pmem_trait.specs.Reads.{ContentHas}
use Rattle.redo_record.specs.Cells.{line_of}
use Rattle.redo_record.specs.Record.{cells_for, count_of, record_of, FitsVersion}
use Rattle.redo_record.specs.Encoding.{word_in_slice, IsRecordSlice}
use Rattle.redo_record.specs.Images.{bundle_at, version_of, word_in_image, IsComplete, IsNewHead, IsSound}
use Rattle.redo_record.specs.Damage.{IsDamagedAt, IsDuplicateHead, IsLeastLine, IsTorn}
use Rattle.log_ring.specs.declared.head.Head.{Head}
use Rattle.log_ring.specs.declared.scan_fault.ScanFault.{ScanFault}
use Rattle.log_ring.specs.declared.scan_fault.ScanFault.TheVariants.{Damaged}
use Rattle.log_ring.specs.declared.scan_state.ScanState.{ScanState}
use Rattle.log_ring.specs.Heads.{head_at, numbers_of}
use Rattle.log_ring.specs.Scan.{AreHeads, HoldsCells}

-- The slice of cells is just that of a bundle of home words that a ring has room for, and gives it.
pub record HoldsHome (s : Sizes) (words : List ℕ) : Type 0 where
  pub slice : IsRecordSlice words
  pub room : cells_for (count_of (word_in_slice words)) ≤ s.cells
  pub home : All (λ w. w.at < s.pages * PAGE) (record_of (word_in_slice words)).writes

-- the bundle that these words hold, all of whose writes are of home words; or none, where they hold no such bundle
abbrev pub IsHomeRecord : Sizes → List ℕ → Option RedoBundle → Type 0
IsHomeRecord s words None = ¬ HoldsHome s words
IsHomeRecord s words (Some r) = HoldsHome s words × (r ≡ record_of (word_in_slice words))

-- the bundle of the cells from this one on, where it is complete by the rules of this version
abbrev pub IsRecordAt : Sizes → ℕ → List ℕ → Cell → Option RedoBundle → Type 0
IsRecordAt s version image head None = IsComplete s image head → FitsVersion version (word_in_image s image head) → ⊥
IsRecordAt s version image head (Some r) = IsComplete s image head × FitsVersion version (word_in_image s image head) × (bundle_at s image head ≡ r)

-- the head in this cell, where it is one with a number over this one: all its numbers are over it
abbrev pub IsSeen : Sizes → ℕ → List ℕ → Cell → Option Head → Type 0
IsSeen s above image cell None = ¬ IsNewHead s above image cell
IsSeen s above image cell (Some h) = IsNewHead s above image cell × IsSound s above image cell × (head_at s image cell ≡ h)

-- a head that is kept covers a number of this one
abbrev pub MeetsKept : ScanState → Head → Type 0
MeetsKept found h = (n : ℕ) × (g : Head) × (number : ℕ) × (get nat_cmp found.heads n ≡ Some g) × Covers (numbers_of g) number × Covers (numbers_of h) number

-- no head that is kept covers a number that this one covers
abbrev pub MissesKept : ScanState → Head → Type 0
MissesKept found h = (n : ℕ) (g : Head) (number : ℕ) → get nat_cmp found.heads n ≡ Some g → Covers (numbers_of g) number → Covers (numbers_of h) number → ⊥

-- Heads are kept by their last numbers, and no two of them cover one number.
pub record AreKept (found : ScanState) : Type 0 where
  pub keyed : (n : ℕ) (h : Head) → get nat_cmp found.heads n ≡ Some h → h.last ≡ n
  pub apart : (n m : ℕ) (h g : Head) (number : ℕ) → get nat_cmp found.heads n ≡ Some h → get nat_cmp found.heads m ≡ Some g
      → Covers (numbers_of h) number → Covers (numbers_of g) number → n ≡ m

-- a head that stands at this line: one that is kept covers a number of it, and the line is that of a duplicate head; or it
-- is kept too
abbrev pub TakesHead : ℕ → Head → ScanState → ScanState → Type 0
TakesHead line h old new =
    (MeetsKept old h × (new.heads ≡ old.heads) × (new.duplicate ≡ option_or old.duplicate (Some line)))
    ⊎ ((AreKept old → MissesKept old h) × Updates nat_cmp old.heads new.heads h.last (Some h) × (new.duplicate ≡ old.duplicate))

-- What the cells at lower lines than this one have: each head has its complete record, of numbers over the given one; what
-- is kept are such heads, and all of them where no head is a duplicate; else the first line of one that is.
pub record KnowsBelow (s : Sizes) (above : ℕ) (image : List ℕ) (line : ℕ) (found : ScanState) : Type 0 where
  pub complete : (cell : Cell) → line_of s cell < line → IsNewHead s above image cell → IsSound s above image cell
  pub held : found.duplicate ≡ None → (cell : Cell) → line_of s cell < line → IsNewHead s above image cell
      → get nat_cmp found.heads (bundle_at s image cell).last ≡ Some (head_at s image cell)
  pub source : (n : ℕ) (h : Head) → get nat_cmp found.heads n ≡ Some h
      → (cell : Cell) × (line_of s cell < line) × IsNewHead s above image cell × (head_at s image cell ≡ h) × (h.last ≡ n)
  pub duplicate : MatchOption found.duplicate
      ((cell : Cell) → line_of s cell < line → ¬ IsDuplicateHead s above image cell)
      (λ l. IsLeastLine s (IsDuplicateHead s above image) l)

-- the count of writes in this word 1 of a head, no more than a bundle has, or than a record of version 1
abbrev pub IsCountIn : ℕ → ℕ → ℕ → Type 0
IsCountIn version word count = (count ≡ word % 256) × (count ≤ MAX_BUNDLE_WRITES) × (version ≡ VERSION_ONE → word ≤ MAX_WRITES)

-- word 1 of a head counts more writes than a record of this version has
abbrev pub CountsTooMany : ℕ → ℕ → Type 0
CountsTooMany version word = word % 256 ≤ MAX_BUNDLE_WRITES → (version ≡ VERSION_ONE → word ≤ MAX_WRITES) → ⊥

-- the words are those of so many cells from a slot on, in the content where it is visible
abbrev pub AreWordsOf : Sizes → ℕ → ℕ → ℕ → Sight → List ℕ → Type 0
AreWordsOf s ring slot cells m words = ContentHas (λ content.
    (k j : ℕ) → k < cells → j < LINE → slice_index words (LINE * k + j) ≡ word_in_image s content (cell_at ring slot) k j) m

-- the bundle whose head stands in this slot of the content, where it is visible
abbrev pub IsRecordOf : Sizes → ℕ → ℕ → ℕ → Sight → Option RedoBundle → Type 0
IsRecordOf s version ring slot m found = ContentHas (λ content. IsRecordAt s version content (cell_at ring slot) found) m

-- at most one head more was found
abbrev pub HoldsOneMore : ScanState → ScanState → Type 0
HoldsOneMore old new = btree_map_len new.heads ≤ btree_map_len old.heads + 1

-- the heads in the order of their numbers, where there is no duplicate
abbrev pub AreAllHeads : ScanState → List Head → Type 0
AreAllHeads found heads = (heads ≡ values found.heads) × (found.duplicate ≡ None)

-- the content, where it is visible and of this version, has this
abbrev pub VersionHas : ℕ → (List ℕ → Type 0) → Sight → Type 0
VersionHas version P m = ContentHas (λ content. version_of content ≡ version → P content) m

-- the log is undamaged and has just these heads over this number, where the content is visible and of this version
abbrev pub HasHeads : Sizes → ℕ → ℕ → Sight → List Head → Type 0
HasHeads s version above m heads = VersionHas version (λ content. AreHeads s above content heads) m

-- at Damaged it is damaged, and this line is the one to name
abbrev pub NamesInVersion : {X : Type 0} → Sizes → ℕ → ℕ → Result X ScanFault → Sight → Type 0
NamesInVersion s version above result m =
    (line : ℕ) → IsErrOf result (Damaged line) → VersionHas version (λ content. IsDamagedAt s above content line) m

-- the line at which a ring of so many rings before begins
abbrev pub ring_line : Sizes → ℕ → ℕ
ring_line s ring = 2 + ring * s.cells

-- one ring more was looked at, and no more heads than cells were found
abbrev pub HoldsRing : Sizes → ℕ → ScanState → ScanState → Type 0
HoldsRing s ring old new = HoldsCells s (ring * s.cells) old → HoldsCells s ((ring + 1) * s.cells) new

-- what is known of the cells of the rings before is known of this ring's too
abbrev pub KnowsRing : Sizes → ℕ → ℕ → ℕ → ScanState → ScanState → Sight → Type 0
KnowsRing s version above ring old new m = VersionHas version (λ content.
    KnowsBelow s above content (ring_line s ring) old → KnowsBelow s above content (ring_line s (ring + 1)) new) m

-- at Damaged the least line of a torn head is named, where none is in the rings before
abbrev pub NamesTorn : {X : Type 0} → Sizes → ℕ → ℕ → ℕ → ScanState → Result X ScanFault → Sight → Type 0
NamesTorn s version above ring old result m = (line : ℕ) → IsErrOf result (Damaged line) → VersionHas version (λ content.
    KnowsBelow s above content (ring_line s ring) old → IsLeastLine s (IsTorn s above content) line) m

-- what is seen in this cell
abbrev pub SeesHead : Sizes → ℕ → ℕ → ℕ → ℕ → Sight → Option Head → Type 0
SeesHead s version above ring slot m found = VersionHas version (λ content. IsSeen s above content (cell_at ring slot) found) m

-- at Damaged the head in this cell is torn, and its line is named
abbrev pub IsNamedTorn : {X : Type 0} → Sizes → ℕ → ℕ → Cell → Result X ScanFault → Sight → Type 0
IsNamedTorn s version above cell result m = (line : ℕ) → IsErrOf result (Damaged line)
    → (line ≡ line_of s cell) × VersionHas version (λ content. IsTorn s above content cell) m
