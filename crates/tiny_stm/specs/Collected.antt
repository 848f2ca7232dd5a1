-- What is taken out of a table that has ended.
use Rattle.std.specs.Prelude.{◌≡◌, ◌==◌, Bool, ℕ, ◌+◌, ◌*◌, ◌<◌, ◌≤◌, false, IsTrue, List, [], ◌∷◌, ◌++◌, All, length, slice_index, slice_index_or, sum_by, if◌then◌else◌}
use Rattle.std.specs.List.{Contains}
use mathlib.Core.Option.{some}
use lib.ListN.{get_elem?}
use Rattle.dude_base.specs.Records.{RedoRecord}
use Rattle.pmem_trait.specs.declared.medium.Medium.{Ghosts}
use Rattle.core_events.specs.Setups.{cell_of, frame_in, page_of}
use Rattle.stm_slots.specs.declared.home.Home.{Home as TheHome}
use Rattle.stm_slots.specs.declared.slot.Slot.{Slot}
use Rattle.stm_slots.specs.declared.slot.Slot.TheVariants.{Empty, Record, Home}
use Rattle.tiny_stm.specs.declared.posted.Posted.{Posted}

-- ---- records
module _ {M : Type 0} {ghosts : Ghosts M} (slots : List (Slot M ghosts)) where
  -- the slot has this record
  abbrev pub HasIn : ℕ → RedoRecord → Type 0
  HasIn k r = get_elem? slots k ≡ some (Record r)

  -- no slot of a box has what the back's has, and no two have records of one number
  pub record AreOnce (count : ℕ) : Type 0 where
    pub no_home : (k : ℕ) (h : TheHome M ghosts) → k < count → get_elem? slots k ≡ some (Home h) → ⊥
    pub once : (j k : ℕ) (p r : RedoRecord) → j < count → k < count → HasIn j p → HasIn k r → p.number ≡ r.number → j ≡ k

  -- the record stood in a box of the ring, where each has so many; its slot is one of the first
  pub record StoodIn (boxes upto : ℕ) (q : Posted) : Type 0 where
    pub place : ℕ
    pub inside : place < boxes
    pub before : q.ring * boxes + place < upto
    pub is : HasIn (q.ring * boxes + place) q.redo

-- records in rising order of slots, with that of one more slot, of this ring
abbrev pub with_slot : {M : Type 0} {ghosts : Ghosts M} → ℕ → Slot M ghosts → List Posted → List Posted
with_slot ring Empty qs = qs
with_slot ring (Record r) qs = qs ++ (record { ring = ring; redo = r }) ∷ []
with_slot ring (Home h) qs = qs

-- 1 where the record has this number
abbrev pub counts : ℕ → Posted → ℕ
counts n q = if q.redo.number == n then 1 else 0

module _ {M : Type 0} {ghosts : Ghosts M} (before now : List (Slot M ghosts)) (filled : List Bool) where
  -- what the first so many slots had was taken, and no other
  pub record AreTaken (upto : ℕ) : Type 0 where
    pub items : now ≡ before
    pub size : length filled ≡ length before
    pub taken : (k : ℕ) → k < upto → slice_index_or filled k false ≡ false
    pub left : (k : ℕ) → upto ≤ k → k < length before → IsTrue (slice_index_or filled k false)

  -- the records of the first so many slots were taken, each once; each ring has so many boxes
  pub record AreCollected (boxes upto : ℕ) (rest : List Posted) : Type 0 where
    pub slots : AreTaken upto
    pub stood : All (StoodIn before boxes upto) rest
    pub all : (k : ℕ) (r : RedoRecord) → k < upto → HasIn before k r → (q : Posted) × Contains rest q × (q.redo ≡ r)
    pub once : (n : ℕ) → sum_by (counts n) rest ≤ 1
    pub few : length rest ≤ upto

-- ---- pages in frames
-- of the words of a table, those of the page entries and those of the frames begin at these places; the entry of the page of the home word i
abbrev pub entry_at : List ℕ → ℕ → ℕ → ℕ
entry_at table entries i = slice_index table (entries + page_of i)

-- the place of the home word i in the frame that the entry names
abbrev pub shown_at : List ℕ → ℕ → ℕ → ℕ → ℕ
shown_at table entries cells i = cells + cell_of (frame_in (entry_at table entries i)) i

-- the home word i has its place in the table, where its page is in a frame
pub record HasPlace (table : List ℕ) (entries cells i : ℕ) : Type 0 where
  pub entry : entries + page_of i < length table
  pub cell : 0 < entry_at table entries i → shown_at table entries cells i < length table

-- each of the first so many home words has
abbrev pub HasPlaces : List ℕ → ℕ → ℕ → ℕ → Type 0
HasPlaces table entries cells count = (i : ℕ) → i < count → HasPlace table entries cells i

-- so many words from `first` on are those of a table from `cells` on, and all others are as they were
pub record IsPageCopied (table : List ℕ) (cells first count : ℕ) (old new : List ℕ) : Type 0 where
  pub size : length new ≡ length old
  pub copied : (k : ℕ) → k < count → slice_index new (first + k) ≡ slice_index table (cells + k)
  pub before : (i : ℕ) → i < first → slice_index new i ≡ slice_index old i
  pub behind : (i : ℕ) → first + count ≤ i → slice_index new i ≡ slice_index old i

-- the first so many words of pages in frames are copied, and all others are as they were
pub record AreCopied (table : List ℕ) (entries cells : ℕ) (old : List ℕ) (upto : ℕ) (new : List ℕ) : Type 0 where
  pub size : length new ≡ length old
  pub shown : (i : ℕ) → i < upto → i < length old → 0 < entry_at table entries i → slice_index new i ≡ slice_index table (shown_at table entries cells i)
  pub absent : (i : ℕ) → i < upto → i < length old → entry_at table entries i ≡ 0 → slice_index new i ≡ slice_index old i
  pub later : (i : ℕ) → upto ≤ i → i < length old → slice_index new i ≡ slice_index old i
