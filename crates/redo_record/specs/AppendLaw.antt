-- The law of append, over states of the medium and lists of calls alone.
use Rattle.std.specs.Prelude.{◌≡◌, ◌≢◌, ◌⊎◌, ℕ, ◌*◌, ◌<◌, ◌≤◌, List, [], ◌∷◌, ◌++◌, All, length, slice_index}
use Rattle.dude_base.specs.declared.limits.TheConstants.{LINE, MARK, PAGE}
use Rattle.dude_base.specs.declared.sizes.Sizes.{Sizes}
use Rattle.dude_base.specs.Sizes.{IsAccepted}
use Rattle.dude_base.specs.Image.{image_words, Cell, cell_at, cell_start}
use Rattle.dude_base.specs.Records.{RedoBundle}
use Rattle.pmem_trait.specs.Words.{State, MayHold, IsSettledWord, EveryImage, AfterEachCall, settled_at, after_all}
use Rattle.redo_record.specs.Tags.{number_of, head_tag, IsHeadOver}
use Rattle.redo_record.specs.Cells.{IsCell, word_at}
use Rattle.redo_record.specs.Record.{cells_for, record_of}
use Rattle.redo_record.specs.Encoding.{IsEncodable, encoded}
use Rattle.redo_record.specs.Images.{mark_of, tag_of, word_in_image, IsComplete, IsNewHead}
use Rattle.redo_record.specs.Fits.{Logged, HasHead, IsIntact, FitsRing, AreFree, settled_mark}
use Rattle.redo_record.specs.Calls.{append_calls}

-- The record may be laid into the cells from this one on: they are free, and its writes are of home words.
pub record CanAppend (s : Sizes) (mark : ℕ) (logged : List Logged) (head : Cell) (r : RedoBundle) : Type 0 where
  pub sizes : IsAccepted s
  pub cell : IsCell s head
  pub encodable : IsEncodable r
  pub home : All (λ w. w.at < s.pages * PAGE) r.writes
  pub room : cells_for (length r.writes) ≤ s.cells
  pub free : AreFree s mark head.slot (cells_for (length r.writes)) logged

-- the record as one of its ring
abbrev pub logged_as : Cell → RedoBundle → Logged
logged_as head r = record { last = r.last; span = r.span; slot = head.slot; cells = cells_for (length r.writes) }

-- this word is none of the record's cells, which begin at this one
abbrev pub IsElsewhere : Sizes → Cell → RedoBundle → ℕ → Type 0
IsElsewhere s head r i = (k j : ℕ) → k < cells_for (length r.writes) → j < LINE → i ≡ word_at s head k j → ⊥

-- every word of the record's cells but the head's tag is settled
abbrev pub IsBodySettled : Sizes → Cell → RedoBundle → State → Type 0
IsBodySettled s head r q =
    (k j : ℕ) → k < cells_for (length r.writes) → j < LINE → (1 ≤ k) ⊎ (1 ≤ j) → q.word (word_at s head k j) ≡ settled_at (slice_index (encoded r k) j)

-- From a state p to a state q on the way of an append of r. Nothing more was told. A word elsewhere has no value that it
-- might not have had before, and stands as it was where it was settled. The ring's records over the mark are intact. Each
-- head over the mark that a crash may leave in this ring is that of one of these records, or that of r; then the rest of
-- r is settled.
pub record Appending (s : Sizes) (logged : List Logged) (head : Cell) (r : RedoBundle) (p q : State) : Type 0 where
  pub told : q.told ≡ p.told
  pub others : (i x : ℕ) → IsElsewhere s head r i → MayHold (q.word i) x → MayHold (p.word i) x
  pub settled_others : (i x : ℕ) → IsElsewhere s head r i → p.word i ≡ settled_at x → q.word i ≡ settled_at x
  pub records : All (λ l. settled_mark p < l.last → IsIntact s head.ring q l) logged
  pub heads : (slot tag : ℕ) → slot < s.cells → MayHold (q.word (cell_start s (cell_at head.ring slot))) tag → IsHeadOver (settled_mark p) tag
      → HasHead (number_of tag) slot logged ⊎ ((slot ≡ head.slot) × (tag ≡ head_tag r.last) × IsBodySettled s head r q)

-- The whole record is settled in its cells. Each word elsewhere has no value that it might not have had before, and stands
-- as it was where it was settled. Nothing more was told, and the ring fits with the record added.
pub record Appended (s : Sizes) (logged : List Logged) (released : ℕ) (head : Cell) (r : RedoBundle) (p q : State) : Type 0 where
  pub settled : (k j : ℕ) → k < cells_for (length r.writes) → j < LINE → q.word (word_at s head k j) ≡ settled_at (slice_index (encoded r k) j)
  pub others : (i x : ℕ) → IsElsewhere s head r i → MayHold (q.word i) x → MayHold (p.word i) x
  pub settled_others : (i x : ℕ) → IsElsewhere s head r i → p.word i ≡ settled_at x → q.word i ≡ settled_at x
  pub told : q.told ≡ p.told
  pub fits : FitsRing s head.ring (logged ++ logged_as head r ∷ []) released q

-- From a state that the ring fits, and whose cells are free: the entry and the state after each call are on the way; and
-- after the whole list the record is appended.
abbrev pub LawOfAppend : Type 0
LawOfAppend = (s : Sizes) (logged : List Logged) (released : ℕ) (head : Cell) (r : RedoBundle) (p : State)
    → FitsRing s head.ring logged released p → CanAppend s (settled_mark p) logged head r
    → AfterEachCall (Appending s logged head r p) p (append_calls s head r)
    × Appended s logged released head r p (after_all (append_calls s head r) p)

-- An image on the way. Each head over the mark in this ring has its complete record, and is that of one of these records
-- or that of r, which then holds r. Each word elsewhere is as it might have been before, and nothing more was told.
pub record HeadsHold (s : Sizes) (logged : List Logged) (head : Cell) (r : RedoBundle) (p : State) (told image : List ℕ) : Type 0 where
  pub complete : (other : Cell) → other.ring ≡ head.ring → IsNewHead s (mark_of image) image other → IsComplete s image other
  pub known : (other : Cell) → other.ring ≡ head.ring → IsNewHead s (mark_of image) image other
      → HasHead (number_of (tag_of s image other)) other.slot logged
      ⊎ ((other ≡ head) × (record_of (word_in_image s image other) ≡ r))
  pub others : (i : ℕ) → i < length image → IsElsewhere s head r i → MayHold (p.word i) (slice_index image i)
  pub same_told : told ≡ p.told

-- In a state on the way every image has its heads, and each other ring that fit still fits.
abbrev pub LawOfAppending : Type 0
LawOfAppending = (s : Sizes) (logged : List Logged) (head : Cell) (r : RedoBundle) (p q : State)
    → IsCell s head → IsEncodable r → All (λ w. w.at < s.pages * PAGE) r.writes → cells_for (length r.writes) ≤ s.cells → IsSettledWord (p.word MARK) → Appending s logged head r p q
    → ((len : ℕ) → image_words s ≤ len → EveryImage len (HeadsHold s logged head r p) q)
    × ((ring : ℕ) (others : List Logged) (released : ℕ) → ring ≢ head.ring → FitsRing s ring others released p → FitsRing s ring others released q)
