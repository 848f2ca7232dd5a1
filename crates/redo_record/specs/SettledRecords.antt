-- A record in settled cells: what keeps it there, and what each image has of it.
use Rattle.std.specs.Prelude.{◌≡◌, ℕ, ◌+◌, ◌%◌, ◌<◌, ◌≤◌, List, length}
use Rattle.dude_base.specs.declared.limits.TheConstants.{LINE}
use Rattle.dude_base.specs.declared.sizes.Sizes.{Sizes}
use Rattle.dude_base.specs.Image.{image_words, Cell, cell_at, cell_start}
use Rattle.dude_base.specs.Records.{RedoBundle}
use Rattle.pmem_trait.specs.Words.{State, IsImage, IsSettledWord, settled_at}
use Rattle.redo_record.specs.Cells.{IsCell, word_at}
use Rattle.redo_record.specs.Record.{cells_for, record_of, HoldComplete}
use Rattle.redo_record.specs.Images.{word_in_image, IsComplete}
use Rattle.redo_record.specs.Fits.{Logged, IsIntact, settled_mark, settled_word}
use Rattle.redo_record.specs.AppendLaw.{CanAppend, Appending, Appended, logged_as}

-- The cells from this one on hold this record, of writes of home words, and each word of them is settled.
pub record HoldSettled (s : Sizes) (head : Cell) (r : RedoBundle) (p : State) : Type 0 where
  pub settled_words : (k j : ℕ) → k < cells_for (length r.writes) → j < LINE → IsSettledWord (p.word (word_at s head k j))
  pub complete : HoldComplete s (settled_word s p head)
  pub same : record_of (settled_word s p head) ≡ r

-- no cell of the one record is one of the other
abbrev pub AreInOtherCells : Sizes → Cell → RedoBundle → Cell → RedoBundle → Type 0
AreInOtherCells s head r other t =
    other.ring ≡ head.ring → (i k : ℕ) → i < cells_for (length t.writes) → k < cells_for (length r.writes) → (other.slot + i) % s.cells ≡ (head.slot + k) % s.cells → ⊥

-- The cells hold the record after its append, on the way of the append of another one, and wherever their settled words
-- stay. It is then intact in its ring, and in every image.
pub record LawOfSettledRecords : Type 0 where
  pub appended : (s : Sizes) (logged : List Logged) (released : ℕ) (head : Cell) (r : RedoBundle) (p q : State)
      → CanAppend s (settled_mark p) logged head r → Appended s logged released head r p q → HoldSettled s head r q
  pub beside : (s : Sizes) (logged : List Logged) (head other : Cell) (r t : RedoBundle) (p q : State)
      → IsCell s head → IsCell s other → AreInOtherCells s head r other t → Appending s logged head r p q → HoldSettled s other t p → HoldSettled s other t q
  pub rest : (s : Sizes) (head : Cell) (r : RedoBundle) (p q : State) → IsCell s head
      → ((slot j x : ℕ) → slot < s.cells → j < LINE → p.word (cell_start s (cell_at head.ring slot) + j) ≡ settled_at x → q.word (cell_start s (cell_at head.ring slot) + j) ≡ settled_at x)
      → HoldSettled s head r p → HoldSettled s head r q
  pub intact : (s : Sizes) (head : Cell) (r : RedoBundle) (p : State) → HoldSettled s head r p → IsIntact s head.ring p (logged_as head r)
  pub images : (s : Sizes) (head : Cell) (r : RedoBundle) (p : State) (len : ℕ) (image : List ℕ) → IsCell s head → image_words s ≤ len
      → HoldSettled s head r p → IsImage len p image → IsComplete s image head × (record_of (word_in_image s image head) ≡ r)
