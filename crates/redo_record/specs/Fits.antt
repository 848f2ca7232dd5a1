-- When a ring fits a medium: what the medium's words have to be, of words alone and not of images.
use Rattle.std.specs.Prelude.{◌≡◌, ◌⊎◌, ℕ, ◌+◌, ◌-◌, ◌%◌, ◌<◌, ◌≤◌, List, [], ◌∷◌, All, sum_by}
use Rattle.dude_base.specs.declared.limits.TheConstants.{LINE, MARK}
use Rattle.dude_base.specs.declared.sizes.Sizes.{Sizes}
use Rattle.pmem_trait.specs.Words.{State, MayHold, IsSettledWord}
use Rattle.redo_record.specs.Tags.{number_of, IsHeadOver}
use Rattle.dude_base.specs.Image.{Cell, cell_at, cell_start}
use Rattle.redo_record.specs.Cells.{word_at}
use Rattle.redo_record.specs.Record.{cells_for, count_of, span_of, HoldComplete}

-- A bundle in a ring: its last number, how many before it are covered too, the slot of its head, and how many cells it
-- takes.
pub record Logged : Type 0 where
  pub last : ℕ
  pub span : ℕ
  pub slot : ℕ
  pub cells : ℕ

-- the first number that a bundle in a ring covers
abbrev pub first_logged : Logged → ℕ
first_logged l = l.last - l.span

-- the cell of a bundle's head in this ring
abbrev pub head_of : ℕ → Logged → Cell
head_of ring l = cell_at ring l.slot

-- one of these bundles has this last number and its head in this slot
abbrev pub HasHead : ℕ → ℕ → List Logged → Type 0
HasHead number slot [] = ⊥
HasHead number slot (l ∷ ls) = ((l.last ≡ number) × (l.slot ≡ slot)) ⊎ HasHead number slot ls

-- the mark, as it is settled
abbrev pub settled_mark : State → ℕ
settled_mark p = (p.word MARK).settled

-- word j of the k-th cell from this one on, as it is settled
abbrev pub settled_word : Sizes → State → Cell → ℕ → ℕ → ℕ
settled_word s p head k j = (p.word (word_at s head k j)).settled

-- The record is complete in its cells, which are settled.
pub record IsIntact (s : Sizes) (ring : ℕ) (p : State) (l : Logged) : Type 0 where
  pub settled_words : (k j : ℕ) → k < l.cells → j < LINE → IsSettledWord (p.word (word_at s (head_of ring l) k j))
  pub complete : HoldComplete s (settled_word s p (head_of ring l))
  pub same_last : number_of (settled_word s p (head_of ring l) 0 0) ≡ l.last
  pub same_span : span_of (settled_word s p (head_of ring l)) ≡ l.span
  pub same_cells : cells_for (count_of (settled_word s p (head_of ring l))) ≡ l.cells

-- The ring, with these records and this greatest number released, fits the medium: each head over the mark that a crash
-- may leave in this ring is that of one of its records; its records over the mark are intact; the mark is settled at the
-- number released or more.
pub record FitsRing (s : Sizes) (ring : ℕ) (logged : List Logged) (released : ℕ) (p : State) : Type 0 where
  pub mark : IsSettledWord (p.word MARK)
  pub reproduced : released ≤ settled_mark p
  pub heads : (slot tag : ℕ) → slot < s.cells → MayHold (p.word (cell_start s (cell_at ring slot))) tag
      → IsHeadOver (settled_mark p) tag → HasHead (number_of tag) slot logged
  pub records : All (λ l. settled_mark p < l.last → IsIntact s ring p l) logged

-- None of the n cells from this slot on is one of a record over the mark.
abbrev pub AreFree : Sizes → ℕ → ℕ → ℕ → List Logged → Type 0
AreFree s mark slot n logged =
    All (λ l. mark < l.last → (i k : ℕ) → i < l.cells → k < n → (l.slot + i) % s.cells ≡ (slot + k) % s.cells → ⊥) logged

-- how many cells the records take together
abbrev pub cells_used : List Logged → ℕ
cells_used logged = sum_by (λ l. l.cells) logged

-- The records' cells follow one another round the ring, from this slot on.
abbrev pub FollowFrom : Sizes → ℕ → List Logged → Type 0
FollowFrom s slot [] = Unit {0}
FollowFrom s slot (l ∷ ls) = (l.slot ≡ slot) × FollowFrom s ((slot + l.cells) % s.cells) ls
