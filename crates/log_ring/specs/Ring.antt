-- What contracts see of a ring.
use Rattle.std.specs.Prelude.{ℕ, ◌<◌, ◌≤◌, max, nat_lt, List, [], ◌∷◌, ◌++◌, length}
use Rattle.std.specs.List.{filter}
use Rattle.dude_base.specs.declared.limits.TheConstants.{MARK}
use Rattle.dude_base.specs.declared.sizes.Sizes.{Sizes}
use Rattle.dude_base.specs.Records.{RedoBundle}
use Rattle.pmem_trait.specs.Words.{State, MayHold, IsSettledWord}
use Rattle.redo_record.specs.Tags.{IsHeadOver}
use Rattle.dude_base.specs.Image.{Cell, cell_at, cell_start}
use Rattle.redo_record.specs.Record.{cells_for}
use Rattle.redo_record.specs.Fits.{Logged, FitsRing, settled_mark}
use Rattle.redo_record.specs.RingLaws.{slot_after}
use Rattle.redo_record.specs.AppendLaw.{logged_as}

-- A ring: the sizes of its image, its number among the rings, its records, the oldest first, the slot in which the next
-- one's head will stand, and the greatest number released.
pub record RingState : Type 0 where
  pub sizes : Sizes
  pub ring : ℕ
  pub logged : List Logged
  pub next : ℕ
  pub released : ℕ

-- a ring without records, which starts at its first cell
abbrev pub empty_ring : Sizes → ℕ → RingState
empty_ring s ring = record { sizes = s; ring = ring; logged = []; next = 0; released = 0 }

-- the cell of the next record's head
abbrev pub next_head : RingState → Cell
next_head v = cell_at v.ring v.next

-- the ring fits the medium at this state
abbrev pub FitsMedium : RingState → State → Type 0
FitsMedium v p = FitsRing v.sizes v.ring v.logged v.released p

-- the ring with this record behind its others
abbrev pub with_record : RedoBundle → RingState → RingState
with_record r v = record v {
  logged = v.logged ++ logged_as (next_head v) r ∷ [];
  next = slot_after v.sizes v.next (cells_for (length r.writes));
}

-- the ring with no record numbered up to n
abbrev pub released_to : ℕ → RingState → RingState
released_to n v = record v { logged = filter (λ l. nat_lt n l.last) v.logged; released = max v.released n }

-- The mark is settled, and a crash leaves no head over it in this ring.
pub record HasNoNewHead (s : Sizes) (ring : ℕ) (p : State) : Type 0 where
  pub mark : IsSettledWord (p.word MARK)
  pub none : (slot tag : ℕ) → slot < s.cells → MayHold (p.word (cell_start s (cell_at ring slot))) tag → IsHeadOver (settled_mark p) tag → ⊥

-- the ring fits each medium whose mark is settled and over which a crash leaves no head in it
abbrev pub FitsAtStart : Sizes → ℕ → RingState → Type 0
FitsAtStart s ring v = (p : State) → HasNoNewHead s ring p → FitsMedium v p

-- a ring that fits a medium still fits it as this one, where the mark is settled at that number or more
abbrev pub StillFits : ℕ → RingState → RingState → Type 0
StillFits reproduced old new = (p : State) → FitsMedium old p → reproduced ≤ settled_mark p → FitsMedium new p
