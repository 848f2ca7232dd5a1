-- Laws of rings that fit: where there is room, and what leaves a ring fitting.
use Rattle.std.specs.Prelude.{◌≡◌, ℕ, ◌+◌, ◌%◌, ◌<◌, ◌≤◌, max, List, [], ◌∷◌, ◌++◌, All}
use Rattle.dude_base.specs.declared.limits.TheConstants.{LINE, MARK}
use Rattle.dude_base.specs.declared.sizes.Sizes.{Sizes}
use Rattle.pmem_trait.specs.Words.{State, MayHold, settled_at, IsSettledWord}
use Rattle.dude_base.specs.Image.{cell_at, cell_start}
use Rattle.redo_record.specs.Fits.{Logged, settled_mark, FitsRing, AreFree, cells_used, FollowFrom}

-- The slot after n cells, in a ring.
abbrev pub slot_after : Sizes → ℕ → ℕ → ℕ
slot_after s slot n = (slot + n) % s.cells

-- Where the records of a ring follow one another and leave n cells, the n cells after the last record are free.
abbrev pub LawOfRoom : Type 0
LawOfRoom = (s : Sizes) (slot n mark : ℕ) (logged : List Logged) → slot < s.cells → FollowFrom s slot logged
    → cells_used logged + n ≤ s.cells → AreFree s mark (slot_after s slot (cells_used logged)) n logged

-- Records follow one another also with one more after the last, and without the first ones.
abbrev pub LawOfFollowing : Type 0
LawOfFollowing = (s : Sizes) (slot : ℕ) → slot < s.cells
    → ((logged : List Logged) (next : Logged) → FollowFrom s slot logged → next.slot ≡ slot_after s slot (cells_used logged) → FollowFrom s slot (logged ++ next ∷ []))
    × ((gone rest : List Logged) → FollowFrom s slot (gone ++ rest) → FollowFrom s (slot_after s slot (cells_used gone)) rest)

-- A ring fits without records up to a number that is no more than the mark.
abbrev pub LawOfRelease : Type 0
LawOfRelease = (s : Sizes) (ring : ℕ) (gone rest : List Logged) (released number : ℕ) (p : State) → FitsRing s ring (gone ++ rest) released p
    → All (λ l. l.last ≤ number) gone → number ≤ settled_mark p → FitsRing s ring rest (max released number) p

-- A ring fits in a state where the mark is settled at no less, no tag in its cells may be another, and the settled words
-- of its cells are as they were.
abbrev pub LawOfRest : Type 0
LawOfRest = (s : Sizes) (ring : ℕ) (logged : List Logged) (released : ℕ) (p q : State) → 0 < s.cells → FitsRing s ring logged released p
    → IsSettledWord (q.word MARK) → settled_mark p ≤ settled_mark q
    → ((slot tag : ℕ) → slot < s.cells → MayHold (q.word (cell_start s (cell_at ring slot))) tag → MayHold (p.word (cell_start s (cell_at ring slot))) tag)
    → ((slot j x : ℕ) → slot < s.cells → j < LINE → p.word (cell_start s (cell_at ring slot) + j) ≡ settled_at x → q.word (cell_start s (cell_at ring slot) + j) ≡ settled_at x)
    → FitsRing s ring logged released q
