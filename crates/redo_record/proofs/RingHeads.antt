-- Heads of the records of a ring, and which words are none of a new record's.
use Rattle.std.proofs.Common.{◌≡◌, ◌≢◌, ◌⊎◌, inl, inr, ℕ, suc, ◌+◌, ◌*◌, ◌%◌, ◌<◌, List, [], ◌∷◌, ◌++◌, length, sym, ap, ◌∙◌, subst, arith, All}
use Rattle.std.proofs.Math.Nat.{mod-lt}
use Rattle.std.proofs.lemmas.Bool.{cases_eq, cases_order}
use Rattle.dude_base.specs.declared.sizes.Sizes.{Sizes}
use Rattle.dude_base.specs.Image.{Cell, cell_at, cell_start}
use Rattle.dude_base.specs.Records.{RedoBundle}
use Rattle.pmem_trait.specs.Words.{Word, State, IsSettledWord, settled_at}
use Rattle.redo_record.specs.Tags.{kind_of, number_of, IsHeadOver}
use Rattle.redo_record.specs.Cells.{IsCell, word_at}
use Rattle.redo_record.specs.Record.{cells_for, count_of}
use Rattle.redo_record.specs.Fits.{Logged, head_of, HasHead, settled_word, IsIntact}
use Rattle.redo_record.specs.AppendLaw.{IsElsewhere}
use Rattle.redo_record.proofs.HeldRecords.{AreSame, complete_same, count_same, span_same, tag_same}
use Rattle.redo_record.proofs.CellPlaces.{words_same, rings_same}

-- a tag is that of a head over a number, or isn't
pub over_or_not : (above tag : ℕ) → IsHeadOver above tag ⊎ (IsHeadOver above tag → ⊥)
over_or_not above tag = by (cases_eq (kind_of tag) 1) (cases_order above (number_of tag))
  where
    by : (kind_of tag ≡ 1) ⊎ (kind_of tag ≢ 1) → (above ≡ number_of tag) ⊎ ((above < number_of tag) ⊎ (number_of tag < above)) → IsHeadOver above tag ⊎ (IsHeadOver above tag → ⊥)
    by (inl kind) (inr (inl below)) = inl (record { kind = kind; over = below })
    by (inl kind) (inl same) = inr (λ h. let o = h.over in omega arith)
    by (inl kind) (inr (inr past)) = inr (λ h. let o = h.over in omega arith)
    by (inr other) order = inr (λ h. other h.kind)

-- a word is settled where it is settled at some value
pub is_settled : {w : Word} {x : ℕ} → w ≡ settled_at x → IsSettledWord w
is_settled is = is ∙ ap settled_at (sym (ap (λ (w : Word). w.settled) is))

-- a record is intact where its cells are settled as they were
pub intact_by : {s : Sizes} {ring : ℕ} {p q : State} {l : Logged} → IsIntact s ring p l
    → ((k j : ℕ) → k < l.cells → j < 8 → q.word (word_at s (head_of ring l) k j) ≡ settled_at (settled_word s p (head_of ring l) k j)) → IsIntact s ring q l
intact_by {s} {ring} {p} {q} {l} intact stay =
    let same : AreSame (settled_word s p (head_of ring l)) (settled_word s q (head_of ring l)) (cells_for (count_of (settled_word s p (head_of ring l)))) = record {
      word = λ k j lt small. ap (λ (w : Word). w.settled) (stay k j (subst (λ (n : ℕ). k < n) intact.same_cells lt) small);
    } in
    record {
      settled_words = λ k j lt small. is_settled (stay k j lt small);
      complete = complete_same same intact.complete;
      same_last = ap number_of (tag_same same) ∙ intact.same_last;
      same_span = span_same same ∙ intact.same_span;
      same_cells = ap cells_for (count_same same) ∙ intact.same_cells;
    }

-- the record whose head this is
pub find_head : {P : Logged → Type 0} (number slot : ℕ) (ls : List Logged) → All P ls → HasHead number slot ls → (l : Logged) × (l.last ≡ number) × (l.slot ≡ slot) × P l
find_head number slot [] all has = absurd has
find_head number slot (l ∷ ls) all (inl is) = (l, is.0, is.1, all 0 l (omega arith))
find_head {P} number slot (l ∷ ls) all (inr has) = find_head {P = P} number slot ls (λ k d lt. all (suc k) d (omega arith)) has

-- a head stays one where records are added
pub head_before : (number slot : ℕ) (ls more : List Logged) → HasHead number slot ls → HasHead number slot (ls ++ more)
head_before number slot [] more has = absurd has
head_before number slot (l ∷ ls) more (inl is) = inl is
head_before number slot (l ∷ ls) more (inr has) = inr (head_before number slot ls more has)

pub head_last : (ls : List Logged) (l : Logged) (number slot : ℕ) → l.last ≡ number → l.slot ≡ slot → HasHead number slot (ls ++ l ∷ [])
head_last [] l number slot same at = inl (same, at)
head_last (k ∷ ls) l number slot same at = inr (head_last ls l number slot same at)

pub cell_is : (a b : Cell) → a.ring ≡ b.ring → a.slot ≡ b.slot → a ≡ b
cell_is a b ring slot =
    let by_ring : ℕ → Cell = λ x. record { ring = x; slot = a.slot } in
    let by_place : ℕ → Cell = λ x. record { ring = b.ring; slot = x } in
    ap by_ring ring ∙ ap by_place slot

-- the words before the rings are elsewhere
pub header_elsewhere : (s : Sizes) (head : Cell) (r : RedoBundle) (i : ℕ) → i < 16 → IsElsewhere s head r i
header_elsewhere s head r i low k j lt small is = omega arith

-- so are those of other cells of the ring
pub cells_elsewhere : (s : Sizes) (head other : Cell) (r : RedoBundle) (n : ℕ) → other.ring ≡ head.ring
    → ((i k : ℕ) → i < n → k < cells_for (length r.writes) → (other.slot + i) % s.cells ≡ (head.slot + k) % s.cells → ⊥)
    → (i j : ℕ) → i < n → j < 8 → IsElsewhere s head r (word_at s other i j)
cells_elsewhere s head other r n ring apart i j lt small k m below tiny same =
    let here : word_at s (cell_at head.ring other.slot) i j ≡ word_at s head k m = ap (λ (x : ℕ). word_at s (cell_at x other.slot) i j) (sym ring) ∙ same in
    apart i k lt below (words_same (head.ring * s.cells) ((other.slot + i) % s.cells) ((head.slot + k) % s.cells) j m small tiny here).0

-- and those of another ring
pub ring_elsewhere : (s : Sizes) (head : Cell) (r : RedoBundle) (ring : ℕ) → IsCell s head → ring ≢ head.ring
    → (slot j : ℕ) → slot < s.cells → j < 8 → IsElsewhere s head r (cell_start s (cell_at ring slot) + j)
ring_elsewhere s head r ring is_cell other slot j below small k m lt tiny same =
    other (rings_same s.cells ring head.ring slot ((head.slot + k) % s.cells) below (mod-lt (head.slot + k) (let some = is_cell.slot_is in omega arith)) (omega arith))
