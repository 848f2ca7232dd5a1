-- The rows of a table stay where neither a word that the table uses nor a word of a row changes.
use Rattle.std.proofs.Common.{◌≡◌, ◌≢◌, ℕ, ◌+◌, ◌<◌, ◌≤◌, ◌⊎◌, inl, inr, List, [], ◌∷◌, length, Contains, slice_index, ◌∙◌, arith}
use Rattle.std.proofs.lemmas.List.Elements.{Contains-append_right}
use Rattle.record_heap.specs.Pool.{IsRecord}
use Rattle.hash_table.specs.declared.table.Table.{Table}
use Rattle.hash_table.specs.Ranges.{AreSeparate, FitsRange}
use Rattle.hash_table.specs.Table.{records_in}
use Rattle.hash_table.proofs.Frames.{SameTable, table_stays}
use Rattle.hash_table.proofs.Insertions.{each_record}
use Rattle.tatp_layout.specs.Records.{RowForm, HasWords, HoldsRow}
use Rattle.tatp_layout.specs.StandsFor.{HasRows}

-- a record of this size has room for the words of any row
pub record FitsRecord {R : Type 0} (form : RowForm R) (size : ℕ) : Type 0 where
  pub words : (row : R) → 2 + length (form.words row) ≤ size

-- the record at this word is the same but for its link
pub record SameRow (size at : ℕ) (a b : List ℕ) : Type 0 where
  pub words : (i : ℕ) → at ≤ i → i < at + size → i ≢ at + 1 → slice_index b i ≡ slice_index a i

-- two such changes one after the other
pub same_row-then : {size at : ℕ} {a b c : List ℕ} → SameRow size at a b → SameRow size at b c → SameRow size at a c
same_row-then s t = record { words = λ i from to other. t.words i from to other ∙ s.words i from to other }

has_words_same : (a b : List ℕ) (at : ℕ) (words : List ℕ) → ((i : ℕ) → at ≤ i → i < at + length words → slice_index b i ≡ slice_index a i) → HasWords a at words → HasWords b at words
has_words_same a b at [] same has = tt
has_words_same a b at (word ∷ words) same has =
    (same at (omega arith) (omega arith) ∙ has.0, has_words_same a b (at + 1) words (λ i from to. same i (omega arith) (omega arith)) has.1)

-- the row that it holds
pub holds_same : {R : Type 0} {form : RowForm R} {size at : ℕ} {a b : List ℕ} {row : R} → FitsRecord form size → SameRow size at a b → HoldsRow form a at row → HoldsRow form b at row
holds_same {form = form} {at = at} {a = a} {b = b} {row = row} fits same holds =
    let room = fits.words row in
    record {
      key = same.words at (omega arith) (omega (arith, room)) (omega arith) ∙ holds.key;
      words = has_words_same a b (at + 2) (form.words row) (λ i from to. same.words i (omega arith) (omega (arith, room)) (omega arith)) holds.words;
      lengths = holds.lengths;
    }

-- what stands in chains are records
pub taken_record : {R : Type 0} {form : RowForm R} {table : Table} {a : List ℕ} {rows : List R} (h : HasRows form table a rows) (at : ℕ) → Contains (records_in h.chains) at → IsRecord table.pool at
taken_record h at among = each_record h.chains h.free h.lawful at (Contains-append_right h.free (records_in h.chains) at among)

pub rows_stay : {R : Type 0} {form : RowForm R} {table : Table} {a b : List ℕ} {rows : List R} → FitsRecord form table.pool.size → SameTable table a b → ((at : ℕ) → IsRecord table.pool at → SameRow table.pool.size at a b) → HasRows form table a rows → HasRows form table b rows
rows_stay fits same each h = record {
  chains = h.chains;
  free = h.free;
  lawful = table_stays h.chains h.free same h.lawful;
  count = h.count;
  holds = λ at among. let was = h.holds at among in (was.0, was.1, holds_same fits (each at (taken_record h at among)) was.2);
  held = λ row there. let was = h.held row there in (was.0, was.1, holds_same fits (each was.0 (taken_record h was.0 was.1)) was.2);
}

-- ---- beside another table

-- no word changes outside of a range that has the table's words
pub record ChangesTable (table : Table) (a b : List ℕ) : Type 0 where
  pub size : length b ≡ length a
  pub others : (low high : ℕ) → FitsRange table low high → (i : ℕ) → (i < low) ⊎ (high ≤ i) → slice_index b i ≡ slice_index a i

pub changes_table-then : {table : Table} {a b c : List ℕ} → ChangesTable table a b → ChangesTable table b c → ChangesTable table a c
changes_table-then s t = record { size = t.size ∙ s.size; others = λ low high range i out. t.others low high range i out ∙ s.others low high range i out }

-- the words of a table that stay in its range
module _ {table : Table} {a b : List ℕ} {low high : ℕ} (range : FitsRange table low high) (wide : 2 ≤ table.pool.size) (same_word : (i : ℕ) → low ≤ i → i < high → slice_index b i ≡ slice_index a i) where
  pub table_in_range : SameTable table a b
  table_in_range = record {
    pool = record {
      first = same_word table.pool.base range.header_from (omega (arith, range.header_to));
      live = same_word (table.pool.base + 1) (omega (arith, range.header_from)) (omega (arith, range.header_to));
      links = λ x r. same_word (x + 1) (omega (arith, range.record_from x r)) (omega (arith, range.record_to x r, wide));
    };
    buckets = λ bucket below. same_word (table.at + bucket) (omega (arith, range.links_from)) (omega (arith, range.links_to, below));
    keys = λ x r. same_word x (range.record_from x r) (omega (arith, range.record_to x r, wide));
  }

  pub row_in_range : (x : ℕ) → IsRecord table.pool x → SameRow table.pool.size x a b
  row_in_range x r = record { words = λ i from to other. same_word i (omega (arith, range.record_from x r, from)) (omega (arith, range.record_to x r, to)) }

  pub rows_in_range : {R : Type 0} {form : RowForm R} {rows : List R} → FitsRecord form table.pool.size → HasRows form table a rows → HasRows form table b rows
  rows_in_range room h = rows_stay room table_in_range row_in_range h

-- those of another table
module _ {changed table : Table} {a b : List ℕ} (separate : AreSeparate changed table) (wide : 2 ≤ table.pool.size) (changes : ChangesTable changed a b) where
  same_word : (i : ℕ) → separate.second_low ≤ i → i < separate.second_high → slice_index b i ≡ slice_index a i
  same_word i from to = changes.others separate.first_low separate.first_high separate.of_first i (elim separate.apart [ inl below ↦ inr (omega (arith, below, from)) | inr above ↦ inl (omega (arith, above, to)) ])

  pub table_beside : SameTable table a b
  table_beside = table_in_range separate.of_second wide same_word

  pub row_beside : (x : ℕ) → IsRecord table.pool x → SameRow table.pool.size x a b
  row_beside = row_in_range separate.of_second wide same_word

-- the rows of another table
pub rows_beside : {R : Type 0} {form : RowForm R} {changed table : Table} {a b : List ℕ} {rows : List R} → AreSeparate changed table → 2 ≤ table.pool.size → FitsRecord form table.pool.size → ChangesTable changed a b → HasRows form table a rows → HasRows form table b rows
rows_beside separate wide room changes h = rows_stay room (table_beside separate wide changes) (row_beside separate wide changes) h
