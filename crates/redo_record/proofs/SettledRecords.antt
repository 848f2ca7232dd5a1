-- A record in settled cells: what keeps it, and what each image has of it.
use Rattle.std.proofs.Common.{◌≡◌, ◌≢◌, ⊎_elim, ℕ, ◌+◌, ◌%◌, ◌<◌, ◌≤◌, List, length, sym, ap, ◌∙◌, subst, arith}
use Rattle.std.proofs.Math.Nat.{mod-lt}
use Rattle.std.proofs.lemmas.Bool.{cases_eq}
use Rattle.std.proofs.lemmas.List.FromFn.{length-map-range_with_len}
use Rattle.dude_base.specs.declared.sizes.Sizes.{Sizes}
use Rattle.dude_base.specs.Image.{image_words, Cell}
use Rattle.dude_base.specs.Records.{RedoBundle}
use Rattle.pmem_trait.specs.Words.{Word, State, IsImage, settled_at}
use Rattle.pmem_trait.proofs.Images.{may_still}
use Rattle.redo_record.specs.Cells.{IsCell, word_at}
use Rattle.redo_record.specs.Record.{cells_for, count_of, write_of, record_of}
use Rattle.redo_record.specs.Images.{word_in_image, IsComplete}
use Rattle.redo_record.specs.Fits.{IsIntact, settled_word}
use Rattle.redo_record.specs.AppendLaw.{IsElsewhere, logged_as}
use Rattle.redo_record.specs.SettledRecords.{HoldSettled, AreInOtherCells, LawOfSettledRecords}
use Rattle.redo_record.proofs.HeldRecords.{AreSame, complete_same, record_same}
use Rattle.redo_record.proofs.EncodedCells.{cells_of_record, encoded_record, counted}
use Rattle.redo_record.proofs.CellPlaces.{word_inside}
use Rattle.redo_record.proofs.RingHeads.{is_settled, cells_elsewhere, ring_elsewhere}
use Rattle.redo_record.proofs.AppendedRecord.{encoded_complete}

module _ {s : Sizes} {head : Cell} {r : RedoBundle} {p : State} (held : HoldSettled s head r p) where
  -- the count that the head has is that of the record's writes
  pub held_count : count_of (settled_word s p head) ≡ length r.writes
  held_count = sym (length-map-range_with_len (write_of (settled_word s p head)) 0 (count_of (settled_word s p head))) ∙ ap (λ (t : RedoBundle). length t.writes) held.same

  pub held_below : (k : ℕ) → k < cells_for (count_of (settled_word s p head)) → k < cells_for (length r.writes)
  held_below k lt = subst (λ (n : ℕ). k < cells_for n) held_count lt

  -- cells settled at the same words hold it too
  pub held_by : {q : State} → ((k j : ℕ) → k < cells_for (length r.writes) → j < 8 → q.word (word_at s head k j) ≡ settled_at (settled_word s p head k j)) → HoldSettled s head r q
  held_by {q} stay =
      let same : AreSame (settled_word s p head) (settled_word s q head) (cells_for (count_of (settled_word s p head))) = record {
        word = λ k j lt small. ap (λ (w : Word). w.settled) (stay k j (held_below k lt) small);
      } in
      record {
        settled_words = λ k j lt small. is_settled (stay k j lt small);
        complete = complete_same same held.complete;
        same = record_same same ∙ held.same;
      }

  held_intact : IsIntact s head.ring p (logged_as head r)
  held_intact = record {
    settled_words = held.settled_words;
    complete = held.complete;
    same_last = ap (λ (t : RedoBundle). t.last) held.same;
    same_span = ap (λ (t : RedoBundle). t.span) held.same;
    same_cells = ap cells_for held_count;
  }

  held_images : (len : ℕ) (image : List ℕ) → IsCell s head → image_words s ≤ len → IsImage len p image → IsComplete s image head × (record_of (word_in_image s image head) ≡ r)
  held_images len image is_cell long is =
      let same : AreSame (settled_word s p head) (word_in_image s image head) (cells_for (count_of (settled_word s p head))) = record {
        word = λ k j lt small.
            let inside = word_inside s head is_cell k j small in
            may_still _ _ _ (held.settled_words k j (held_below k lt) small) (is.each (word_at s head k j) (omega arith));
      } in
      (complete_same same held.complete, record_same same ∙ held.same)

pub settled_records_law : LawOfSettledRecords
settled_records_law = record {
  appended = λ s logged released head r p q can done.
      let same : AreSame (cells_of_record r) (settled_word s q head) (cells_for (count_of (cells_of_record r))) = counted r can.encodable.writes_are.few (record {
        word = λ k j lt small. ap (λ (w : Word). w.settled) (done.settled k j lt small);
      }) in
      record {
        settled_words = λ k j lt small. is_settled (done.settled k j lt small);
        complete = complete_same same (encoded_complete s logged released head r can);
        same = record_same same ∙ encoded_record r can.encodable;
      };
  beside = λ s logged head other r t p q is_cell is_other apart way held.
      held_by held (λ k j lt small. way.settled_others (word_at s other k j) _ (elsewhere s head other r t is_cell is_other apart k j lt small) (held.settled_words k j lt small));
  rest = λ s head r p q is_cell stay held.
      held_by held (λ k j lt small. stay ((head.slot + k) % s.cells) j _ (mod-lt (head.slot + k) (let some = is_cell.slot_is in omega arith)) small (held.settled_words k j lt small));
  intact = λ s head r p held. held_intact held;
  images = λ s head r p len image is_cell long held is. held_images held len image is_cell long is;
}
  where
    elsewhere : (s : Sizes) (head other : Cell) (r t : RedoBundle) → IsCell s head → IsCell s other → AreInOtherCells s head r other t
        → (k j : ℕ) → k < cells_for (length t.writes) → j < 8 → IsElsewhere s head r (word_at s other k j)
    elsewhere s head other r t is_cell is_other apart k j lt small = ⊎_elim
        (λ (ring : other.ring ≡ head.ring). cells_elsewhere s head other r (cells_for (length t.writes)) ring (apart ring) k j lt small)
        (λ (ne : other.ring ≢ head.ring). ring_elsewhere s head r other.ring is_cell ne ((other.slot + k) % s.cells) j (mod-lt (other.slot + k) (let some = is_other.slot_is in omega arith)) small)
        (cases_eq other.ring head.ring)
