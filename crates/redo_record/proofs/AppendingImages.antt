-- A state on the way of an append: what each image has, and that the other rings still fit.
use Rattle.std.proofs.Common.{◌≡◌, ◌≢◌, ◌⊎◌, inl, inr, ℕ, zero, suc, ◌+◌, ◌*◌, ◌<◌, ◌≤◌, List, length, slice_index, refl, sym, ap, ◌∙◌, subst, arith, All}
use Rattle.dude_base.specs.declared.limits.TheConstants.{PAGE}
use Rattle.dude_base.specs.declared.sizes.Sizes.{Sizes}
use Rattle.dude_base.specs.declared.write.Write.{Write}
use Rattle.dude_base.specs.Image.{image_words, Cell, cell_at, cell_start}
use Rattle.dude_base.specs.Records.{RedoBundle}
use Rattle.pmem_trait.specs.Words.{Word, State, MayHold, IsSettledWord, IsImage, EveryImage, AfterEachCall, settled_at}
use Rattle.pmem_trait.proofs.Images.{may_still}
use Rattle.pmem_trait.proofs.Laws.{after_each_weaker}
use Rattle.redo_record.specs.Tags.{number_of, head_tag, IsHeadOver}
use Rattle.redo_record.specs.Cells.{IsCell, word_at}
use Rattle.redo_record.specs.Record.{cells_for, count_of, record_of, HoldComplete}
use Rattle.redo_record.specs.Encoding.{IsEncodable}
use Rattle.redo_record.specs.Images.{mark_of, tag_of, word_in_image, IsComplete, IsNewHead}
use Rattle.redo_record.specs.Fits.{Logged, head_of, HasHead, IsIntact, FitsRing, settled_mark, settled_word}
use Rattle.redo_record.specs.Calls.{append_calls}
use Rattle.redo_record.specs.AppendLaw.{CanAppend, Appending, HeadsHold, IsBodySettled, LawOfAppending}
use Rattle.redo_record.proofs.HeldRecords.{AreSame, complete_same, record_same}
use Rattle.redo_record.proofs.EncodedCells.{cells_of_record, encoded_count, encoded_holds, encoded_record, encoded_writes, counted}
use Rattle.redo_record.proofs.CellPlaces.{word_inside, first_cell}
use Rattle.redo_record.proofs.RingHeads.{cell_is, find_head, is_settled, header_elsewhere, ring_elsewhere}
use Rattle.redo_record.proofs.RingRoom.{rest_law}
use Rattle.redo_record.proofs.AppendedRecord.{append_law}

-- each image holds the record of settled cells
pub intact_complete : (s : Sizes) (ring : ℕ) (l : Logged) (q : State) (len : ℕ) (image : List ℕ) → IsCell s (head_of ring l) → image_words s ≤ len → IsIntact s ring q l → IsImage len q image
    → IsComplete s image (head_of ring l)
intact_complete s ring l q len image is_cell long intact is =
    let same : AreSame (settled_word s q (head_of ring l)) (word_in_image s image (head_of ring l)) (cells_for (count_of (settled_word s q (head_of ring l)))) = record {
      word = λ k j lt small.
          let below : k < l.cells = subst (λ (n : ℕ). k < n) intact.same_cells lt in
          let inside = word_inside s (head_of ring l) is_cell k j small in
          may_still _ _ _ (intact.settled_words k j below small) (is.each (word_at s (head_of ring l) k j) (omega arith));
    } in
    complete_same same intact.complete

module _ (s : Sizes) (logged : List Logged) (head : Cell) (r : RedoBundle) (p q : State) (is_cell : IsCell s head) (encodable : IsEncodable r)
    (home : All (λ (w : Write). w.at < s.pages * PAGE) r.writes) (room : cells_for (length r.writes) ≤ s.cells) (mark : IsSettledWord (p.word 8)) (way : Appending s logged head r p q) where
  mark_stays : q.word 8 ≡ settled_at (settled_mark p)
  mark_stays = way.settled_others 8 (settled_mark p) (header_elsewhere s head r 8 (omega arith)) mark

  module _ (len : ℕ) (long : image_words s ≤ len) (image : List ℕ) (is : IsImage len q image) where
    kept : (i x : ℕ) → i < len → q.word i ≡ settled_at x → slice_index image i ≡ x
    kept i x below settled = may_still (q.word i) x (slice_index image i) settled (is.each i below)

    mark_is : mark_of image ≡ settled_mark p
    mark_is = kept 8 (settled_mark p) (omega arith) mark_stays

    -- where an image has the head of r, it has the whole record
    own : IsBodySettled s head r q → tag_of s image head ≡ head_tag r.last → IsComplete s image head × (record_of (word_in_image s image head) ≡ r)
    own body tag = (complete_same same whole, record_same same ∙ encoded_record r encodable)
      where
        word : (k j : ℕ) → k < cells_for (length r.writes) → j < 8 → word_in_image s image head k j ≡ cells_of_record r k j
        word zero zero lt small = ap (slice_index image) (first_cell s head is_cell 0 ∙ omega arith) ∙ tag
        word zero (suc j) lt small = let inside = word_inside s head is_cell 0 (suc j) small in kept (word_at s head 0 (suc j)) _ (omega arith) (body 0 (suc j) lt small (inr (omega arith)))
        word (suc k) j lt small = let inside = word_inside s head is_cell (suc k) j small in kept (word_at s head (suc k) j) _ (omega arith) (body (suc k) j lt small (inl (omega arith)))

        same : AreSame (cells_of_record r) (word_in_image s image head) (cells_for (count_of (cells_of_record r)))
        same = counted r encodable.writes_are.few (record { word = word })

        whole : HoldComplete s (cells_of_record r)
        whole = record {
          whole = encoded_holds r encodable;
          room = subst (λ (n : ℕ). cells_for n ≤ s.cells) (sym (encoded_count r encodable.writes_are.few)) room;
          home = subst (λ (ws : List Write). All (λ w. w.at < s.pages * 64) ws) (sym (encoded_writes r encodable.writes_are.few)) home;
        }

    heads : (other : Cell) → other.ring ≡ head.ring → IsNewHead s (mark_of image) image other
        → IsComplete s image other × (HasHead (number_of (tag_of s image other)) other.slot logged ⊎ ((other ≡ head) × (record_of (word_in_image s image other) ≡ r)))
    heads other ring new = by (way.heads other.slot (tag_of s image other) new.cell.slot_is (subst (λ (c : Cell). MayHold (q.word (cell_start s c)) (tag_of s image other)) here (is.each (cell_start s other) inside)) over)
      where
        over : IsHeadOver (settled_mark p) (tag_of s image other)
        over = subst (λ (m : ℕ). IsHeadOver m (tag_of s image other)) mark_is new.new

        inside : cell_start s other < len
        inside = let last = word_inside s other new.cell 0 0 (omega arith) in let at = first_cell s other new.cell 0 in omega arith

        here : other ≡ cell_at head.ring other.slot
        here = cell_is other (cell_at head.ring other.slot) ring refl

        by : HasHead (number_of (tag_of s image other)) other.slot logged ⊎ ((other.slot ≡ head.slot) × (tag_of s image other ≡ head_tag r.last) × IsBodySettled s head r q)
            → IsComplete s image other × (HasHead (number_of (tag_of s image other)) other.slot logged ⊎ ((other ≡ head) × (record_of (word_in_image s image other) ≡ r)))
        by (inl has) =
            let found = find_head {P = λ l. settled_mark p < l.last → IsIntact s head.ring q l} (number_of (tag_of s image other)) other.slot logged way.records has in
            let l = found.0 in
            let above : settled_mark p < l.last = subst (λ (n : ℕ). settled_mark p < n) (sym found.1) over.over in
            let same : head_of head.ring l ≡ other = cell_is (head_of head.ring l) other (sym ring) found.2 in
            (subst (IsComplete s image) same (intact_complete s head.ring l q len image (subst (IsCell s) (sym same) new.cell) long (found.3 above) is), inl has)
        by (inr mine) =
            let same : other ≡ head = cell_is other head ring mine.0 in
            let both = own mine.2 (ap (tag_of s image) (sym same) ∙ mine.1) in
            (subst (IsComplete s image) (sym same) both.0, inr (same, ap (λ (c : Cell). record_of (word_in_image s image c)) same ∙ both.1))

    holds : HeadsHold s logged head r p q.told image
    holds = record {
      complete = λ other ring new. (heads other ring new).0;
      known = λ other ring new. (heads other ring new).1;
      others = λ i below other. way.others i _ other (is.each i (let size = is.size in omega arith));
      same_told = way.told;
    }

  other_ring : (ring : ℕ) (others : List Logged) (released : ℕ) → ring ≢ head.ring → FitsRing s ring others released p → FitsRing s ring others released q
  other_ring ring others released ne fits = rest_law s ring others released p q (let some = is_cell.slot_is in omega arith) fits (is_settled mark_stays)
      (let same : settled_mark q ≡ settled_mark p = ap (λ (w : Word). w.settled) mark_stays in omega arith)
      (λ slot tag below may. way.others (cell_start s (cell_at ring slot)) tag (start slot below) may)
      (λ slot j x below small is. way.settled_others (cell_start s (cell_at ring slot) + j) x (ring_elsewhere s head r ring is_cell ne slot j below small) is)
    where
      start : (slot : ℕ) → slot < s.cells → (k j : ℕ) → k < cells_for (length r.writes) → j < 8 → cell_start s (cell_at ring slot) ≡ word_at s head k j → ⊥
      start slot below k j lt small same = ring_elsewhere s head r ring is_cell ne slot 0 below (omega arith) k j lt small (omega arith)

pub appending_law : LawOfAppending
appending_law s logged head r p q is_cell encodable home room mark way = (
  λ len long. record { each = λ image is. holds s logged head r p q is_cell encodable home room mark way len long image is },
  other_ring s logged head r p q is_cell encodable home room mark way,
)

-- a state that the ring fits is on the way
pub appending_here : (s : Sizes) (logged : List Logged) (released : ℕ) (head : Cell) (r : RedoBundle) (p : State) → FitsRing s head.ring logged released p → Appending s logged head r p p
appending_here s logged released head r p fits = record {
  told = refl;
  others = λ i x other may. may;
  settled_others = λ i x other is. is;
  records = fits.records;
  heads = λ slot tag below may over. inl (fits.heads slot tag below may over);
}

-- every image along an append has its heads
pub append_images : (s : Sizes) (logged : List Logged) (released : ℕ) (head : Cell) (r : RedoBundle) (p : State) (len : ℕ) → image_words s ≤ len
    → FitsRing s head.ring logged released p → CanAppend s (settled_mark p) logged head r
    → AfterEachCall (EveryImage len (HeadsHold s logged head r p)) p (append_calls s head r)
append_images s logged released head r p len long fits can =
    after_each_weaker (λ q way. (appending_law s logged head r p q can.cell can.encodable can.home can.room fits.mark way).0 len long) (append_law s logged released head r p fits can).0

-- An image of a state that the ring fits has its heads.
module _ (s : Sizes) (logged : List Logged) (released : ℕ) (head : Cell) (r : RedoBundle) (p : State) (fits : FitsRing s head.ring logged released p) where
  module _ (len : ℕ) (long : image_words s ≤ len) (image : List ℕ) (is : IsImage len p image) where
    mark_here : mark_of image ≡ settled_mark p
    mark_here = may_still (p.word 8) (settled_mark p) (slice_index image 8) fits.mark (is.each 8 (omega arith))

    head_here : (other : Cell) → other.ring ≡ head.ring → IsNewHead s (mark_of image) image other → IsComplete s image other × HasHead (number_of (tag_of s image other)) other.slot logged
    head_here other ring new =
        let found = find_head {P = λ l. settled_mark p < l.last → IsIntact s head.ring p l} (number_of (tag_of s image other)) other.slot logged fits.records has in
        let l = found.0 in
        let above : settled_mark p < l.last = subst (λ (n : ℕ). settled_mark p < n) (sym found.1) over.over in
        let same : head_of head.ring l ≡ other = cell_is (head_of head.ring l) other (sym ring) found.2 in
        (subst (IsComplete s image) same (intact_complete s head.ring l p len image (subst (IsCell s) (sym same) new.cell) long (found.3 above) is), has)
      where
        over : IsHeadOver (settled_mark p) (tag_of s image other)
        over = subst (λ (m : ℕ). IsHeadOver m (tag_of s image other)) mark_here new.new

        inside : cell_start s other < len
        inside = let last = word_inside s other new.cell 0 0 (omega arith) in let at = first_cell s other new.cell 0 in omega arith

        has : HasHead (number_of (tag_of s image other)) other.slot logged
        has = fits.heads other.slot (tag_of s image other) new.cell.slot_is
            (subst (λ (c : Cell). MayHold (p.word (cell_start s c)) (tag_of s image other)) (cell_is other (cell_at head.ring other.slot) ring refl) (is.each (cell_start s other) inside)) over

  pub heads_here : (len : ℕ) → image_words s ≤ len → EveryImage len (HeadsHold s logged head r p) p
  heads_here len long = record {
    each = λ image is. record {
      complete = λ other ring new. (head_here len long image is other ring new).0;
      known = λ other ring new. inl (head_here len long image is other ring new).1;
      others = λ i below other. is.each i (let size = is.size in omega arith);
      same_told = refl;
    };
  }
