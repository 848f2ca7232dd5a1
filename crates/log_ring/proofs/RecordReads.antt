-- The words of a record as they are read from the content, and what they decode to.
use Rattle.std.proofs.Common.{◌≡◌, ◌≢◌, ⊎_elim, ℕ, ◌+◌, ◌*◌, ◌/◌, ◌%◌, ◌^◌, ◌<◌, ◌≤◌, List, length, length-take-le, take, get_or-take, slice_index, slice_set, Option, Some, None, sym, ap, ◌∙◌, subst, arith, get_or-set_same, get_or-set_other}
use Rattle.std.proofs.lemmas.Bool.{cases_eq}
use Rattle.dude_base.specs.declared.sizes.Sizes.{Sizes}
use Rattle.dude_base.specs.Records.{RedoBundle, first_of}
use Rattle.pmem_trait.specs.Sights.{Sight}
use Rattle.pmem_trait.specs.Reads.{ContentHas}
use Rattle.redo_record.specs.Tags.{IsHeadOver}
use Rattle.dude_base.specs.Image.{Cell, cell_start}
use Rattle.redo_record.specs.Cells.{IsCell, line_of}
use Rattle.redo_record.specs.Record.{cells_for, count_of, FitsVersion}
use Rattle.redo_record.specs.Encoding.{word_in_slice}
use Rattle.redo_record.specs.Images.{tag_of, version_of, word_in_image, IsComplete, IsNewHead, IsSound}
use Rattle.redo_record.specs.Damage.{IsTorn}
use Rattle.redo_record.proofs.CellPlaces.{first_cell}
use Rattle.redo_record.proofs.HeldRecords.{AreSame, holds_same, complete_same, count_same, record_same}
use Rattle.log_ring.specs.Heads.{head_at}
use Rattle.log_ring.specs.Scanning.{HoldsHome, IsHomeRecord, IsRecordAt, VersionHas}

-- one word more
pub word_more : (f : ℕ → ℕ) (words : List ℕ) (i v : ℕ) → i < length words → ((j : ℕ) → j < i → slice_index words j ≡ f j) → f i ≡ v
    → (j : ℕ) → j < i + 1 → slice_index (slice_set words i v) j ≡ f j
word_more f words i v inside before is j below = ⊎_elim
    (λ (same : j ≡ i). subst (λ (k : ℕ). slice_index (slice_set words i v) k ≡ f k) (sym same) (get_or-set_same words i v 0 inside ∙ sym is))
    (λ (apart : j ≢ i). get_or-set_other words i j v 0 apart ∙ before j (omega arith))
    (cases_eq j i)

-- word j of a head
pub word_of_head : (s : Sizes) (content : List ℕ) (head : Cell) (start j v : ℕ) → IsCell s head → start ≡ cell_start s head → slice_index content (start + j) ≡ v → word_in_image s content head 0 j ≡ v
word_of_head s content head start j v is_cell at is = ap (slice_index content) (first_cell s head is_cell j ∙ ap (λ x. x + j) (sym at)) ∙ is

-- the head of a number over this one, by its tag
pub new_head : (s : Sizes) (above : ℕ) (content : List ℕ) (head : Cell) (start tag : ℕ) → IsCell s head → start ≡ cell_start s head → slice_index content start ≡ tag
    → tag / 2 ^ 62 ≡ 1 → above < tag % 2 ^ 62 → IsNewHead s above content head
new_head s above content head start tag is_cell at is kind over =
    let tag_is : tag_of s content head ≡ tag = ap (slice_index content) (sym at) ∙ is in
    record { cell = is_cell; new = subst (IsHeadOver above) (sym tag_is) (record { kind = kind; over = over }) }

-- no head of a number over this one, by its tag
pub no_head : (s : Sizes) (above : ℕ) (content : List ℕ) (head : Cell) (start tag : ℕ) → start ≡ cell_start s head → slice_index content start ≡ tag
    → (tag / 2 ^ 62 ≡ 1 → tag % 2 ^ 62 ≤ above) → ¬ IsNewHead s above content head
no_head s above content head start tag at is low new =
    let over : IsHeadOver above tag = subst (IsHeadOver above) (ap (slice_index content) (sym at) ∙ is) new.new in
    let least = low over.kind in
    let more = over.over in
    omega arith

-- a head whose record is complete, by the record's numbers
module _ (s : Sizes) (version above : ℕ) (content : List ℕ) (head : Cell) (r : RedoBundle) (found : IsRecordAt s version content head (Some r)) where
  pub sound_head : version_of content ≡ version → above < first_of r → IsSound s above content head
  sound_head of_version over = record {
    complete = found.0;
    version = subst (λ (v : ℕ). FitsVersion v (word_in_image s content head)) (sym of_version) found.1;
    over = subst (λ (b : RedoBundle). above < first_of b) (sym found.2) over;
  }

  pub unsound_head : first_of r ≤ above → ¬ IsSound s above content head
  unsound_head low sound =
      let over : above < first_of r = subst (λ (b : RedoBundle). above < first_of b) found.2 sound.over in
      omega arith

  pub head_of_record : (last span : ℕ) → r.last ≡ last → r.span ≡ span → head_at s content head ≡ record { last = last; span = span; ring = head.ring; slot = head.slot }
  head_of_record last span is_last is_span =
      ap (λ (b : RedoBundle). record { last = b.last; span = b.span; ring = head.ring; slot = head.slot }) found.2
      ∙ (ap (λ (n : ℕ). record { last = n; span = r.span; ring = head.ring; slot = head.slot }) is_last ∙ ap (λ (n : ℕ). record { last = last; span = n; ring = head.ring; slot = head.slot }) is_span)

module _ (s : Sizes) (content words : List ℕ) (head : Cell) (count cells : ℕ) (needs : cells ≡ cells_for count) (few : cells ≤ 32) (room : cells ≤ s.cells) (long : length words ≡ 256) (version : ℕ) (fits : FitsVersion version (word_in_image s content head))
    (counted : count_of (word_in_image s content head) ≡ count) (is : (k j : ℕ) → k < cells → j < 8 → slice_index words (8 * k + j) ≡ word_in_image s content head k j) where
  abbrev pub slice : List ℕ
  slice = take (8 * cells) words

  size : length slice ≡ 8 * cells
  size = length-take-le (8 * cells) words (omega arith)

  word_same : (k j : ℕ) → k < cells → j < 8 → word_in_slice slice k j ≡ word_in_image s content head k j
  word_same k j lt small = get_or-take (8 * cells) words (8 * k + j) 0 (omega arith) ∙ is k j lt small

  below : {k n : ℕ} → n ≡ count → k < cells_for n → k < cells
  below {k} {n} is_count lt = let same : cells_for n ≡ cells = ap cells_for is_count ∙ sym needs in omega arith

  same : AreSame (word_in_image s content head) (word_in_slice slice) (cells_for (count_of (word_in_image s content head)))
  same = record { word = λ k j lt small. word_same k j (below counted lt) small }

  slice_counted : count_of (word_in_slice slice) ≡ count
  slice_counted = count_same same ∙ counted

  back : AreSame (word_in_slice slice) (word_in_image s content head) (cells_for (count_of (word_in_slice slice)))
  back = record { word = λ k j lt small. sym (word_same k j (below slice_counted lt) small) }

  holds_home : IsComplete s content head → HoldsHome s slice
  holds_home held = record {
    slice = record { whole = holds_same same held.whole; size = size ∙ ap (λ n. 8 * n) (needs ∙ ap cells_for (sym slice_counted)) };
    room = (complete_same same held).room;
    home = (complete_same same held).home;
  }

  -- what was decoded is the record of the content's cells
  pub record_is : (found : Option RedoBundle) → IsHomeRecord s slice found → IsRecordAt s version content head found
  record_is None none = λ held ok. none (holds_home held)
  record_is (Some r) some = (
    complete_same back (record { whole = some.0.slice.whole; room = some.0.room; home = some.0.home }),
    fits,
    record_same back ∙ sym some.1,
  )

-- at the line of a cell whose tag is that of a head over this number, but which has no sound record, a torn head is named
pub named_torn : (s : Sizes) (version above : ℕ) (cell : Cell) (start tag line : ℕ) (m : Sight) → IsCell s cell → start ≡ cell_start s cell → line ≡ start / 8 → ContentHas (λ content. slice_index content start ≡ tag) m
    → tag / 2 ^ 62 ≡ 1 → above < tag % 2 ^ 62 → VersionHas version (λ content. ¬ IsSound s above content cell) m → (line ≡ line_of s cell) × VersionHas version (λ content. IsTorn s above content cell) m
named_torn s version above cell start tag line m is_cell at on tagged kind over unsound = (
  omega (arith, at, on),
  λ told content holds of_version. record { head = new_head s above content cell start tag is_cell at (tagged told content holds) kind over; incomplete = unsound told content holds of_version },
)
