-- What an image on the way of an opening recovers to.
use Rattle.std.proofs.Common.{◌≡◌, ◌⊎◌, inl, inr, ⊎_elim, ℕ, zero, suc, ◌+◌, ◌*◌, ◌%◌, ◌<◌, ◌≤◌, List, [], length, slice_index, refl, sym, ap, ◌∙◌, subst, arith}
use Rattle.std.proofs.Math.Nat.{mod-lt}
use Rattle.std.proofs.lemmas.Bool.{cases_order}
use Rattle.std.proofs.lemmas.List.{get_or-take}
use Rattle.std.proofs.lemmas.List.Elements.{All-nil, All-weaker}
use Rattle.dude_base.specs.declared.limits.TheConstants.{MAX_NUMBER}
use Rattle.dude_base.specs.declared.sizes.Sizes.{Sizes}
use Rattle.dude_base.specs.Sizes.{IsAccepted}
use Rattle.dude_base.specs.Image.{Cell, cell_start, header_words, home_word, image_words}
use Rattle.dude_base.specs.Records.{RedoBundle, first_of, Covers, overwritten_by_all}
use Rattle.dude_base.proofs.Overwriting.{length-overwritten_by_all}
use Rattle.redo_record.specs.Tags.{kind_of, IsHeadOver}
use Rattle.redo_record.specs.Cells.{IsCell, word_at}
use Rattle.redo_record.specs.Record.{cells_for, count_of}
use Rattle.redo_record.specs.Images.{sizes_of, version_of, mark_of, home_of, tag_of, word_in_image, bundle_at, IsComplete, IsNewHead, IsSound}
use Rattle.redo_record.specs.Damage.{IsUndamaged}
use Rattle.redo_record.specs.Rest.{HasHome}
use Rattle.redo_record.specs.Recovery.{IsVersion, Recovers, HasRecord}
use Rattle.redo_record.proofs.CellPlaces.{first_cell}
use Rattle.redo_record.proofs.HeldRecords.{AreSame, word_one_same, complete_same, record_same}
use Rattle.redo_record.proofs.HeldLog.{in_cells, tag_number}
use Rattle.redo_record.proofs.Recovered.{recovery_law}
use Rattle.redo_record.proofs.WaitingRecords.{consecutive_up, consecutive_reach}
use Rattle.image_recovery.proofs.Homes.{length-home_of, index-home_of}
use Rattle.dude_recover.proofs.MixedHomes.{mixed_home}

-- a word of a cell lies between the header and the home
pub cell_word_in : (s : Sizes) (head : Cell) (k j : ℕ) → IsCell s head → j < 8 → (16 ≤ word_at s head k j) × (word_at s head k j < home_word s 0)
cell_word_in s head k j is small = in_cells s head.ring ((head.slot + k) % s.cells) j is.ring_is (mod-lt (head.slot + k) (let lt = is.slot_is in omega arith)) small

pub cell_start_in : (s : Sizes) (head : Cell) → IsCell s head → (16 ≤ cell_start s head) × (cell_start s head < home_word s 0)
cell_start_in s head is =
    let at = in_cells s head.ring head.slot 0 is.ring_is is.slot_is (omega arith) in
    (omega arith, omega arith)

-- the word is the first of a line, and holds a head
pub record IsHeadWord (content : List ℕ) (k : ℕ) : Type 0 where
  pub line : ℕ
  pub first : k ≡ 8 * line
  pub head : kind_of (slice_index content k) ≡ 1

-- The image still has the mark and the cells of the content. Each home word is the content's, or that of the array.
pub record IsUnmarked (content words image : List ℕ) : Type 0 where
  pub size : length image ≡ length content
  pub header : (i : ℕ) → i < 8 → slice_index image i ≡ slice_index content i
  pub mark : mark_of image ≡ mark_of content
  pub cells : (k : ℕ) → 16 ≤ k → k < home_word (sizes_of content) 0 → slice_index image k ≡ slice_index content k
  pub home : (i : ℕ) → i < (sizes_of content).pages * 64 → (slice_index image (home_word (sizes_of content) i) ≡ slice_index content (home_word (sizes_of content) i))
      ⊎ (slice_index image (home_word (sizes_of content) i) ≡ slice_index words i)

-- The image has the mark at the number and the array at home. Each word of a cell is the content's, or 0 in the place of a
-- head.
pub record IsMarked (number : ℕ) (content words image : List ℕ) : Type 0 where
  pub size : length image ≡ length content
  pub header : (i : ℕ) → i < 8 → slice_index image i ≡ slice_index content i
  pub mark : mark_of image ≡ number
  pub cells : (k : ℕ) → 16 ≤ k → k < home_word (sizes_of content) 0 → (slice_index image k ≡ slice_index content k) ⊎ ((slice_index image k ≡ 0) × IsHeadWord content k)
  pub home : (i : ℕ) → i < (sizes_of content).pages * 64 → slice_index image (home_word (sizes_of content) i) ≡ slice_index words i

-- The image has all that an opening puts, but perhaps not yet the newest version: no head over the number is left.
pub record IsReady (version number : ℕ) (s : Sizes) (words image : List ℕ) : Type 0 where
  pub has : HasHome version s number words image
  pub none : (head : Cell) → IsNewHead s number image head → ⊥

-- such an image recovers to what was put
pub ready_recovers : {version number : ℕ} {s : Sizes} {words image : List ℕ} → IsAccepted s → IsVersion version s → number ≤ MAX_NUMBER → IsReady version number s words image
    → (sizes_of image ≡ s) × Recovers image number words
ready_recovers {version} {number} {s} {words} {image} accepted fits small ready =
    recovery_law version s number words image number [] accepted fits small ready.has (record {
      complete = λ head new. absurd (ready.none head new);
      single = λ head other n one two covered too. absurd (ready.none head one);
    }) (All-nil (HasRecord s number image)) refl (λ head new same. ready.none head new)

-- a record whose cells are the same is as sound in an image of the same version
sound_same : {s : Sizes} {above : ℕ} {content image : List ℕ} {head : Cell} → version_of image ≡ version_of content
    → AreSame (word_in_image s content head) (word_in_image s image head) (cells_for (count_of (word_in_image s content head)))
    → IsSound s above content head → IsSound s above image head
sound_same {s} {above} {content} {image} {head} named same sound = record {
  complete = complete_same same sound.complete;
  version = λ one. subst (λ (word : ℕ). word ≤ 24) (sym (word_one_same same)) (sound.version (sym named ∙ one));
  over = subst (λ (b : RedoBundle). above < first_of b) (sym (record_same same)) sound.over;
}

module _ {content words : List ℕ} {number : ℕ} (recovers : Recovers content number words) where
  abbrev s : Sizes
  s = sizes_of content

  -- the header of the content is that of its version and sizes
  pub header_is : (i : ℕ) → i < 8 → slice_index content i ≡ slice_index (header_words (version_of content) s) i
  header_is i below = sym (get_or-take 8 content i 0 below) ∙ ap (λ (l : List ℕ). slice_index l i) recovers.formatted.header

  pub words_count : length words ≡ s.pages * 64
  words_count = ap length recovers.result ∙ (length-overwritten_by_all recovers.records (home_of s content) ∙ length-home_of s content recovers.formatted.whole)

  pub up : mark_of content ≤ number
  up = consecutive_up (mark_of content) number recovers.records recovers.consecutive

  -- a head with a number over the recovered one has its first number over it too: else it would cover that number, as the last
  -- record of those that lead to it does
  begins_over : (head : Cell) → IsNewHead s (mark_of content) content head → IsHeadOver number (tag_of s content head) → number < first_of (bundle_at s content head)
  begins_over head new over = by (cases_order number (first_of (bundle_at s content head)))
    where
      low : mark_of content < first_of (bundle_at s content head)
      low = (recovers.undamaged.complete head new).over

      high : number < (bundle_at s content head).last
      high = subst (λ (n : ℕ). number < n) (tag_number s content head (bundle_at s content head) new.cell refl) over.over

      met : first_of (bundle_at s content head) ≤ number → ⊥
      met upto =
          let reached = consecutive_reach (HasRecord s (mark_of content) content) (mark_of content) number number recovers.records recovers.logged recovers.consecutive (omega (arith, low, upto)) (omega arith) in
          let one = reached.holds in
          let too : Covers (bundle_at s content one.head) number = subst (λ (b : RedoBundle). Covers b number) (sym one.same) reached.covers in
          let same : head ≡ one.head = recovers.undamaged.single head one.head number new one.new record { low = upto; high = omega (arith, high) } too in
          let bundles : bundle_at s content head ≡ reached.one = ap (bundle_at s content) same ∙ one.same in
          let last : (bundle_at s content head).last ≡ reached.one.last = ap (λ (b : RedoBundle). b.last) bundles in
          let most = reached.upto in
          omega (arith, high, last, most)

      by : (number ≡ first_of (bundle_at s content head)) ⊎ ((number < first_of (bundle_at s content head)) ⊎ (first_of (bundle_at s content head) < number)) → number < first_of (bundle_at s content head)
      by (inl same) = absurd (met (omega arith))
      by (inr (inl lt)) = lt
      by (inr (inr gt)) = absurd (met (omega arith))

  -- an image with the content's cells
  module _ {image : List ℕ} (is : IsUnmarked content words image) where
    long : image_words s ≤ length image
    long = let whole = recovers.formatted.whole in let size = is.size in omega arith

    named : version_of image ≡ version_of content
    named = is.header 1 (omega arith)

    tag_is : (head : Cell) → IsCell s head → tag_of s image head ≡ tag_of s content head
    tag_is head cell = let at = cell_start_in s head cell in is.cells (cell_start s head) at.0 at.1

    head_old : (above : ℕ) (head : Cell) → IsNewHead s above image head → IsNewHead s above content head
    head_old above head new = record { cell = new.cell; new = subst (IsHeadOver above) (tag_is head new.cell) new.new }

    head_new : (above : ℕ) (head : Cell) → IsNewHead s above content head → IsNewHead s above image head
    head_new above head old = record { cell = old.cell; new = subst (IsHeadOver above) (sym (tag_is head old.cell)) old.new }

    cells_same : (head : Cell) (n : ℕ) → IsCell s head → AreSame (word_in_image s content head) (word_in_image s image head) n
    cells_same head n cell = record { word = λ k j lt small. let at = cell_word_in s head k j cell small in is.cells (word_at s head k j) at.0 at.1 }

    unmarked_undamaged : IsUndamaged s (mark_of content) image
    unmarked_undamaged = record {
      complete = λ head new. sound_same named (cells_same head _ new.cell) (recovers.undamaged.complete head (head_old _ head new));
      single = λ head other n one two covered too. recovers.undamaged.single head other n (head_old _ head one) (head_old _ other two)
          (subst (λ (b : RedoBundle). Covers b n) (record_same (cells_same head _ one.cell)) covered)
          (subst (λ (b : RedoBundle). Covers b n) (record_same (cells_same other _ two.cell)) too);
    }

    unmarked_record : (r : RedoBundle) → HasRecord s (mark_of content) content r → HasRecord s (mark_of content) image r
    unmarked_record r has = record { head = has.head; new = head_new _ has.head has.new; same = record_same (cells_same has.head _ has.new.cell) ∙ has.same }

    unmarked_home : HasHome (version_of content) s (mark_of content) (home_of s image) image
    unmarked_home = record {
      header = λ i below. is.header i below ∙ header_is i below;
      mark = is.mark;
      count = length-home_of s image long;
      words = λ i below. sym (index-home_of s image i (let count = length-home_of s image long in omega arith));
      whole = long;
    }

    home_leads : overwritten_by_all recovers.records (home_of s image) ≡ words
    home_leads = mixed_home recovers.records (home_of s content) (home_of s image) (length-home_of s image long ∙ sym (length-home_of s content recovers.formatted.whole)) mixed ∙ sym recovers.result
      where
        mixed : (i : ℕ) → i < length (home_of s content) → (slice_index (home_of s image) i ≡ slice_index (home_of s content) i)
            ⊎ (slice_index (home_of s image) i ≡ slice_index (overwritten_by_all recovers.records (home_of s content)) i)
        mixed i lt =
            let below : i < s.pages * 64 = let count = length-home_of s content recovers.formatted.whole in omega arith in
            let here = index-home_of s image i below in
            ⊎_elim
            (λ old. inl (here ∙ (old ∙ sym (index-home_of s content i below))))
            (λ new. inr (here ∙ (new ∙ ap (λ (l : List ℕ). slice_index l i) recovers.result)))
            (is.home i below)

    pub unmarked_recovers : (sizes_of image ≡ s) × Recovers image number words
    unmarked_recovers =
        let law = recovery_law (version_of content) s (mark_of content) (home_of s image) image number recovers.records recovers.formatted.sizes recovers.formatted.version recovers.small unmarked_home unmarked_undamaged
        (All-weaker (HasRecord s (mark_of content) content) (HasRecord s (mark_of content) image) unmarked_record recovers.records recovers.logged) recovers.consecutive
        (λ head new same. recovers.greatest head (head_old _ head new) (sym (ap (λ (b : RedoBundle). first_of b) (record_same (cells_same head _ new.cell))) ∙ same)) in
        (law.0, subst (λ (l : List ℕ). Recovers image number l) home_leads law.1)

  -- an image with the mark at the number
  module _ {image : List ℕ} (is : IsMarked number content words image) where
    whole_image : image_words s ≤ length image
    whole_image = let whole = recovers.formatted.whole in let size = is.size in omega arith

    -- a head that is left is one of the content
    left_tag : (above : ℕ) (head : Cell) → IsNewHead s above image head → tag_of s image head ≡ tag_of s content head
    left_tag above head new = let at = cell_start_in s head new.cell in ⊎_elim
        (λ same. same)
        (λ cleared. absurd (let kind : kind_of 0 ≡ 1 = subst (λ (t : ℕ). kind_of t ≡ 1) cleared.0 new.new.kind in cc))
        (is.cells (cell_start s head) at.0 at.1)

    left_head : (head : Cell) → IsNewHead s number image head → IsNewHead s (mark_of content) content head
    left_head head new =
        let tag : IsHeadOver number (tag_of s content head) = subst (IsHeadOver number) (left_tag number head new) new.new in
        let over = tag.over in
        let low = up in
        record { cell = new.cell; new = record { kind = tag.kind; over = omega arith } }

    -- none of the words of its record was cleared
    left_words : (head : Cell) → IsNewHead s number image head → IsComplete s content head → AreSame (word_in_image s content head) (word_in_image s image head) (cells_for (count_of (word_in_image s content head)))
    left_words head new complete = record { word = λ k j lt small. let at = cell_word_in s head k j new.cell small in ⊎_elim (λ same. same) (λ cleared. absurd (by k j lt small cleared)) (is.cells (word_at s head k j) at.0 at.1) }
      where
        by : (k j : ℕ) → k < cells_for (count_of (word_in_image s content head)) → j < 8 → (slice_index image (word_at s head k j) ≡ 0) × IsHeadWord content (word_at s head k j) → ⊥
        by k (suc j) lt small cleared = let line = cleared.1.line in let first = cleared.1.first in omega arith
        by zero zero lt small cleared =
            let here : word_at s head 0 0 ≡ cell_start s head = omega (arith, first_cell s head new.cell 0) in
            let tag : tag_of s image head ≡ 0 = ap (slice_index image) (sym here) ∙ cleared.0 in
            let kind : kind_of 0 ≡ 1 = subst (λ (t : ℕ). kind_of t ≡ 1) tag new.new.kind in
            cc
        by (suc k) zero lt small cleared =
            let two : kind_of (slice_index content (word_at s head (suc k) 0)) ≡ 2 = (complete.whole.continued (suc k) (omega arith) lt).kind in
            let one : kind_of (slice_index content (word_at s head (suc k) 0)) ≡ 1 = cleared.1.head in
            omega arith

    left_record : (head : Cell) → IsNewHead s number image head → bundle_at s image head ≡ bundle_at s content head
    left_record head new = record_same (left_words head new (recovers.undamaged.complete head (left_head head new)).complete)

    marked_undamaged : IsUndamaged s number image
    marked_undamaged = record {
      complete = λ head new. let sound = recovers.undamaged.complete head (left_head head new) in
          sound_same (is.header 1 (omega arith)) (left_words head new sound.complete) (record {
            complete = sound.complete;
            version = sound.version;
            over = begins_over head (left_head head new) (subst (IsHeadOver number) (left_tag number head new) new.new);
          });
      single = λ head other n one two covered too. recovers.undamaged.single head other n (left_head head one) (left_head other two)
          (subst (λ (b : RedoBundle). Covers b n) (left_record head one) covered) (subst (λ (b : RedoBundle). Covers b n) (left_record other two) too);
    }

    marked_home : HasHome (version_of content) s number words image
    marked_home = record {
      header = λ i below. is.header i below ∙ header_is i below;
      mark = is.mark;
      count = words_count;
      words = λ i below. is.home i (let count = words_count in omega arith);
      whole = whole_image;
    }

    pub marked_recovers : number ≤ MAX_NUMBER → (sizes_of image ≡ s) × Recovers image number words
    marked_recovers small = recovery_law (version_of content) s number words image number [] recovers.formatted.sizes recovers.formatted.version small marked_home marked_undamaged (All-nil (HasRecord s number image)) refl
        (λ head new same. recovers.greatest head (left_head head new) (sym (ap (λ (b : RedoBundle). first_of b) (left_record head new)) ∙ same))
