-- The law of opening: the whole home is put, the mark is raised, the heads over the number are cleared, and an image of the
-- first version is raised.
use Rattle.std.proofs.Common.{◌≡◌, ◌≢◌, ◌⊎◌, inl, inr, ⊎_elim, ℕ, zero, suc, ◌*◌, ◌/◌, ◌<◌, ◌≤◌, List, [], ◌∷◌, ◌++◌, length, slice_index, refl, sym, ap, ◌∙◌, subst, arith, ne_eqb}
use Rattle.std.proofs.lemmas.Bool.{cases_eq}
use Rattle.dude_base.specs.declared.limits.TheConstants.{MAX_NUMBER, VERSION, VERSION_ONE}
use Rattle.dude_base.specs.declared.sizes.Sizes.{Sizes}
use Rattle.dude_base.specs.Image.{Cell, cell_at, cell_start, header_words, home_word, image_words}
use Rattle.pmem_trait.specs.Words.{IsIn, State, newest, value_of, MayHold, IsContent, IsSettled, EveryImage, AfterEachCall, AfterEachCall.end, after_all, settled_at}
use Rattle.pmem_trait.specs.Groups.{group_calls, values_put, final, OldOrNew}
use Rattle.pmem_trait.proofs.Images.{may_still}
use Rattle.pmem_trait.proofs.GroupLaw.{group_law, group_word, group_told, left_word, kept_word, mix_may, unwritten_may}
use Rattle.pmem_trait.proofs.GroupLists.{words_outside, words_inside}
use Rattle.pmem_trait.proofs.GroupWords.{group_may}
use Rattle.pmem_trait.proofs.Laws.{after_all_then, after_each_then}
use Rattle.redo_record.specs.Tags.{kind_of, IsHeadOver}
use Rattle.redo_record.specs.Cells.{IsCell, line_of}
use Rattle.redo_record.specs.Images.{sizes_of, version_of, tag_of, IsNewHead}
use Rattle.redo_record.specs.Recovery.{IsVersion, Recovers}
use Rattle.redo_record.specs.BackCalls.{mark_writes}
use Rattle.redo_record.specs.BackLaws.{HasNoHeads}
use Rattle.redo_record.proofs.HomeWrites.{put_beside_mark}
use Rattle.redo_record.proofs.HeldLog.{newest_version}
use Rattle.redo_record.proofs.RingHeads.{over_or_not}
use Rattle.dude_recover.specs.OpeningCalls.{home_puts, home_lines, stale_lines, clear_puts, clear_calls, raise_puts, raise_calls, opening_calls}
use Rattle.dude_recover.specs.OpeningLaw.{StillRecoversArray, IsOpenedState, LawOfOpening}
use Rattle.dude_recover.proofs.OpeningImages.{IsUnmarked, IsMarked, IsReady, IsHeadWord, header_is, words_count, unmarked_recovers, marked_recovers, ready_recovers, cell_start_in}
use Rattle.dude_recover.proofs.ClearedHeads.{in_range, stale_head, head_stale, cleared_value, not_cleared, cleared_last}

-- a settled word of the content
pub content_word : {len : ℕ} {p : State} {content : List ℕ} → IsContent len p content → IsSettled len p → (k : ℕ) → k < len → p.word k ≡ settled_at (slice_index content k)
content_word {p = p} is settled k lt = settled k lt ∙ ap settled_at (sym (ap value_of (settled k lt)) ∙ sym (is.each k lt))

-- a word beside the version isn't put where that is raised
unraised : (k : ℕ) → k ≢ 1 → values_put raise_puts k ≡ []
unraised k other = rw (ne_eqb k 1 other) refl

-- headers of two versions differ in one word
other_words : (s : Sizes) (before version i : ℕ) → i < 8 → i ≢ 1 → slice_index (header_words before s) i ≡ slice_index (header_words version s) i
other_words s before version zero below other = refl
other_words s before version (suc zero) below other = absurd (other refl)
other_words s before version (suc (suc i)) below other = refl

-- 0 is no head
no_head : (number tag : ℕ) → tag ≡ 0 → IsHeadOver number tag → ⊥
no_head number tag is over =
    let kind : kind_of 0 ≡ 1 = subst (λ (t : ℕ). kind_of t ≡ 1) is over.kind in
    cc

module _ {content words : List ℕ} {number len : ℕ} {p : State} (is : IsContent len p content) (settled : IsSettled len p) (recovers : Recovers content number words) (small : number ≤ MAX_NUMBER) where
  abbrev s : Sizes
  s = sizes_of content

  abbrev puts : List (ℕ × ℕ)
  puts = home_puts s words

  abbrev lines : List ℕ
  lines = home_lines s

  abbrev stale : List ℕ
  stale = stale_lines s number content

  abbrev Kept : List ℕ → List ℕ → Type 0
  Kept = StillRecoversArray p.told s number words

  long : image_words s ≤ len
  long = let whole = recovers.formatted.whole in let size = is.size in omega arith

  size_is : length words ≡ s.pages * 64
  size_is = words_count recovers

  word_is : (k : ℕ) → k < len → p.word k ≡ settled_at (slice_index content k)
  word_is k lt = content_word is settled k lt

  kept_unmarked : {told image : List ℕ} → told ≡ p.told → IsUnmarked content words image → Kept told image
  kept_unmarked same way = let both = unmarked_recovers recovers way in (same, record { recovered = both.1; same_sizes = both.0 })

  kept_marked : {told image : List ℕ} → told ≡ p.told → IsMarked number content words image → Kept told image
  kept_marked same way = let both = marked_recovers recovers way small in (same, record { recovered = both.1; same_sizes = both.0 })

  -- the home words
  home_none : (k : ℕ) → k < home_word s 0 → values_put puts k ≡ []
  home_none k below = words_outside (home_word s 0) words k (λ j lt same. omega arith)

  home_value : (i : ℕ) → i < s.pages * 64 → values_put puts (home_word s i) ≡ slice_index words i ∷ []
  home_value i below = words_inside (home_word s 0) words i (home_word s i) (omega arith) (let count = size_is in omega arith)

  home_line : (i : ℕ) → i < s.pages * 64 → IsIn (home_word s i / 8) lines
  home_line i below = subst (λ (l : ℕ). IsIn l lines) (omega arith) (in_range (home_word s 0 / 8) (s.pages * 8) (i / 8) (omega arith))

  home_mix : (image : List ℕ) → OldOrNew len p puts image → Kept p.told image
  home_mix image mix = kept_unmarked refl (record {
    size = mix.size ∙ sym is.size;
    header = λ i below. old i (omega arith);
    mark = old 8 (omega arith);
    cells = λ k low below. old k below;
    home = λ i below. ⊎_elim
        (λ may. inl (may_still _ _ _ (word_is (home_word s i) (omega arith)) may))
        (λ new. inr (by i below (subst (IsIn (slice_index image (home_word s i))) (home_value i below) new)))
        (mix.each (home_word s i) (omega arith));
  })
    where
      old : (k : ℕ) → k < home_word s 0 → slice_index image k ≡ slice_index content k
      old k below = kept_word mix k _ (omega arith) (home_none k below) (word_is k (omega arith))

      by : (i : ℕ) → i < s.pages * 64 → IsIn (slice_index image (home_word s i)) (slice_index words i ∷ []) → slice_index image (home_word s i) ≡ slice_index words i
      by i below (inl same) = same
      by i below (inr none) = absurd none

  abbrev p1 : State
  p1 = after_all (group_calls puts lines) p

  told1 : p1.told ≡ p.told
  told1 = group_told puts lines p

  before1 : (k : ℕ) → k < home_word s 0 → p1.word k ≡ settled_at (slice_index content k)
  before1 k below = left_word puts lines p k _ (home_none k below) (word_is k (omega arith))

  home1 : (i : ℕ) → i < s.pages * 64 → p1.word (home_word s i) ≡ settled_at (slice_index words i)
  home1 i below = group_word puts lines p (home_word s i) _ (word_is (home_word s i) (omega arith)) (inr (home_line i below))
      ∙ ap (λ (vs : List ℕ). settled_at (newest (slice_index content (home_word s i)) vs)) (home_value i below)

  -- the mark
  mark_mix : (image : List ℕ) → OldOrNew len p1 (mark_writes number) image → Kept p1.told image
  mark_mix image mix = by (mix.each 8 (omega arith))
    where
      old : (k x : ℕ) → k < len → k ≢ 8 → p1.word k ≡ settled_at x → slice_index image k ≡ x
      old k x lt other at_rest = kept_word mix k x lt (put_beside_mark number k other) at_rest

      by : MayHold (p1.word 8) (slice_index image 8) ⊎ IsIn (slice_index image 8) (number ∷ []) → Kept p1.told image
      by (inl may) = kept_unmarked told1 (record {
        size = mix.size ∙ sym is.size;
        header = λ i below. old i _ (omega arith) (λ same. omega arith) (before1 i (omega arith));
        mark = may_still _ _ _ (before1 8 (omega arith)) may;
        cells = λ k low below. old k _ (omega arith) (λ same. omega arith) (before1 k below);
        home = λ i below. inr (old (home_word s i) _ (omega arith) (λ same. omega arith) (home1 i below));
      })
      by (inr (inl new)) = kept_marked told1 (record {
        size = mix.size ∙ sym is.size;
        header = λ i below. old i _ (omega arith) (λ same. omega arith) (before1 i (omega arith));
        mark = new;
        cells = λ k low below. inl (old k _ (omega arith) (λ same. omega arith) (before1 k below));
        home = λ i below. old (home_word s i) _ (omega arith) (λ same. omega arith) (home1 i below);
      })
      by (inr (inr none)) = absurd none

  abbrev p2 : State
  p2 = after_all (group_calls (mark_writes number) (1 ∷ [])) p1

  told2 : p2.told ≡ p.told
  told2 = group_told (mark_writes number) (1 ∷ []) p1 ∙ told1

  stay2 : (k x : ℕ) → k ≢ 8 → p1.word k ≡ settled_at x → p2.word k ≡ settled_at x
  stay2 k x other at_rest = left_word (mark_writes number) (1 ∷ []) p1 k x (put_beside_mark number k other) at_rest

  -- What is settled once the mark is: all but the cells, and those at the content.
  record RestsMarked (q : State) : Type 0 where
    told : q.told ≡ p.told
    header : (i : ℕ) → i < 8 → q.word i ≡ settled_at (slice_index content i)
    mark : q.word 8 ≡ settled_at number
    home : (i : ℕ) → i < s.pages * 64 → q.word (home_word s i) ≡ settled_at (slice_index words i)

  marked2 : RestsMarked p2
  marked2 = record {
    told = told2;
    header = λ i below. stay2 i _ (λ same. omega arith) (before1 i (omega arith));
    mark = group_word (mark_writes number) (1 ∷ []) p1 8 (slice_index content 8) (before1 8 (omega arith)) (inr (inl refl));
    home = λ i below. stay2 (home_word s i) _ (λ same. omega arith) (home1 i below);
  }

  cells2 : (k : ℕ) → 16 ≤ k → k < home_word s 0 → p2.word k ≡ settled_at (slice_index content k)
  cells2 k low below = stay2 k _ (λ same. omega arith) (before1 k below)

  -- the end of an image of the newest version, where no head over the number is left
  opened_state : (q : State) → version_of content ≡ VERSION → RestsMarked q → HasNoHeads s number q → IsOpenedState s number words p q
  opened_state q newest marked none = record {
    rest = record {
      header = λ i below. marked.header i below ∙ ap settled_at (header_is recovers i below ∙ ap (λ (v : ℕ). slice_index (header_words v s) i) newest);
      mark = marked.mark;
      count = size_is;
      words = λ i below. marked.home i (let count = size_is in omega arith);
    };
    heads = none;
    told = marked.told;
  }

  -- the header of an image with this version, where the other words are the content's
  header_with : (version : ℕ) (image : List ℕ) → slice_index image 1 ≡ version → ((i : ℕ) → i < 8 → i ≢ 1 → slice_index image i ≡ slice_index content i)
      → (i : ℕ) → i < 8 → slice_index image i ≡ slice_index (header_words version s) i
  header_with version image one others i below = by (cases_eq i 1)
    where
      by : (i ≡ 1) ⊎ (i ≢ 1) → slice_index image i ≡ slice_index (header_words version s) i
      by (inl same) = subst (λ (k : ℕ). slice_index image k ≡ slice_index (header_words version s) k) (sym same) one
      by (inr other) = others i below other ∙ (header_is recovers i below ∙ other_words s (version_of content) version i below other)

  -- an image of a medium where no head over the number is left, with this version
  kept_ready : {told image : List ℕ} (version : ℕ) → told ≡ p.told → IsVersion version s → IsReady version number s words image → Kept told image
  kept_ready version same fits ready = let both = ready_recovers recovers.formatted.sizes fits small ready in (same, record { recovered = both.1; same_sizes = both.0 })

  module _ (q : State) (marked : RestsMarked q) (none : HasNoHeads s number q) where
    -- no image has such a head
    no_heads : (image : List ℕ) → ((k : ℕ) → 16 ≤ k → k < home_word s 0 → MayHold (q.word k) (slice_index image k)) → (head : Cell) → IsNewHead s number image head → ⊥
    no_heads image may head new =
        let at = cell_start_in s head new.cell in
        none head.ring head.slot (tag_of s image head) new.cell.ring_is new.cell.slot_is (may (cell_start s head) at.0 at.1) new.new

    raise_mix : (image : List ℕ) → OldOrNew len q raise_puts image → Kept q.told image
    raise_mix image mix = by (mix.each 1 (omega arith))
      where
        rest : (version : ℕ) → slice_index image 1 ≡ version → IsReady version number s words image
        rest version one = record {
          has = record {
            header = header_with version image one (λ i below other. kept_word mix i _ (omega arith) (unraised i other) (marked.header i below));
            mark = kept_word mix 8 _ (omega arith) (unraised 8 (λ same. omega arith)) marked.mark;
            count = size_is;
            words = λ i below. kept_word mix (home_word s i) _ (let count = size_is in omega arith) (unraised (home_word s i) (λ same. omega arith)) (marked.home i (let count = size_is in omega arith));
            whole = let size = mix.size in let whole = long in omega arith;
          };
          none = no_heads image (λ k low below. mix_may mix k (omega arith) (unraised k (λ same. omega arith)));
        }

        by : MayHold (q.word 1) (slice_index image 1) ⊎ IsIn (slice_index image 1) (VERSION ∷ []) → Kept q.told image
        by (inl may) = kept_ready (version_of content) marked.told recovers.formatted.version (rest (version_of content) (may_still _ _ _ (marked.header 1 (omega arith)) may))
        by (inr (inl new)) = kept_ready VERSION marked.told (newest_version s) (rest VERSION new)
        by (inr (inr none)) = absurd none

    abbrev raised : State
    raised = after_all (group_calls raise_puts (0 ∷ [])) q

    raised_state : IsOpenedState s number words p raised
    raised_state = record {
      rest = record {
        header = λ i below. raised_header i below;
        mark = left_word raise_puts (0 ∷ []) q 8 _ (unraised 8 (λ same. omega arith)) marked.mark;
        count = size_is;
        words = λ i below. left_word raise_puts (0 ∷ []) q (home_word s i) _ (unraised (home_word s i) (λ same. omega arith)) (marked.home i (let count = size_is in omega arith));
      };
      heads = λ ring slot tag ring_is slot_is may over.
          let at = cell_start_in s (cell_at ring slot) record { ring_is = ring_is; slot_is = slot_is } in
          let low = at.0 in
          none ring slot tag ring_is slot_is (unwritten_may raise_puts (0 ∷ []) q (cell_start s (cell_at ring slot)) tag (unraised (cell_start s (cell_at ring slot)) (λ same. omega arith)) may) over;
      told = group_told raise_puts (0 ∷ []) q ∙ marked.told;
    }
      where
        raised_header : (i : ℕ) → i < 8 → raised.word i ≡ settled_at (slice_index (header_words VERSION s) i)
        raised_header i below = by (cases_eq i 1)
          where
            by : (i ≡ 1) ⊎ (i ≢ 1) → raised.word i ≡ settled_at (slice_index (header_words VERSION s) i)
            by (inl same) = subst (λ (k : ℕ). raised.word k ≡ settled_at (slice_index (header_words VERSION s) k)) (sym same)
                (group_word raise_puts (0 ∷ []) q 1 (slice_index content 1) (marked.header 1 (omega arith)) (inr (inl refl)))
            by (inr other) = left_word raise_puts (0 ∷ []) q i _ (unraised i other) (marked.header i below)
                ∙ ap settled_at (header_is recovers i below ∙ other_words s (version_of content) VERSION i below other)

    -- the last group, or no call
    raise_law : AfterEachCall (EveryImage len Kept) q (raise_calls (version_of content)) × IsOpenedState s number words p (after_all (raise_calls (version_of content)) q)
    raise_law = by recovers.formatted.version.known
      where
        Law : ℕ → Type 0
        Law version = AfterEachCall (EveryImage len Kept) q (raise_calls version) × IsOpenedState s number words p (after_all (raise_calls version) q)

        by : (version_of content ≡ VERSION_ONE) ⊎ (version_of content ≡ VERSION) → Law (version_of content)
        by (inl one) = subst Law (sym one) (group_law raise_puts raise_mix (0 ∷ []), raised_state)
        by (inr newest) = subst Law (sym newest) (
          end (record {
            each = λ image image_is. kept_ready (version_of content) marked.told recovers.formatted.version (record {
              has = record {
                header = λ i below. may_still _ _ _ (marked.header i below) (image_is.each i (omega arith)) ∙ header_is recovers i below;
                mark = may_still _ _ _ marked.mark (image_is.each 8 (omega arith));
                count = size_is;
                words = λ i below. may_still _ _ _ (marked.home i (let count = size_is in omega arith)) (image_is.each (home_word s i) (let count = size_is in omega arith));
                whole = let size = image_is.size in let whole = long in omega arith;
              };
              none = no_heads image (λ k low below. image_is.each k (omega arith));
            });
          }),
          opened_state q newest marked none,
        )

  -- where these lines are cleared, among which are those of all heads over the number
  module _ (ls : List ℕ) (only : (line : ℕ) → IsIn line ls → (16 ≤ 8 * line) × (8 * line < home_word s 0) × IsHeadWord content (8 * line)) where
    none_outside : (k : ℕ) → (k < 16) ⊎ (home_word s 0 ≤ k) → values_put (clear_puts ls) k ≡ []
    none_outside k out = not_cleared ls k (λ line among same. let both = only line among in let low = both.0 in let high = both.1 in ⊎_elim (λ (lt : k < 16). omega arith) (λ (ge : home_word s 0 ≤ k). omega arith) out)

    clear_mix : (image : List ℕ) → OldOrNew len p2 (clear_puts ls) image → Kept p2.told image
    clear_mix image mix = kept_marked told2 (record {
      size = mix.size ∙ sym is.size;
      header = λ i below. kept_word mix i _ (omega arith) (none_outside i (inl (omega arith))) (marked2.header i below);
      mark = kept_word mix 8 _ (omega arith) (none_outside 8 (inl (omega arith))) marked2.mark;
      cells = λ k low below. ⊎_elim
          (λ may. inl (may_still _ _ _ (cells2 k low below) may))
          (λ new. let one = cleared_value ls k _ new in inr (one.zero_is, subst (IsHeadWord content) (sym one.first) (only one.line one.among).2))
          (mix.each k (omega arith));
      home = λ i below. kept_word mix (home_word s i) _ (omega arith) (none_outside (home_word s i) (inr (omega arith))) (marked2.home i below);
    })

    abbrev p3 : State
    p3 = after_all (group_calls (clear_puts ls) ls) p2

    marked3 : RestsMarked p3
    marked3 = record {
      told = group_told (clear_puts ls) ls p2 ∙ told2;
      header = λ i below. left_word (clear_puts ls) ls p2 i _ (none_outside i (inl (omega arith))) (marked2.header i below);
      mark = left_word (clear_puts ls) ls p2 8 _ (none_outside 8 (inl (omega arith))) marked2.mark;
      home = λ i below. left_word (clear_puts ls) ls p2 (home_word s i) _ (none_outside (home_word s i) (inr (omega arith))) (marked2.home i below);
    }

    heads3 : ((cell : Cell) → IsCell s cell → IsHeadOver number (slice_index content (cell_start s cell)) → IsIn (line_of s cell) ls) → HasNoHeads s number p3
    heads3 every ring slot tag ring_is slot_is may over = by (over_or_not number (slice_index content (cell_start s cell)))
      where
        cell : Cell
        cell = cell_at ring slot

        is_cell : IsCell s cell
        is_cell = record { ring_is = ring_is; slot_is = slot_is }

        here : p2.word (cell_start s cell) ≡ settled_at (slice_index content (cell_start s cell))
        here = let at = cell_start_in s cell is_cell in cells2 (cell_start s cell) at.0 at.1

        at_line : cell_start s cell ≡ 8 * line_of s cell
        at_line = omega arith

        by : IsHeadOver number (slice_index content (cell_start s cell)) ⊎ (IsHeadOver number (slice_index content (cell_start s cell)) → ⊥) → ⊥
        by (inl head) =
            let among = every cell is_cell head in
            let flushed : IsIn (cell_start s cell / 8) ls = subst (λ (l : ℕ). IsIn l ls) (omega arith) among in
            let last : final (clear_puts ls) (cell_start s cell) (slice_index content (cell_start s cell)) ≡ 0 =
            subst (λ (k : ℕ). final (clear_puts ls) k (slice_index content (cell_start s cell)) ≡ 0) (sym at_line) (cleared_last ls (line_of s cell) _ among) in
            let cleared : p3.word (cell_start s cell) ≡ settled_at 0 = group_word (clear_puts ls) ls p2 (cell_start s cell) _ here (inr flushed) ∙ ap settled_at last in
            no_head number tag (may_still _ _ tag cleared may) over
        by (inr other) = ⊎_elim
            (λ old. other (subst (IsHeadOver number) (may_still _ _ tag here old) over))
            (λ new. no_head number tag (cleared_value ls (cell_start s cell) tag new).zero_is over)
            (group_may (clear_puts ls) ls p2 (cell_start s cell) tag may)

  -- the last group, or no call
  clear_law : (ls : List ℕ) → ((line : ℕ) → IsIn line ls → (16 ≤ 8 * line) × (8 * line < home_word s 0) × IsHeadWord content (8 * line))
      → ((cell : Cell) → IsCell s cell → IsHeadOver number (slice_index content (cell_start s cell)) → IsIn (line_of s cell) ls)
      → AfterEachCall (EveryImage len Kept) p2 (clear_calls ls) × RestsMarked (after_all (clear_calls ls) p2) × HasNoHeads s number (after_all (clear_calls ls) p2)
  clear_law [] only every = (
    end (record {
      each = λ image image_is. kept_marked told2 (record {
        size = image_is.size ∙ sym is.size;
        header = λ i below. may_still _ _ _ (marked2.header i below) (image_is.each i (omega arith));
        mark = may_still _ _ _ marked2.mark (image_is.each 8 (omega arith));
        cells = λ k low below. inl (may_still _ _ _ (cells2 k low below) (image_is.each k (omega arith)));
        home = λ i below. may_still _ _ _ (marked2.home i below) (image_is.each (home_word s i) (omega arith));
      });
    }),
    marked2,
    (λ ring slot tag ring_is slot_is may over.
        let is_cell : IsCell s (cell_at ring slot) = record { ring_is = ring_is; slot_is = slot_is } in
        let at = cell_start_in s (cell_at ring slot) is_cell in
        every (cell_at ring slot) is_cell (subst (IsHeadOver number) (may_still _ _ tag (cells2 (cell_start s (cell_at ring slot)) at.0 at.1) may) over)),
  )
  clear_law (l ∷ ls) only every = (
    group_law (clear_puts (l ∷ ls)) (clear_mix (l ∷ ls) only) (l ∷ ls),
    marked3 (l ∷ ls) only,
    heads3 (l ∷ ls) only every,
  )

  pub opening_at_own : AfterEachCall (EveryImage len Kept) p (opening_calls (version_of content) s number words stale)
      × IsOpenedState s number words p (after_all (opening_calls (version_of content) s number words stale) p)
  unfolding opening_calls
  opening_at_own =
      let last = clear_law stale (λ line among. let three = stale_head s number content line among in three) (λ cell is_cell over. head_stale s number content cell is_cell over) in
      let raise = raise_calls (version_of content) in
      let end_law = raise_law (after_all (clear_calls stale) p2) last.1 last.2 in
      let behind : after_all (group_calls puts lines ++ (group_calls (mark_writes number) (1 ∷ []) ++ (clear_calls stale ++ raise))) p ≡ after_all raise (after_all (clear_calls stale) p2) =
      after_all_then (group_calls puts lines) (group_calls (mark_writes number) (1 ∷ []) ++ (clear_calls stale ++ raise)) p
      ∙ (after_all_then (group_calls (mark_writes number) (1 ∷ [])) (clear_calls stale ++ raise) p1 ∙ after_all_then (clear_calls stale) raise p2) in (
        after_each_then (group_law puts home_mix lines) (after_each_then (group_law (mark_writes number) mark_mix (1 ∷ [])) (after_each_then last.0 end_law.0)),
        subst (λ (q : State). IsOpenedState s number words p q) (sym behind) end_law.1,
      )

pub opening_law : LawOfOpening
opening_law s number words content len p is settled recovers small =
    subst (λ (t : Sizes). AfterEachCall (EveryImage len (StillRecoversArray p.told t number words)) p (opening_calls (version_of content) t number words (stale_lines t number content))
    × IsOpenedState t number words p (after_all (opening_calls (version_of content) t number words (stale_lines t number content)) p)) recovers.same_sizes (opening_at_own is settled recovers.recovered small)
