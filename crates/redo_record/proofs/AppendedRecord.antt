-- The law of append: the group of the body, then that of the tag.
use Rattle.std.proofs.Common.{◌≡◌, ◌≢◌, ◌⊎◌, inl, inr, ⊎_elim, ℕ, zero, suc, ◌+◌, ◌*◌, ◌/◌, ◌%◌, ◌<◌, ◌≤◌, List, [], ◌∷◌, ◌++◌, length, get_or, slice_index, refl, sym, ap, ◌∙◌, subst, arith, All}
use Rattle.std.proofs.lemmas.Bool.{cases_eq}
use Rattle.std.proofs.lemmas.List.Elements.{All-cons, All-nil, All-append}
use Rattle.dude_base.specs.declared.sizes.Sizes.{Sizes}
use Rattle.dude_base.specs.declared.write.Write.{Write}
use Rattle.dude_base.specs.Image.{Cell, cell_at, cell_start}
use Rattle.dude_base.specs.Records.{RedoBundle}
use Rattle.pmem_trait.specs.Words.{Word, State, IsIn, AfterEachCall, settled_at, newest, value_of, after_all}
use Rattle.pmem_trait.specs.Groups.{group_calls, values_put}
use Rattle.pmem_trait.proofs.GroupLaw.{group_told, left_word}
use Rattle.pmem_trait.proofs.GroupWords.{group_flushed, group_may}
use Rattle.pmem_trait.proofs.GroupStates.{OnTheWay, group_way}
use Rattle.pmem_trait.proofs.Laws.{after_each_last, after_each_then, after_each_weaker, after_all_then}
use Rattle.redo_record.specs.Tags.{number_of, head_tag, continuation_tag, IsHeadOver}
use Rattle.redo_record.specs.Cells.{line_of, word_at}
use Rattle.redo_record.specs.Record.{cells_for, count_of, HoldComplete}
use Rattle.redo_record.specs.Encoding.{encoded}
use Rattle.redo_record.specs.Fits.{Logged, FitsRing, IsIntact, settled_mark, settled_word}
use Rattle.redo_record.specs.Calls.{body_writes, lines_from, tag_write, append_calls}
use Rattle.redo_record.specs.AppendLaw.{CanAppend, IsElsewhere, Appending, Appended, logged_as, LawOfAppend}
use Rattle.redo_record.proofs.HeldRecords.{AreSame, complete_same, count_same, span_same, tag_same}
use Rattle.redo_record.proofs.EncodedCells.{cells_of_record, encoded_holds, encoded_count, encoded_span, encoded_writes, encoded_continuation, counted}
use Rattle.redo_record.proofs.CellPlaces.{among, first_cell, head_line, line_in, places_same, word_line}
use Rattle.redo_record.proofs.RecordWrites.{body_elsewhere, body_word, body_tag, tag_elsewhere, tag_there}
use Rattle.redo_record.proofs.RingHeads.{is_settled, intact_by, head_before, head_last, header_elsewhere, cells_elsewhere}

module _ (s : Sizes) (logged : List Logged) (released : ℕ) (head : Cell) (r : RedoBundle) where
  few_cells : {mark : ℕ} → CanAppend s mark logged head r → cells_for (length r.writes) ≤ s.cells
  few_cells can = can.room

  -- the record's own cells hold it completely
  pub encoded_complete : {mark : ℕ} → CanAppend s mark logged head r → HoldComplete s (cells_of_record r)
  encoded_complete can = record {
    whole = encoded_holds r can.encodable;
    room = subst (λ (n : ℕ). cells_for n ≤ s.cells) (sym (encoded_count r can.encodable.writes_are.few)) can.room;
    home = subst (λ (ws : List Write). All (λ w. w.at < s.pages * 64) ws) (sym (encoded_writes r can.encodable.writes_are.few)) can.home;
  }

  -- the body puts no head into a cell's first word
  body_no_head : {mark above : ℕ} → CanAppend s mark logged head r → (slot tag : ℕ)
      → IsIn tag (values_put (body_writes s head r) (cell_start s (cell_at head.ring slot))) → IsHeadOver above tag → ⊥
  body_no_head can slot tag is over = ⊎_elim
      (λ (found : (k : ℕ) × (k < cells_for (length r.writes)) × (slot ≡ (head.slot + k) % s.cells)). at found.0 found.1 found.2)
      (λ (none : (k : ℕ) → k < cells_for (length r.writes) → slot ≡ (head.slot + k) % s.cells → ⊥).
      subst (IsIn tag) (body_elsewhere s head can.cell r (cell_start s (cell_at head.ring slot)) (λ k j lt small same. none k lt (omega arith))) is)
      (among s.cells head.slot slot (cells_for (length r.writes)))
    where
      start_is : (k : ℕ) → slot ≡ (head.slot + k) % s.cells → cell_start s (cell_at head.ring slot) ≡ word_at s head k 0
      start_is k same = ap (λ x. 16 + (head.ring * s.cells + x) * 8) same ∙ omega arith

      no_head : (k : ℕ) → 1 ≤ k → IsIn tag (slice_index (encoded r k) 0 ∷ []) → ⊥
      no_head k low (inl t) =
          let is : tag ≡ continuation_tag r.last = t ∙ (encoded_continuation r k low).0 in
          let high = can.encodable.number_is.high in
          let kind = over.kind in
          omega arith
      no_head k low (inr none) = none

      at : (k : ℕ) → k < cells_for (length r.writes) → slot ≡ (head.slot + k) % s.cells → ⊥
      at zero lt same = subst (IsIn tag) (ap (values_put (body_writes s head r)) (start_is 0 same ∙ (first_cell s head can.cell 0 ∙ omega arith)) ∙ body_tag s head can.cell r (few_cells can)) is
      at (suc k) lt same = no_head (suc k) (omega arith)
          (subst (IsIn tag) (ap (values_put (body_writes s head r)) (start_is (suc k) same) ∙ body_word s head can.cell r (few_cells can) (suc k) 0 lt (omega arith) (inl (omega arith))) is)

  -- a tag that the second group writes is that of the head
  tag_is_own : (slot tag : ℕ) → IsIn tag (values_put (tag_write s head r) (cell_start s (cell_at head.ring slot))) → (slot ≡ head.slot) × (tag ≡ head_tag r.last)
  tag_is_own slot tag is = ⊎_elim
      (λ (same : cell_start s (cell_at head.ring slot) ≡ cell_start s head).
      (omega arith, single (subst (IsIn tag) (tag_there s head r _ same) is)))
      (λ (ne : cell_start s (cell_at head.ring slot) ≢ cell_start s head). absurd (subst (IsIn tag) (tag_elsewhere s head r _ ne) is))
      (cases_eq (cell_start s (cell_at head.ring slot)) (cell_start s head))
    where
      single : IsIn tag (head_tag r.last ∷ []) → tag ≡ head_tag r.last
      single (inl e) = e
      single (inr none) = absurd none

  -- elsewhere the second group writes nothing
  tag_outside : {mark : ℕ} → CanAppend s mark logged head r → (i : ℕ) → IsElsewhere s head r i → values_put (tag_write s head r) i ≡ []
  tag_outside can i other = tag_elsewhere s head r i (λ is. other 0 0 (omega arith) (omega arith) (is ∙ (omega arith ∙ sym (first_cell s head can.cell 0))))

  -- nor at the other words of the record
  tag_apart : {mark : ℕ} → CanAppend s mark logged head r → (k j : ℕ) → k < cells_for (length r.writes) → j < 8 → (1 ≤ k) ⊎ (1 ≤ j) → values_put (tag_write s head r) (word_at s head k j) ≡ []
  tag_apart can k j lt small other = tag_elsewhere s head r (word_at s head k j) (λ is. ne other (is ∙ (omega arith ∙ sym (first_cell s head can.cell 0))))
    where
      ne : (1 ≤ k) ⊎ (1 ≤ j) → word_at s head k j ≡ word_at s head 0 0 → ⊥
      ne (inl a) same = let it = places_same s head can.cell (cells_for (length r.writes)) (few_cells can) k 0 j 0 lt (omega arith) small (omega arith) same in let first = it.0 in omega arith
      ne (inr a) same = let it = places_same s head can.cell (cells_for (length r.writes)) (few_cells can) k 0 j 0 lt (omega arith) small (omega arith) same in let second = it.1 in omega arith

  module _ (p : State) (fits : FitsRing s head.ring logged released p) (can : CanAppend s (settled_mark p) logged head r) where
    abbrev body : List (ℕ × ℕ)
    body = body_writes s head r

    abbrev lines : List ℕ
    lines = lines_from s head (cells_for (length r.writes))

    abbrev tag : List (ℕ × ℕ)
    tag = tag_write s head r

    -- the state after the body's group, and after the tag's
    abbrev with_body : State
    with_body = after_all (group_calls body lines) p

    abbrev with_tag : State
    with_tag = after_all (group_calls tag (line_of s head ∷ [])) with_body

    body_outside : (i : ℕ) → IsElsewhere s head r i → values_put body i ≡ []
    body_outside = body_elsewhere s head can.cell r

    -- the words of the body are settled
    settled_body : (k j : ℕ) → k < cells_for (length r.writes) → j < 8 → (1 ≤ k) ⊎ (1 ≤ j) → with_body.word (word_at s head k j) ≡ settled_at (slice_index (encoded r k) j)
    settled_body k j lt small other =
        group_flushed body lines p (word_at s head k j)
        (subst (λ (l : ℕ). IsIn l lines) (sym (word_line s head can.cell k j small)) (line_in s head (cells_for (length r.writes)) k lt))
        ∙ ap (λ (vs : List ℕ). settled_at (newest (value_of (p.word (word_at s head k j))) vs)) (body_word s head can.cell r (few_cells can) k j lt small other)

    -- the ring's records stay intact where the settled words elsewhere stay
    stay_intact : (q : State) → ((i x : ℕ) → IsElsewhere s head r i → p.word i ≡ settled_at x → q.word i ≡ settled_at x) → All (λ l. settled_mark p < l.last → IsIntact s head.ring q l) logged
    stay_intact q stays k d lt over =
        let intact = fits.records k d lt over in
        intact_by intact (λ i j below small. stays _ _ (cells_elsewhere s head (cell_at head.ring (get_or logged k d).slot) r (get_or logged k d).cells refl (can.free k d lt over) i j below small) (intact.settled_words i j below small))

    way_body : (q : State) → OnTheWay p body q → Appending s logged head r p q
    way_body q way = record {
      told = way.told;
      others = λ i x other may. ⊎_elim (λ old. old) (λ (new : IsIn x (values_put body i)). absurd (subst (IsIn x) (body_outside i other) new)) (way.value i x may);
      settled_others = stays;
      records = stay_intact q stays;
      heads = λ slot t below may over. ⊎_elim (λ old. inl (fits.heads slot t below old over)) (λ new. absurd (body_no_head can slot t new over)) (way.value (cell_start s (cell_at head.ring slot)) t may);
    }
      where
        stays : (i x : ℕ) → IsElsewhere s head r i → p.word i ≡ settled_at x → q.word i ≡ settled_at x
        stays i x other is = way.stays i x (body_outside i other) is

    way_tag : (q : State) → OnTheWay with_body tag q → Appending s logged head r p q
    way_tag q way = record {
      told = way.told ∙ group_told body lines p;
      others = λ i x other may. ⊎_elim (λ old. old) (λ (new : IsIn x (values_put body i)). absurd (subst (IsIn x) (body_outside i other) new)) (group_may body lines p i x
          (⊎_elim (λ old. old) (λ (new : IsIn x (values_put tag i)). absurd (subst (IsIn x) (tag_outside can i other) new)) (way.value i x may)));
      settled_others = stays;
      records = stay_intact q stays;
      heads = λ slot t below may over. ⊎_elim
          (λ old. ⊎_elim (λ first. inl (fits.heads slot t below first over)) (λ new. absurd (body_no_head can slot t new over)) (group_may body lines p (cell_start s (cell_at head.ring slot)) t old))
          (λ new. let own = tag_is_own slot t new in inr (own.0, own.1, kept)) (way.value (cell_start s (cell_at head.ring slot)) t may);
    }
      where
        stays : (i x : ℕ) → IsElsewhere s head r i → p.word i ≡ settled_at x → q.word i ≡ settled_at x
        stays i x other is = way.stays i x (tag_outside can i other) (left_word body lines p i x (body_outside i other) is)

        kept : (k j : ℕ) → k < cells_for (length r.writes) → j < 8 → (1 ≤ k) ⊎ (1 ≤ j) → q.word (word_at s head k j) ≡ settled_at (slice_index (encoded r k) j)
        kept k j lt small other = way.stays (word_at s head k j) (slice_index (encoded r k) j) (tag_apart can k j lt small other) (settled_body k j lt small other)

    along_append : AfterEachCall (Appending s logged head r p) p (append_calls s head r)
    unfolding append_calls
    along_append = after_each_then (after_each_weaker way_body (group_way body lines)) (after_each_weaker way_tag (group_way tag (line_of s head ∷ [])))

    append_ends : after_all (append_calls s head r) p ≡ with_tag
    unfolding append_calls
    append_ends = after_all_then (group_calls body lines) (group_calls tag (line_of s head ∷ [])) p

    -- a word of the body stays as it is under the tag's group
    untouched : (k j : ℕ) → k < cells_for (length r.writes) → j < 8 → (1 ≤ k) ⊎ (1 ≤ j) → with_tag.word (word_at s head k j) ≡ settled_at (slice_index (encoded r k) j)
    untouched k j lt small other =
        left_word tag (line_of s head ∷ []) with_body (word_at s head k j) (slice_index (encoded r k) j) (tag_apart can k j lt small other) (settled_body k j lt small other)

    -- the whole record is settled
    settled_tag : (k j : ℕ) → k < cells_for (length r.writes) → j < 8 → with_tag.word (word_at s head k j) ≡ settled_at (slice_index (encoded r k) j)
    settled_tag zero zero lt small =
        let at : word_at s head 0 0 ≡ cell_start s head = first_cell s head can.cell 0 ∙ omega arith in
        group_flushed tag (line_of s head ∷ []) with_body (word_at s head 0 0) (inl (ap (λ i. i / 8) at ∙ head_line s head can.cell))
        ∙ ap (λ (vs : List ℕ). settled_at (newest (value_of (with_body.word (word_at s head 0 0))) vs)) (tag_there s head r (word_at s head 0 0) at)
    settled_tag zero (suc j) lt small = untouched 0 (suc j) lt small (inr (omega arith))
    settled_tag (suc k) j lt small = untouched (suc k) j lt small (inl (omega arith))

    new_intact : IsIntact s head.ring with_tag (logged_as head r)
    new_intact =
        let few = can.encodable.writes_are.few in
        let same : AreSame (cells_of_record r) (settled_word s with_tag head) (cells_for (count_of (cells_of_record r))) = counted r few (record {
          word = λ k j lt small. ap (λ (w : Word). w.settled) (settled_tag k j lt small);
        }) in
        let high = can.encodable.number_is.high in
        record {
          settled_words = λ k j lt small. is_settled (settled_tag k j lt small);
          complete = complete_same same (encoded_complete can);
          same_last = ap number_of (tag_same same) ∙ omega arith;
          same_span = span_same same ∙ encoded_span r few;
          same_cells = ap cells_for (count_same same ∙ encoded_count r few);
        }

    at_end : Appending s logged head r p with_tag
    at_end = subst (Appending s logged head r p) append_ends (after_each_last along_append)

    mark_stays : with_tag.word 8 ≡ settled_at (settled_mark p)
    mark_stays = at_end.settled_others 8 (settled_mark p) (header_elsewhere s head r 8 (omega arith)) fits.mark

    same_mark : settled_mark with_tag ≡ settled_mark p
    same_mark = ap (λ (w : Word). w.settled) mark_stays

    fits_tag : FitsRing s head.ring (logged ++ logged_as head r ∷ []) released with_tag
    fits_tag = record {
      mark = is_settled mark_stays;
      reproduced = subst (λ (m : ℕ). released ≤ m) (sym same_mark) fits.reproduced;
      heads = λ slot t below may over. ⊎_elim
          (λ has. head_before (number_of t) slot logged (logged_as head r ∷ []) has)
          (λ own. let high = can.encodable.number_is.high in
          let number : r.last ≡ number_of t = omega (arith, own.1) in
          head_last logged (logged_as head r) (number_of t) slot number (sym own.0))
          (at_end.heads slot t below may (subst (λ (m : ℕ). IsHeadOver m t) same_mark over));
      records = All-append (λ (l : Logged). settled_mark with_tag < l.last → IsIntact s head.ring with_tag l) logged (logged_as head r ∷ [])
          (λ k d lt over. at_end.records k d lt (subst (λ (m : ℕ). m < (get_or logged k d).last) same_mark over))
          (All-cons (λ (l : Logged). settled_mark with_tag < l.last → IsIntact s head.ring with_tag l) (logged_as head r) [] (λ over. new_intact)
          (All-nil (λ (l : Logged). settled_mark with_tag < l.last → IsIntact s head.ring with_tag l)));
    }

    appended : Appended s logged released head r p with_tag
    appended = record {
      settled = settled_tag;
      others = at_end.others;
      settled_others = at_end.settled_others;
      told = at_end.told;
      fits = fits_tag;
    }

-- The law of append.
pub append_law : LawOfAppend
append_law s logged released head r p fits can = (
  along_append s logged released head r p fits can,
  subst (Appended s logged released head r p) (sym (append_ends s logged released head r p fits can)) (appended s logged released head r p fits can),
)
