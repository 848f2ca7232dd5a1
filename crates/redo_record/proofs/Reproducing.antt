-- The law of reproduce: the writes of records go home, and then the mark is raised.
use Rattle.std.proofs.Common.{◌≡◌, ◌≢◌, ◌⊎◌, inl, inr, ℕ, ◌+◌, ◌-◌, ◌*◌, ◌/◌, ◌<◌, ◌≤◌, List, [], ◌∷◌, ◌++◌, length, get_or, drop, slice_index, Option, Some, None, unwrap_or, refl, sym, ap, ◌∙◌, subst, arith, All, ⊎_elim, nat_lt}
use Rattle.std.specs.List.{filter}
use Rattle.std.specs.Option.{option_to_list}
use Rattle.std.proofs.lemmas.Grind.{same_number_lists}
use Rattle.std.proofs.lemmas.List.{get_or-take, get_or-drop, length-take, length-drop}
use Rattle.std.proofs.lemmas.List.Elements.{All-head, All-tail, All-weaker, All-same}
use Rattle.dude_base.specs.declared.limits.TheConstants.{MARK, MAX_NUMBER, PAGE, VERSION}
use Rattle.dude_base.specs.declared.sizes.Sizes.{Sizes}
use Rattle.dude_base.specs.declared.write.Write.{Write}
use Rattle.dude_base.specs.Image.{cell_at, cell_start, home_word, image_words, header_words}
use Rattle.dude_base.specs.Records.{RedoBundle}
use Rattle.dude_base.specs.Writes.{written, overwritten, HasDistinctPlaces}
use Rattle.dude_base.proofs.Overwriting.{length-overwritten, index-overwritten}
use Rattle.pmem_trait.specs.Words.{State, IsIn, MayHold, AtLeast, AfterEachCall, settled_at, after_all, IsImage}
use Rattle.pmem_trait.specs.Groups.{group_calls, values_put}
use Rattle.pmem_trait.proofs.Images.{may_still}
use Rattle.pmem_trait.proofs.GroupLaw.{group_word, group_told, left_word, unwritten_may}
use Rattle.pmem_trait.proofs.GroupStates.{OnTheWay, group_way}
use Rattle.pmem_trait.proofs.Laws.{after_all_then, after_each_then, after_each_weaker}
use Rattle.redo_record.specs.Tags.{IsNumber, IsHeadOver}
use Rattle.redo_record.specs.Fits.{head_of, settled_mark}
use Rattle.redo_record.specs.Images.{sizes_of, home_of}
use Rattle.redo_record.specs.Rest.{RestsAt}
use Rattle.redo_record.specs.Recovery.{AreConsecutive, overwritten_by_all, Recovers}
use Rattle.redo_record.specs.Waiting.{Waiting, Waits, Lead, IsContiguousEnd, AreDisjoint, KeepsOver}
use Rattle.redo_record.specs.LogState.{LogState, KeepsCells, HoldsLog, RecoversAmong}
use Rattle.redo_record.specs.BackCalls.{home_writes, lines_touched, mark_writes, reproduce_calls}
use Rattle.redo_record.specs.BackLaws.{CanReproduce, reproduced_to, LawOfReproduced, LawOfReproduce, HasSettledHome, Reproducing, LawOfReproducing, LawOfLogWhileReproducing}
use Rattle.redo_record.proofs.RingRoom.{all_rest}
use Rattle.redo_record.proofs.WaitingRecords.{consecutive_up, consecutive_over, end_reached, split, keeps_filter}
use Rattle.redo_record.proofs.HomeWrites.{rising_distinct, put_before_home, put_in_home, final_in_home, line_touched, put_beside_mark, reproduce_length}
use Rattle.redo_record.proofs.SettledRecords.{settled_records_law}
use Rattle.redo_record.proofs.HeldLog.{settled_mark_is, settled_state, settled_state_keeps, settled_state_recovers, held_by, leads_here, in_cells, keeps_all, stands_in, keeps_then}

-- records one after another
pub overwritten-append : (rs ts : List RedoBundle) (array : List ℕ) → overwritten_by_all (rs ++ ts) array ≡ overwritten_by_all ts (overwritten_by_all rs array)
overwritten-append [] ts array = refl
overwritten-append (r ∷ rs) ts array = overwritten-append rs ts (overwritten r.writes array)

-- where arrays differ at most in words that are written, they are the same behind the writes
pub overwritten_same : (ws : List Write) (a b : List ℕ) → length a ≡ length b → ((i : ℕ) → i < length b → written ws i ≡ None → slice_index a i ≡ slice_index b i) → overwritten ws a ≡ overwritten ws b
overwritten_same ws a b long same = same_number_lists (overwritten ws a) (overwritten ws b) (length-overwritten ws a ∙ (long ∙ sym (length-overwritten ws b))) each
  where
    at : (i : ℕ) → i < length b → (o : Option ℕ) → written ws i ≡ o → unwrap_or o (slice_index a i) ≡ unwrap_or o (slice_index b i)
    at i below None is = same i below is
    at i below (Some x) is = refl

    each : (i : ℕ) → i < length (overwritten ws a) → slice_index (overwritten ws a) i ≡ slice_index (overwritten ws b) i
    each i lt =
        let below : i < length a = omega (arith, length-overwritten ws a) in
        let other : i < length b = omega arith in
        index-overwritten ws a i below ∙ (at i other (written ws i) refl ∙ sym (index-overwritten ws b i other))

-- The records of a list that leads on past those that are reproduced: the others wait still.
pub record Remaining (records : List RedoBundle) (waiting : List Waiting) (number : ℕ) (ts : List RedoBundle) (to : ℕ) : Type 0 where
  pub rest : List RedoBundle
  pub lead : Lead waiting number rest to
  pub whole : ts ≡ records ++ rest

module _ {l : LogState} {records : List RedoBundle} {ws : List Write} {number : ℕ} {waiting : List Waiting} (distinct : AreDisjoint l.waiting)
    (can : CanReproduce l records ws number) (over : KeepsOver number l.waiting waiting) where
  pub remaining : (ts : List RedoBundle) (to : ℕ) → Lead l.waiting l.reproduced ts to → number ≤ to → Remaining records waiting number ts to
  remaining ts to lead upto =
      let both = split distinct l.reproduced number to records ts can.lead.wait lead.wait can.lead.consecutive lead.consecutive upto in
      let others : All (Waits l.waiting) both.rest = all_rest (Waits l.waiting) records both.rest (All-same (Waits l.waiting) (records ++ both.rest) ts (sym both.whole) lead.wait) in
      record {
        rest = both.rest;
        lead = record {
          wait = λ k d lt. let one = others k d lt in record { ring = one.ring; is_one = over.kept _ one.is_one (consecutive_over number to both.rest both.consecutive k d lt) };
          consecutive = both.consecutive;
        };
        whole = both.whole;
      }

  pub number_upto : (end : ℕ) → IsContiguousEnd l.waiting l.reproduced end → number ≤ end
  number_upto end is = end_reached distinct (λ r waits. waits) is can.lead

  pub remaining_end : (end : ℕ) (is : IsContiguousEnd l.waiting l.reproduced end) → Remaining records waiting number is.records end → IsContiguousEnd waiting number end
  remaining_end end is rest = record { records = rest.rest; lead = rest.lead; greatest = λ w has. is.greatest w (over.only w has).0 }

  -- the array behind these records is that behind the others, from where the writes were made
  pub array_behind : {ts : List RedoBundle} {to : ℕ} (home : List ℕ) → length home ≡ l.sizes.pages * PAGE → (rest : Remaining records waiting number ts to)
      → overwritten_by_all ts home ≡ overwritten_by_all rest.rest (overwritten ws home)
  array_behind home count rest =
      ap (λ (rs : List RedoBundle). overwritten_by_all rs home) rest.whole ∙ (overwritten-append records rest.rest home
      ∙ ap (λ (array : List ℕ). overwritten_by_all rest.rest array) (sym (can.effect home count)))

pub reproduced_law : LawOfReproduced
reproduced_law l records ws number waiting distinct count can over = (
  λ end is.
      let upto = number_upto distinct can over end is in
      (upto, remaining_end distinct can over end is (remaining distinct can over is.records end is.lead upto)),
  λ n array low is.
      let rest = remaining distinct can over is.records n is.lead low in
      record { records = rest.rest; lead = rest.lead; result = is.result ∙ array_behind distinct can over l.home count rest },
  record { records = records; lead = can.lead; result = can.effect l.home count },
)

-- the home words of an image
home_reads : (s : Sizes) (image : List ℕ) → image_words s ≤ length image → (length (home_of s image) ≡ s.pages * PAGE)
    × ((i : ℕ) → i < s.pages * PAGE → slice_index image (home_word s i) ≡ slice_index (home_of s image) i)
home_reads s image long = (
  count,
  λ i below. sym (get_or-take (image_words s - home_word s 0) (drop (home_word s 0) image) i 0 (omega arith)
      ∙ (get_or-drop (home_word s 0) image i 0 ∙ ap (slice_index image) (omega arith))),
)
  where
    count : length (home_of s image) ≡ s.pages * PAGE
    count = simp (length-take, length-drop) (omega arith)

-- the mark is one that an image may have
upto_most : (from to : ℕ) (rs : List RedoBundle) → All (λ r. r.last ≤ MAX_NUMBER) rs → AreConsecutive from rs to → from ≤ MAX_NUMBER → to ≤ MAX_NUMBER
upto_most from to [] all is small = omega arith
upto_most from to (r ∷ rs) all is small = upto_most r.last to rs (All-tail (λ (r : RedoBundle). r.last ≤ MAX_NUMBER) r rs all) is.1 (All-head (λ (r : RedoBundle). r.last ≤ MAX_NUMBER) r rs all)

-- the state once these writes of home words are durable
abbrev after_home : LogState → List Write → State → State
after_home l ws p = after_all (group_calls (home_writes l.sizes ws) (lines_touched (home_writes l.sizes ws))) p

module _ {l : LogState} {records : List RedoBundle} {ws : List Write} {number : ℕ} {waiting : List Waiting} {p : State} (holds : HoldsLog l p)
    (can : CanReproduce l records ws number) (over : KeepsOver number l.waiting waiting) where
  distinct : HasDistinctPlaces ws
  distinct = rising_distinct ws can.rising

  up : l.reproduced ≤ number
  up = consecutive_up l.reproduced number records can.lead.consecutive

  small : number ≤ MAX_NUMBER
  small = upto_most l.reproduced number records
      (All-weaker (Waits l.waiting) (λ (r : RedoBundle). r.last ≤ MAX_NUMBER) (λ r waits.
      let held = (stands_in holds _ waits.is_one).held in
      let is : IsNumber r.last = subst IsNumber (ap (λ (r : RedoBundle). r.last) held.same) held.complete.whole.number in
      is.high) records can.lead.wait) can.lead.consecutive holds.small

  -- the log with another home
  abbrev at_home : List ℕ → LogState
  at_home home = record l { home = home }

  told_home : (after_home l ws p).told ≡ p.told
  told_home = group_told (home_writes l.sizes ws) (lines_touched (home_writes l.sizes ws)) p

  -- Writes of home words leave cells as they are.
  home_keeps : KeepsCells l.sizes p (after_home l ws p)
  home_keeps = record {
    tags = λ ring slot tag below lt may.
        let at = in_cells l.sizes ring slot 0 below lt (omega arith) in
        unwritten_may (home_writes l.sizes ws) (lines_touched (home_writes l.sizes ws)) p (cell_start l.sizes (cell_at ring slot)) tag
        (put_before_home l.sizes ws (cell_start l.sizes (cell_at ring slot)) (omega arith)) may;
    stay = λ ring slot j x below lt tiny is.
        let at = in_cells l.sizes ring slot j below lt tiny in
        left_word (home_writes l.sizes ws) (lines_touched (home_writes l.sizes ws)) p (cell_start l.sizes (cell_at ring slot) + j) x
        (put_before_home l.sizes ws (cell_start l.sizes (cell_at ring slot) + j) at.1) is;
  }

  home_rests : RestsAt VERSION l.sizes l.reproduced (overwritten ws l.home) (after_home l ws p)
  home_rests = record {
    header = λ i below. left_word (home_writes l.sizes ws) (lines_touched (home_writes l.sizes ws)) p i _ (put_before_home l.sizes ws i (omega arith)) (holds.rest.header i below);
    mark = left_word (home_writes l.sizes ws) (lines_touched (home_writes l.sizes ws)) p 8 _ (put_before_home l.sizes ws 8 (omega arith)) holds.rest.mark;
    count = length-overwritten ws l.home ∙ holds.rest.count;
    words = λ i lt. let below : i < length l.home = omega (arith, length-overwritten ws l.home) in
        group_word (home_writes l.sizes ws) (lines_touched (home_writes l.sizes ws)) p (home_word l.sizes i) _ (holds.rest.words i below) (flushed i (written ws i) refl)
        ∙ ap settled_at (final_in_home l.sizes ws i (slice_index l.home i) distinct ∙ sym (index-overwritten ws l.home i below));
  }
    where
      flushed : (i : ℕ) (o : Option ℕ) → written ws i ≡ o → (values_put (home_writes l.sizes ws) (home_word l.sizes i) ≡ []) ⊎ IsIn (home_word l.sizes i / 8) (lines_touched (home_writes l.sizes ws))
      flushed i None is = inl (put_in_home l.sizes ws i distinct ∙ ap option_to_list is)
      flushed i (Some x) is = inr (line_touched l.sizes ws i x is)

  -- once the home words are durable
  home_log : HoldsLog (at_home (overwritten ws l.home)) (after_home l ws p)
  home_log = held_by l.reproduced (overwritten ws l.home) l.waiting holds (leads_here l) holds.small home_rests home_keeps (keeps_all holds)

  module _ {end : ℕ} (is : IsContiguousEnd l.waiting l.reproduced end) where
    rest_is : Remaining records waiting number is.records end
    rest_is = remaining holds.distinct can over is.records end is.lead (number_upto holds.distinct can over end is)

    -- a home that differs at most where writes are made leads to the same array
    array_same : (home : List ℕ) → length home ≡ l.sizes.pages * PAGE → overwritten ws home ≡ overwritten ws l.home → overwritten_by_all is.records home ≡ overwritten_by_all is.records l.home
    array_same home count same =
        array_behind holds.distinct can over home count rest_is ∙ (ap (λ (array : List ℕ). overwritten_by_all rest_is.rest array) same
        ∙ sym (array_behind holds.distinct can over l.home holds.rest.count rest_is))

  -- Each state on the way of the home words is on the way.
  on_home : (q : State) → OnTheWay p (home_writes l.sizes ws) q → Reproducing l ws number p q
  on_home q way = record {
    told = way.told;
    header = λ i below. way.stays i _ (put_before_home l.sizes ws i (omega arith)) (holds.rest.header i below);
    cells = record {
      tags = λ ring slot tag below lt may.
          let at = in_cells l.sizes ring slot 0 below lt (omega arith) in
          may_before (cell_start l.sizes (cell_at ring slot)) tag (omega arith) (way.value (cell_start l.sizes (cell_at ring slot)) tag may);
      stay = λ ring slot j x below lt tiny is.
          let at = in_cells l.sizes ring slot j below lt tiny in
          way.stays (cell_start l.sizes (cell_at ring slot) + j) x (put_before_home l.sizes ws (cell_start l.sizes (cell_at ring slot) + j) at.1) is;
    };
    words = λ i x below may. ⊎_elim
        (λ old. inl (may_still _ _ x (holds.rest.words i below) old))
        (λ new. inr (by i x (written ws i) refl (subst (IsIn x) (put_in_home l.sizes ws i distinct) new) ∙ sym (index-overwritten ws l.home i below)))
        (way.value (home_word l.sizes i) x may);
    mark = λ x may. inl (may_still _ _ x (way.stays 8 _ (put_before_home l.sizes ws 8 (omega arith)) holds.rest.mark) may);
  }
    where
      may_before : (k x : ℕ) → k < home_word l.sizes 0 → MayHold (p.word k) x ⊎ IsIn x (values_put (home_writes l.sizes ws) k) → MayHold (p.word k) x
      may_before k x below (inl may) = may
      may_before k x below (inr new) = absurd (subst (IsIn x) (put_before_home l.sizes ws k below) new)

      by : (i x : ℕ) (o : Option ℕ) → written ws i ≡ o → IsIn x (option_to_list o) → x ≡ unwrap_or o (slice_index l.home i)
      by i x None is new = absurd new
      by i x (Some y) is (inl same) = same
      by i x (Some y) is (inr none) = absurd none

  -- So is each state on the way of the mark.
  on_mark : (q : State) → OnTheWay (after_home l ws p) (mark_writes number) q → Reproducing l ws number p q
  on_mark q way = record {
    told = way.told ∙ told_home;
    header = λ i below. way.stays i _ (put_beside_mark number i (λ same. omega arith)) (home_rests.header i below);
    cells = keeps_then home_keeps (record {
      tags = λ ring slot tag below lt may.
          let at = in_cells l.sizes ring slot 0 below lt (omega arith) in
          may_beside (cell_start l.sizes (cell_at ring slot)) tag (λ same. omega arith) (way.value (cell_start l.sizes (cell_at ring slot)) tag may);
      stay = λ ring slot j x below lt tiny is.
          let at = in_cells l.sizes ring slot j below lt tiny in
          way.stays (cell_start l.sizes (cell_at ring slot) + j) x (put_beside_mark number (cell_start l.sizes (cell_at ring slot) + j) (λ same. omega arith)) is;
    });
    words = λ i x below may. inr (may_still _ _ x (settled i (omega (arith, length-overwritten ws l.home))) may);
    mark = λ x may. by x (way.value 8 x may);
  }
    where
      settled : HasSettledHome l.sizes (overwritten ws l.home) q
      settled i below = way.stays (home_word l.sizes i) _ (put_beside_mark number (home_word l.sizes i) (λ same. omega arith)) (home_rests.words i below)

      may_beside : (k x : ℕ) → k ≢ 8 → MayHold ((after_home l ws p).word k) x ⊎ IsIn x (values_put (mark_writes number) k) → MayHold ((after_home l ws p).word k) x
      may_beside k x other (inl may) = may
      may_beside k x other (inr new) = absurd (subst (IsIn x) (put_beside_mark number k other) new)

      by : (x : ℕ) → MayHold ((after_home l ws p).word 8) x ⊎ IsIn x (number ∷ []) → (x ≡ l.reproduced) ⊎ ((x ≡ number) × HasSettledHome l.sizes (overwritten ws l.home) q)
      by x (inl may) = inl (may_still _ _ x home_rests.mark may)
      by x (inr (inl same)) = inr (same, settled)
      by x (inr (inr none)) = absurd none

  reproduce_states : AfterEachCall (Reproducing l ws number p) p (reproduce_calls l.sizes ws number)
  unfolding reproduce_calls
  reproduce_states = after_each_then
      (after_each_weaker on_home (group_way (home_writes l.sizes ws) (lines_touched (home_writes l.sizes ws))))
      (after_each_weaker on_mark (group_way (mark_writes number) (1 ∷ [])))

  -- In each state on the way every image recovers to the contiguous end.
  module _ {q : State} {len before end : ℕ} (way : Reproducing l ws number p q) (long : image_words l.sizes ≤ len) (is : IsContiguousEnd l.waiting l.reproduced end)
      (floor : AtLeast before p.told end) where
    -- an image recovers so where its number and its array are these
    among : {image : List ℕ} (array : List ℕ) → array ≡ overwritten_by_all is.records l.home → (sizes_of image ≡ l.sizes) × Recovers image end array
        → RecoversAmong l before end end q.told image
    among array array_is both = record {
      number = end;
      array = array;
      recovered = both.1;
      same_sizes = both.0;
      is_array = record { records = is.records; lead = is.lead; result = array_is };
      least = omega arith;
      most = omega arith;
      floor = subst (λ (told : List ℕ). AtLeast before told end) (sym way.told) floor;
    }

    state_images : (image : List ℕ) → IsImage len q image → RecoversAmong l before end end q.told image
    state_images image image_is = by (way.mark (slice_index image 8) (image_is.each 8 (omega arith)))
      where
        long_image : image_words l.sizes ≤ length image
        long_image = let size = image_is.size in omega arith

        home : List ℕ
        home = home_of l.sizes image

        reads : (length home ≡ l.sizes.pages * PAGE) × ((i : ℕ) → i < l.sizes.pages * PAGE → slice_index image (home_word l.sizes i) ≡ slice_index home i)
        reads = home_reads l.sizes image long_image

        header : (i : ℕ) → i < MARK → (settled_state image).word i ≡ settled_at (slice_index (header_words VERSION l.sizes) i)
        header i below = ap settled_at (may_still _ _ _ (way.header i below) (image_is.each i (omega arith)))

        keeps : KeepsCells l.sizes p (settled_state image)
        keeps = keeps_then way.cells (settled_state_keeps l.sizes q image (λ k low below. image_is.each k (omega arith)))

        -- a word that isn't written
        same : (i : ℕ) → i < length l.home → written ws i ≡ None → slice_index home i ≡ slice_index l.home i
        same i below none =
            let count = holds.rest.count in
            sym (reads.1 i (omega arith)) ∙ ⊎_elim
            (λ old. old)
            (λ new. new ∙ (index-overwritten ws l.home i below ∙ ap (λ (o : Option ℕ). unwrap_or o (slice_index l.home i)) none))
            (way.words i (slice_index image (home_word l.sizes i)) below (image_is.each (home_word l.sizes i) (omega arith)))

        by : (slice_index image 8 ≡ l.reproduced) ⊎ ((slice_index image 8 ≡ number) × HasSettledHome l.sizes (overwritten ws l.home) q) → RecoversAmong l before end end q.told image
        by (inl old) =
            let rests : RestsAt VERSION l.sizes l.reproduced home (settled_state image) = record {
              header = header;
              mark = ap settled_at old;
              count = reads.0;
              words = λ i below. ap settled_at (reads.1 i (let count = reads.0 in omega arith));
            } in
            among _ (array_same is home reads.0 (overwritten_same ws home l.home (reads.0 ∙ sym holds.rest.count) same))
            (settled_state_recovers (held_by l.reproduced home l.waiting holds (leads_here l) holds.small rests keeps (keeps_all holds)) long_image is)
        by (inr new) =
            let rests : RestsAt VERSION l.sizes number (overwritten ws l.home) (settled_state image) = record {
              header = header;
              mark = ap settled_at new.0;
              count = home_rests.count;
              words = λ i below. let count = home_rests.count in ap settled_at (may_still _ _ _ (new.1 i below) (image_is.each (home_word l.sizes i) (omega arith)));
            } in
            let others : IsContiguousEnd waiting number end = record { records = (rest_is is).rest; lead = (rest_is is).lead; greatest = λ w has. is.greatest w (over.only w has).0 } in
            among _ (sym (array_behind holds.distinct can over l.home holds.rest.count (rest_is is)))
            (settled_state_recovers (held_by number (overwritten ws l.home) waiting holds can.lead small rests keeps over) long_image others)

  -- once the mark is durable
  mark_log : HoldsLog (reproduced_to l ws number waiting) (after_all (reproduce_calls l.sizes ws number) p) × ((after_all (reproduce_calls l.sizes ws number) p).told ≡ p.told)
  unfolding reproduce_calls
  mark_log = subst (λ (q : State). HoldsLog (reproduced_to l ws number waiting) q × (q.told ≡ p.told)) (sym (after_all_then (group_calls (home_writes l.sizes ws) (lines_touched (home_writes l.sizes ws))) (group_calls (mark_writes number) (1 ∷ [])) p)) (
    held_by number (overwritten ws l.home) waiting home_log can.lead small rests keeps over,
    group_told (mark_writes number) (1 ∷ []) (after_home l ws p) ∙ told_home,
  )
    where
      q : State
      q = after_all (group_calls (mark_writes number) (1 ∷ [])) (after_home l ws p)

      stay : (k x : ℕ) → k ≢ 8 → (after_home l ws p).word k ≡ settled_at x → q.word k ≡ settled_at x
      stay k x other is = left_word (mark_writes number) (1 ∷ []) (after_home l ws p) k x (put_beside_mark number k other) is

      rests : RestsAt VERSION l.sizes number (overwritten ws l.home) q
      rests = record {
        header = λ i below. stay i _ (λ same. omega arith) (home_rests.header i below);
        mark = group_word (mark_writes number) (1 ∷ []) (after_home l ws p) 8 l.reproduced home_rests.mark (inr (inl refl));
        count = home_rests.count;
        words = λ i below. stay (home_word l.sizes i) _ (λ same. omega arith) (home_rests.words i below);
      }

      keeps : KeepsCells l.sizes (after_home l ws p) q
      keeps = record {
        tags = λ ring slot tag below lt may.
            let at = in_cells l.sizes ring slot 0 below lt (omega arith) in
            unwritten_may (mark_writes number) (1 ∷ []) (after_home l ws p) (cell_start l.sizes (cell_at ring slot)) tag (put_beside_mark number (cell_start l.sizes (cell_at ring slot)) (λ same. omega arith)) may;
        stay = λ ring slot j x below lt tiny is.
            let at = in_cells l.sizes ring slot j below lt tiny in
            stay (cell_start l.sizes (cell_at ring slot) + j) x (λ same. omega arith) is;
      }

pub reproducing_law : LawOfReproducing
reproducing_law l records ws number p holds can = (
  reproduce_states holds can over,
  λ q len before end way long is floor. record { each = state_images holds can over way long is floor },
)
  where
    over : KeepsOver number l.waiting (filter (λ w. nat_lt number w.redo.last) l.waiting)
    over = keeps_filter number l.waiting

pub reproduce_law : LawOfReproduce
reproduce_law l records ws number waiting p holds can over =
    let ends = mark_log holds can over in
    let way = reproducing_law l records ws number p holds can in
    (λ len before end long is floor. after_each_weaker (λ q on. way.1 q len before end on long is floor) way.0, ends.0, ends.1, reproduce_length l.sizes ws number)

pub log_while_reproducing_law : LawOfLogWhileReproducing
log_while_reproducing_law l ws number p q holds way = (
  λ ring slot tag below lt may over. (holds.fits ring below).heads slot tag lt (way.cells.tags ring slot tag below lt may) (subst (λ (m : ℕ). IsHeadOver m tag) (sym (settled_mark_is holds)) over),
  λ ring below k d lt over.
      let is = holds.logged ring below k d lt over in
      record {
        slot_is = is.slot_is;
        redo = is.redo;
        waits = is.waits;
        held = settled_records_law.rest l.sizes (head_of ring (get_or (l.rings ring).logged k d)) is.redo p q (record { ring_is = below; slot_is = is.slot_is })
            (λ slot j x low small at. way.cells.stay ring slot j x below low small at) is.held;
      },
  way.mark (settled_mark q) (inl refl),
)
