-- The law of persist: a record is appended to a ring of a medium that holds a log.
use Rattle.std.proofs.Common.{◌≡◌, ◌≢◌, ◌⊎◌, inl, inr, ⊎_elim, ℕ, ◌+◌, ◌%◌, ◌==◌, ◌<◌, ◌≤◌, Bool, true, false, if◌then◌else◌, List, [], ◌∷◌, ◌++◌, length, get_or, refl, sym, ap, ◌∙◌, subst, arith, All, eqb-true, eq-eqb}
use Rattle.std.specs.List.{Contains, AllPairs}
use Rattle.std.proofs.Math.Nat.{mod-lt}
use Rattle.std.proofs.lemmas.Bool.{cases_eq}
use Rattle.std.proofs.lemmas.List.Elements.{All-push}
use Rattle.std.proofs.lemmas.List.Quantifiers.{all_pairs_push}
use Rattle.dude_base.specs.declared.limits.TheConstants.{VERSION}
use Rattle.dude_base.specs.declared.sizes.Sizes.{Sizes}
use Rattle.dude_base.specs.Image.{Cell, cell_at, cell_start, home_word, image_words}
use Rattle.dude_base.specs.Records.{RedoBundle, Covers}
use Rattle.pmem_trait.specs.Words.{Word, State, MayHold, IsImage, AtLeast, AfterEachCall, after_all}
use Rattle.pmem_trait.proofs.Images.{may_still}
use Rattle.pmem_trait.proofs.Laws.{after_each_last, after_each_weaker}
use Rattle.redo_record.specs.Tags.{number_of, IsHeadOver}
use Rattle.redo_record.specs.Cells.{IsCell}
use Rattle.redo_record.specs.Record.{cells_for, record_of}
use Rattle.redo_record.specs.Images.{mark_of, tag_of, word_in_image, IsNewHead}
use Rattle.redo_record.specs.Rest.{RestsAt}
use Rattle.redo_record.specs.Fits.{Logged, first_logged, head_of, HasHead, FitsRing, IsIntact, AreFree, settled_mark}
use Rattle.redo_record.specs.Calls.{append_calls}
use Rattle.redo_record.specs.AppendLaw.{CanAppend, Appending, Appended, HeadsHold, IsElsewhere, logged_as}
use Rattle.redo_record.specs.SettledRecords.{HoldSettled}
use Rattle.redo_record.specs.Waiting.{Waiting, AreDisjoint, AddsWaiting}
use Rattle.redo_record.specs.LogState.{RingRecords, LogState, KeepsCells, IsWaiting, IsLogged, HoldsLog, RecoversAmong}
use Rattle.redo_record.specs.BackLaws.{with_last, with_waiting, AddsLogged, CanPersist, LawOfPersist, LawOfPersisting, LawOfLogOnTheWay}
use Rattle.redo_record.proofs.AppendedRecord.{append_law}
use Rattle.redo_record.proofs.AppendingImages.{appending_law}
use Rattle.redo_record.proofs.RingHeads.{find_head, head_before, head_last, header_elsewhere, intact_by, is_settled, over_or_not}
use Rattle.redo_record.proofs.RingRoom.{rest_law}
use Rattle.redo_record.proofs.Recovered.{images_at_rest_law}
use Rattle.redo_record.proofs.SettledRecords.{settled_records_law, held_count}
use Rattle.redo_record.proofs.WaitingRecords.{waiting_law}
use Rattle.redo_record.proofs.HeldLog.{settled_mark_is, some_cells, settled_state, settled_state_rests, settled_state_keeps, in_cells, shows, tag_number}

-- words of the home are elsewhere
home_elsewhere : (s : Sizes) (head : Cell) (r : RedoBundle) (i : ℕ) → IsCell s head → IsElsewhere s head r (home_word s i)
home_elsewhere s head r i is_cell k j lt small same =
    let at = in_cells s head.ring ((head.slot + k) % s.cells) j is_cell.ring_is (mod-lt (head.slot + k) (let some = is_cell.slot_is in omega arith)) small in
    omega arith

-- what a state on the way of an append keeps of the log
module _ {l : LogState} {head : Cell} {r : RedoBundle} {p : State} (holds : HoldsLog l p) (can : CanPersist l head r) where
  fits_here : FitsRing l.sizes head.ring (l.rings head.ring).logged (l.rings head.ring).released p
  fits_here = holds.fits head.ring can.append.cell.ring_is

  can_append : CanAppend l.sizes (settled_mark p) (l.rings head.ring).logged head r
  can_append = subst (λ (m : ℕ). CanAppend l.sizes m (l.rings head.ring).logged head r) (sym (settled_mark_is holds)) can.append

  -- a record over the mark takes as many cells as it needs
  cells_are : (ring : ℕ) → ring < l.sizes.rings → (k : ℕ) (d : Logged) → k < length (l.rings ring).logged → l.reproduced < (get_or (l.rings ring).logged k d).last
      → (is : IsWaiting l.sizes l.waiting ring p (get_or (l.rings ring).logged k d)) → cells_for (length is.redo.writes) ≡ (get_or (l.rings ring).logged k d).cells
  cells_are ring below k d lt over is =
      let intact = (holds.fits ring below).records k d lt (let mark = settled_mark_is holds in omega arith) in
      ap cells_for (sym (held_count is.held)) ∙ intact.same_cells

  -- no record over the mark has its head in the new one's first cell
  none_here : (number : ℕ) → l.reproduced < number → HasHead number head.slot (l.rings head.ring).logged → ⊥
  none_here number over has =
      let found = find_head {P = λ k. l.reproduced < k.last → k.slot ≡ head.slot → ⊥} number head.slot (l.rings head.ring).logged apart has in
      let number_is = found.1 in
      found.3 (omega arith) found.2
    where
      apart : All (λ k. l.reproduced < k.last → k.slot ≡ head.slot → ⊥) (l.rings head.ring).logged
      apart k d lt high same =
          let is = holds.logged head.ring can.append.cell.ring_is k d lt high in
          let cells = cells_are head.ring can.append.cell.ring_is k d lt high is in
          can.append.free k d lt high 0 0 (omega arith) (omega arith) (ap (λ (slot : ℕ). (slot + 0) % l.sizes.cells) same)

  module _ {q : State} (way : Appending l.sizes (l.rings head.ring).logged head r p q) where
    rests_on : RestsAt VERSION l.sizes l.reproduced l.home q
    rests_on = record {
      header = λ i below. way.settled_others i _ (header_elsewhere l.sizes head r i (omega arith)) (holds.rest.header i below);
      mark = way.settled_others 8 _ (header_elsewhere l.sizes head r 8 (omega arith)) holds.rest.mark;
      count = holds.rest.count;
      words = λ i below. way.settled_others (home_word l.sizes i) _ (home_elsewhere l.sizes head r i can.append.cell) (holds.rest.words i below);
    }

    others_on : (ring : ℕ) → ring < l.sizes.rings → ring ≢ head.ring → FitsRing l.sizes ring (l.rings ring).logged (l.rings ring).released q
    others_on ring below ne = (appending_law l.sizes (l.rings head.ring).logged head r p q can.append.cell can.append.encodable can.append.home can.append.room fits_here.mark way).1
        ring (l.rings ring).logged (l.rings ring).released ne (holds.fits ring below)

    waiting_on : (ring : ℕ) → ring < l.sizes.rings → All (λ k. l.reproduced < k.last → IsWaiting l.sizes l.waiting ring q k) (l.rings ring).logged
    waiting_on ring below k d lt over =
        let is = holds.logged ring below k d lt over in
        let cells = cells_are ring below k d lt over is in
        record {
          slot_is = is.slot_is;
          redo = is.redo;
          waits = is.waits;
          held = settled_records_law.beside l.sizes (l.rings head.ring).logged head (head_of ring (get_or (l.rings ring).logged k d)) r is.redo p q can.append.cell
              (record { ring_is = below; slot_is = is.slot_is })
              (λ same i j few low cell.
              subst (λ (x : ℕ). AreFree l.sizes l.reproduced head.slot (cells_for (length r.writes)) (l.rings x).logged) (sym same) can.append.free k d lt over i j (omega arith) low cell)
              way is.held;
        }

-- a property of what each ring has with the record added
added_ring : (s : Sizes) (head : Cell) (r : RedoBundle) (old new : ℕ → RingRecords) → AddsLogged s head r old new → (P : ℕ → RingRecords → Type 0) (ring : ℕ) → ring < s.rings
    → P head.ring (with_last (logged_as head r) (old head.ring)) → (ring ≢ head.ring → P ring (old ring)) → P ring (new ring)
added_ring s head r old new adds P ring below own other = subst (P ring) (sym (adds ring below)) (by (ring == head.ring) refl)
  where
    by : (b : Bool) → (ring == head.ring) ≡ b → P ring (if b then with_last (logged_as head r) (old ring) else old ring)
    by true is = subst (λ (x : ℕ). P x (with_last (logged_as head r) (old x))) (sym (eqb-true ring head.ring is)) own
    by false is = other (λ same. let yes = eq-eqb ring head.ring same in cc)

-- no two bundles that wait then cover one number
added_distinct : {l : LogState} {head : Cell} {r : RedoBundle} {p : State} {waiting : List Waiting} → HoldsLog l p → CanPersist l head r
    → AddsWaiting (record { ring = head.ring; redo = r }) l.waiting waiting → AreDisjoint waiting
added_distinct {l} {head} {r} {p} {waiting} holds can added v w number one other covers too = apart (added.only v one) (added.only w other)
  where
    apart : Contains l.waiting v ⊎ (v ≡ record { ring = head.ring; redo = r }) → Contains l.waiting w ⊎ (w ≡ record { ring = head.ring; redo = r }) → v ≡ w
    apart (inl one) (inl other) = holds.distinct v w number one other covers too
    apart (inl one) (inr other) = absurd (can.new v number one covers (subst (λ (w : Waiting). Covers w.redo number) other too))
    apart (inr one) (inl other) = absurd (can.new w number other too (subst (λ (w : Waiting). Covers w.redo number) one covers))
    apart (inr one) (inr other) = one ∙ sym other

-- The medium holds the log with the record where the rings fit, each waiting record is in its cells, and so is this one.
added_log : {l : LogState} {head : Cell} {r : RedoBundle} {p q : State} {rings : ℕ → RingRecords} {waiting : List Waiting} → HoldsLog l p → CanPersist l head r
    → AddsLogged l.sizes head r l.rings rings → AddsWaiting (record { ring = head.ring; redo = r }) l.waiting waiting → RestsAt VERSION l.sizes l.reproduced l.home q
    → ((ring : ℕ) → ring < l.sizes.rings → ring ≢ head.ring → FitsRing l.sizes ring (l.rings ring).logged (l.rings ring).released q)
    → FitsRing l.sizes head.ring ((l.rings head.ring).logged ++ logged_as head r ∷ []) (l.rings head.ring).released q
    → ((ring : ℕ) → ring < l.sizes.rings → All (λ k. l.reproduced < k.last → IsWaiting l.sizes l.waiting ring q k) (l.rings ring).logged)
    → HoldSettled l.sizes head r q → HoldsLog (with_waiting l rings waiting) q
added_log {l} {head} {r} {p} {q} {rings} {waiting} holds can adds added rests others own waits held = record {
  accepted = holds.accepted;
  small = holds.small;
  rest = rests;
  fits = λ ring below. each (λ ring x. FitsRing l.sizes ring x.logged x.released q) ring below own (others ring below);
  rising = λ ring below. each (λ ring x. AllPairs (λ k m. k.last < first_logged m) x.logged) ring below
      (all_pairs_push (λ (k m : Logged). k.last < first_logged m) (l.rings head.ring).logged (logged_as head r) (holds.rising head.ring can.append.cell.ring_is) can.newest)
      (λ ne. holds.rising ring below);
  logged = λ ring below. each (λ ring x. All (λ k. l.reproduced < k.last → IsWaiting l.sizes waiting ring q k) x.logged) ring below
      (All-push (λ (k : Logged). l.reproduced < k.last → IsWaiting l.sizes waiting head.ring q k) (l.rings head.ring).logged (logged_as head r)
      (more head.ring can.append.cell.ring_is)
      (λ over. record { slot_is = can.append.cell.slot_is; redo = r; waits = added.one; held = held }))
      (λ ne. more ring below);
  waits = λ w is. ⊎_elim (λ old. old_waits w (holds.waits w old)) (λ new. subst (λ (w : Waiting). IsLogged (with_waiting l rings waiting) w) (sym new) new_waits) (added.only w is);
  distinct = added_distinct holds can added;
}
  where
    each : (P : ℕ → RingRecords → Type 0) (ring : ℕ) → ring < l.sizes.rings → P head.ring (with_last (logged_as head r) (l.rings head.ring)) → (ring ≢ head.ring → P ring (l.rings ring)) → P ring (rings ring)
    each P ring below = added_ring l.sizes head r l.rings rings adds P ring below

    more : (ring : ℕ) → ring < l.sizes.rings → All (λ k. l.reproduced < k.last → IsWaiting l.sizes waiting ring q k) (l.rings ring).logged
    more ring below k d lt over =
        let is = waits ring below k d lt over in
        record { slot_is = is.slot_is; redo = is.redo; waits = added.others _ is.waits; held = is.held }

    old_waits : (w : Waiting) → IsLogged l w → IsLogged (with_waiting l rings waiting) w
    old_waits w old = record {
      ring_is = old.ring_is;
      over = old.over;
      slot = old.slot;
      has = each (λ ring x. ring ≡ w.ring → HasHead w.redo.last old.slot x.logged) w.ring old.ring_is
          (λ same. head_before w.redo.last old.slot (l.rings head.ring).logged (logged_as head r ∷ []) (subst (λ (ring : ℕ). HasHead w.redo.last old.slot (l.rings ring).logged) (sym same) old.has))
          (λ ne same. old.has) refl;
    }

    new_waits : IsLogged (with_waiting l rings waiting) (record { ring = head.ring; redo = r })
    new_waits = record {
      ring_is = can.append.cell.ring_is;
      over = can.over;
      slot = head.slot;
      has = each (λ ring x. HasHead r.last head.slot x.logged) head.ring can.append.cell.ring_is (head_last (l.rings head.ring).logged (logged_as head r) r.last head.slot refl refl)
          (λ ne. absurd (ne refl));
    }

-- An image of a state on the way, as a medium at rest, holds the log without the record or with it.
module _ {l : LogState} {head : Cell} {r : RedoBundle} {p q : State} (holds : HoldsLog l p) (can : CanPersist l head r) (way : Appending l.sizes (l.rings head.ring).logged head r p q)
    {len : ℕ} {image : List ℕ} (long : image_words l.sizes ≤ len) (is : IsImage len q image) where
  heads : HeadsHold l.sizes (l.rings head.ring).logged head r p q.told image
  heads = ((appending_law l.sizes (l.rings head.ring).logged head r p q can.append.cell can.append.encodable can.append.home can.append.room (fits_here holds can).mark way).0 len long).each image is

  image_rests : RestsAt VERSION l.sizes l.reproduced l.home (settled_state image)
  image_rests = settled_state_rests (images_at_rest_law VERSION l.sizes l.reproduced l.home q len image long (rests_on holds can way) is)

  image_mark : settled_mark (settled_state image) ≡ l.reproduced
  image_mark = ap (λ (w : Word). w.settled) image_rests.mark

  image_keeps : KeepsCells l.sizes q (settled_state image)
  image_keeps = settled_state_keeps l.sizes q image (λ k low below. is.each k (omega arith))

  image_others : (ring : ℕ) → ring < l.sizes.rings → ring ≢ head.ring → FitsRing l.sizes ring (l.rings ring).logged (l.rings ring).released (settled_state image)
  image_others ring below ne = rest_law l.sizes ring (l.rings ring).logged (l.rings ring).released q (settled_state image) (some_cells holds) (others_on holds can way ring below ne) (is_settled image_rests.mark)
      (let new = image_mark in let old : settled_mark q ≡ l.reproduced = ap (λ (w : Word). w.settled) (rests_on holds can way).mark in omega arith)
      (λ slot tag lt may. image_keeps.tags ring slot tag below lt may)
      (λ slot j x lt small settled. image_keeps.stay ring slot j x below lt small settled)

  image_waiting : (ring : ℕ) → ring < l.sizes.rings → All (λ k. l.reproduced < k.last → IsWaiting l.sizes l.waiting ring (settled_state image) k) (l.rings ring).logged
  image_waiting ring below k d lt over =
      let one = waiting_on holds can way ring below k d lt over in
      record {
        slot_is = one.slot_is;
        redo = one.redo;
        waits = one.waits;
        held = settled_records_law.rest l.sizes (head_of ring (get_or (l.rings ring).logged k d)) one.redo q (settled_state image) (record { ring_is = below; slot_is = one.slot_is })
            (λ slot j x few small settled. image_keeps.stay ring slot j x below few small settled) one.held;
      }

  image_records : All (λ k. settled_mark (settled_state image) < k.last → IsIntact l.sizes head.ring (settled_state image) k) (l.rings head.ring).logged
  image_records k d lt over =
      let mark = image_mark in
      let one = image_waiting head.ring can.append.cell.ring_is k d lt (omega arith) in
      let intact = way.records k d lt (let old = settled_mark_is holds in omega arith) in
      intact_by intact (λ i j few small. image_keeps.stay head.ring (((get_or (l.rings head.ring).logged k d).slot + i) % l.sizes.cells) j _ can.append.cell.ring_is
      (mod-lt ((get_or (l.rings head.ring).logged k d).slot + i) (some_cells holds)) small (intact.settled_words i j few small))

  -- a head over the mark in this ring is one of an image
  new_head : (slot tag : ℕ) → slot < l.sizes.cells → MayHold ((settled_state image).word (cell_start l.sizes (cell_at head.ring slot))) tag → IsHeadOver (settled_mark (settled_state image)) tag
      → (tag ≡ tag_of l.sizes image (cell_at head.ring slot)) × IsNewHead l.sizes (mark_of image) image (cell_at head.ring slot)
  new_head slot tag below may over =
      let same : tag ≡ tag_of l.sizes image (cell_at head.ring slot) = may_still _ _ tag refl may in
      (same, record { cell = record { ring_is = can.append.cell.ring_is; slot_is = below }; new = subst (IsHeadOver (mark_of image)) same over })

  old_log : (IsHeadOver l.reproduced (tag_of l.sizes image head) → ⊥) → HoldsLog l (settled_state image)
  old_log none = record {
    accepted = holds.accepted;
    small = holds.small;
    rest = image_rests;
    fits = λ ring below. elim (cases_eq ring head.ring) [
      | inl same ↦ subst (λ (x : ℕ). FitsRing l.sizes x (l.rings x).logged (l.rings x).released (settled_state image)) (sym same) own
      | inr ne ↦ image_others ring below ne
    ];
    rising = holds.rising;
    logged = image_waiting;
    waits = holds.waits;
    distinct = holds.distinct;
  }
    where
      own : FitsRing l.sizes head.ring (l.rings head.ring).logged (l.rings head.ring).released (settled_state image)
      own = record {
        mark = is_settled image_rests.mark;
        reproduced = (let mark = image_mark in let old = (fits_here holds can).reproduced in let was = settled_mark_is holds in omega arith);
        heads = λ slot tag below may over.
            let both = new_head slot tag below may over in
            ⊎_elim
            (λ known. subst (λ (t : ℕ). HasHead (number_of t) slot (l.rings head.ring).logged) (sym both.0) known)
            (λ mine. absurd (none (subst (λ (m : ℕ). IsHeadOver m (tag_of l.sizes image head)) image_mark (subst (λ (c : Cell). IsHeadOver (mark_of image) (tag_of l.sizes image c)) mine.0 both.1.new))))
            (heads.known (cell_at head.ring slot) refl both.1);
        records = image_records;
      }

  new_log : {rings : ℕ → RingRecords} {waiting : List Waiting} → AddsLogged l.sizes head r l.rings rings → AddsWaiting (record { ring = head.ring; redo = r }) l.waiting waiting
      → IsHeadOver l.reproduced (tag_of l.sizes image head) → HoldsLog (with_waiting l rings waiting) (settled_state image)
  new_log adds added over = added_log holds can adds added image_rests image_others own image_waiting held
    where
      new : IsNewHead l.sizes (mark_of image) image head
      new = record { cell = can.append.cell; new = subst (λ (m : ℕ). IsHeadOver m (tag_of l.sizes image head)) (sym image_mark) over }

      same : record_of (word_in_image l.sizes image head) ≡ r
      same = ⊎_elim
          (λ known. absurd (none_here holds can (number_of (tag_of l.sizes image head)) over.over known))
          (λ mine. mine.1)
          (heads.known head refl new)

      held : HoldSettled l.sizes head r (settled_state image)
      held = record { settled_words = λ k j lt small. refl; complete = heads.complete head refl new; same = same }

      own : FitsRing l.sizes head.ring ((l.rings head.ring).logged ++ logged_as head r ∷ []) (l.rings head.ring).released (settled_state image)
      own = record {
        mark = is_settled image_rests.mark;
        reproduced = (let mark = image_mark in let old = (fits_here holds can).reproduced in let was = settled_mark_is holds in omega arith);
        heads = λ slot tag below may high.
            let both = new_head slot tag below may high in
            subst (λ (t : ℕ). HasHead (number_of t) slot ((l.rings head.ring).logged ++ logged_as head r ∷ [])) (sym both.0) (⊎_elim
            (λ known. head_before (number_of (tag_of l.sizes image (cell_at head.ring slot))) slot (l.rings head.ring).logged (logged_as head r ∷ []) known)
            (λ mine. head_last (l.rings head.ring).logged (logged_as head r) (number_of (tag_of l.sizes image (cell_at head.ring slot))) slot
            (sym (tag_number l.sizes image (cell_at head.ring slot) r both.1.cell mine.1)) (sym (ap (λ (c : Cell). c.slot) mine.0)))
            (heads.known (cell_at head.ring slot) refl both.1));
        records = All-push (λ (k : Logged). settled_mark (settled_state image) < k.last → IsIntact l.sizes head.ring (settled_state image) k) (l.rings head.ring).logged (logged_as head r) image_records
            (λ high. settled_records_law.intact l.sizes head r (settled_state image) held);
      }

-- an image that recovers so still does where a record more waits
among_more : {l : LogState} {w : Waiting} {rings : ℕ → RingRecords} {waiting : List Waiting} {before low high : ℕ} {told image : List ℕ} → AddsWaiting w l.waiting waiting
    → RecoversAmong l before low high told image → RecoversAmong (with_waiting l rings waiting) before low high told image
among_more {l} {w} {waiting = waiting} added among = record {
  number = among.number;
  array = among.array;
  recovered = among.recovered;
  same_sizes = among.same_sizes;
  is_array = waiting_law.added_arrays w l.waiting waiting l.reproduced among.number l.home among.array added among.is_array;
  least = among.least;
  most = among.most;
  floor = among.floor;
}

pub persisting_law : LawOfPersisting
persisting_law l head r rings waiting p q holds can adds added way len before low high long old new floor = record {
  each = λ image is.
      let size = is.size in
      let up : low ≤ high = waiting_law.added_end _ l.waiting waiting l.reproduced low high (added_distinct holds can added) added old new in
      let told : AtLeast before q.told low = subst (λ (told : List ℕ). AtLeast before told low) (sym way.told) floor in
      ⊎_elim
      (λ over. shows (new_log holds can way long is adds added over) (omega arith) before low high high q.told new up (omega arith) told)
      (λ none. among_more added (shows (old_log holds can way long is none) (omega arith) before low high low q.told old (omega arith) up told))
      (over_or_not l.reproduced (tag_of l.sizes image head));
}

pub persist_law : LawOfPersist
persist_law l head r rings waiting p holds can adds added = (
  λ len before low high long old new floor. after_each_weaker (λ q way. persisting_law l head r rings waiting p q holds can adds added way len before low high long old new floor) law.0,
  added_log holds can adds added (rests_on holds can last) (others_on holds can last) law.1.fits (waiting_on holds can last)
      (settled_records_law.appended l.sizes (l.rings head.ring).logged (l.rings head.ring).released head r p end (can_append holds can) law.1),
  law.1.told,
)
  where
    end : State
    end = after_all (append_calls l.sizes head r) p

    law : AfterEachCall (Appending l.sizes (l.rings head.ring).logged head r p) p (append_calls l.sizes head r)
        × Appended l.sizes (l.rings head.ring).logged (l.rings head.ring).released head r p end
    law = append_law l.sizes (l.rings head.ring).logged (l.rings head.ring).released head r p (fits_here holds can) (can_append holds can)

    last : Appending l.sizes (l.rings head.ring).logged head r p end
    last = after_each_last law.0

pub log_on_the_way_law : LawOfLogOnTheWay
log_on_the_way_law l head r p q holds can way = (rests_on holds can way, others_on holds can way, waiting_on holds can way)
