-- The layer of the store is kept by every call on the medium.
use Rattle.std.proofs.Common.{◌≡◌, ℕ, ◌+◌, ◌*◌, ◌%◌, ◌<◌, ◌≤◌, ◌⊎◌, nat_lt, List, [], ◌∷◌, ◌++◌, length, refl, sym, ap, ◌∙◌, subst, inl, inr, ⊎_elim, eq-eqb, ne_eqb, arith, take, length-append, append_assoc, mul-le-mul_right}
use Rattle.std.specs.Prelude.{Some, slice_index}
use Rattle.std.specs.List.{filter}
use Rattle.std.proofs.Math.Nat.{mod-lt}
use Rattle.std.proofs.lemmas.List.Elements.{Contains-push, Contains-push_cases, Contains-append_left}
use Rattle.std.proofs.lemmas.List.FromFn.{length-map-range_with_len}
use mathlib.Core.Option.{some}
use mathlib.Core.Logic.{dite}
use native.Mathlib.Decide.{ℕ_discrete, dec_lt}
use lib.ListN.{get_elem?}
use Rattle.dude_base.specs.declared.limits.TheConstants.{PAGE}
use Rattle.dude_base.specs.declared.write.Write.{Write}
use Rattle.dude_base.specs.Image.{Cell, cell_at, home_word}
use Rattle.dude_base.specs.Records.{RedoBundle, first_of, Covers}
use Rattle.dude_base.specs.Writes.{overwritten}
use Rattle.pmem_trait.specs.declared.call.Call.{Call}
use Rattle.pmem_trait.specs.declared.call.Call.TheVariants.{Read}
use Rattle.pmem_trait.specs.Words.{State as MediumState, IsIn, AtLeast, newest, last_told, value_of, after_all}
use Rattle.pmem_trait.proofs.Laws.{after_each_prefix, after_each_last}
use Rattle.redo_record.specs.Record.{cells_for}
use Rattle.redo_record.specs.RingLaws.{slot_after}
use Rattle.redo_record.specs.AppendLaw.{logged_as}
use Rattle.redo_record.specs.Waiting.{Waiting, IsContiguousEnd, AddsWaiting, KeepsOver}
use Rattle.redo_record.specs.LogState.{LogState, HoldsLog}
use Rattle.redo_record.specs.BackCalls.{read_page_calls}
use Rattle.redo_record.specs.BackLaws.{AddsLogged, CanPersist, CanReproduce, reproduced_to, released_upto}
use Rattle.redo_record.proofs.WaitingRecords.{keeps_filter, consecutive_up, waiting_law}
use Rattle.redo_record.proofs.Persisting.{persist_law}
use Rattle.redo_record.proofs.Reproducing.{reproduce_law}
use Rattle.redo_record.proofs.HeldLog.{announce_law, read_page_law, released_rings_law}
use Rattle.log_ring.specs.Laid.{AreLaid}
use Rattle.log_ring.proofs.Laid.{laid_free, laid_more, laid_less}
use Rattle.core_events.specs.Setups.{Setup}
use Rattle.core_events.specs.Keyed.{change}
use Rattle.core_events.specs.Words.{State}
use Rattle.core_events.specs.Entries.{value}
use Rattle.core_events.specs.Ghosts.{Ghost}
use Rattle.core_events.specs.Kept.{LayersKept}
use Rattle.core_events.proofs.Lists.{at_change}
use Rattle.core_medium.specs.KeptLog.{IsOnMedium, LogIn}
use Rattle.core_medium.specs.BoxBundles.{bundle_in}
use Rattle.core_medium.proofs.Gathered.{Gathered, gathered, inside_home, last_upto}
use Rattle.core_medium.proofs.LogCalls.{persist_stands, more_on, reproduce_stands, later_on, reproduced_values}
use Rattle.core_medium.specs.Stores.{Store, medium_of}
use Rattle.core_medium.specs.BackCalls.{BackCall, persisting, announcing, reproducing, reading, MayPersist, MayReproduce, MayCall, calls_of, adding, waiting_as, persisted_log, reproduced_log, left_by, device_after}
use Rattle.core_medium.specs.KeptStore.{ToldKept, StoreKept}

pub take_front : (xs ys : List Call) → take (length xs) (xs ++ ys) ≡ xs
take_front [] ys = refl
take_front (x ∷ xs) ys = ap (λ (cs : List Call). x ∷ cs) (take_front xs ys)

module _ (z : Setup) (g : Ghost) (c : State) (l : LayersKept z g c) (d : Store) (k : StoreKept z g c d) where
  -- a call more was made
  called : (b : BackCall) (call next : Call) (later : List Call) → MayCall z c.boxes c.records d.log d.rest.told b → calls_of z c.records d.log.sizes d.next b ≡ d.calls ++ call ∷ next ∷ later
      → (read2 : List (ℕ × ℕ)) → ToldKept z g.claims.hist c.durable c.reproduced (record d { read = read2 }) → StoreKept z g c (record d { calls = d.calls ++ call ∷ []; read = read2 })
  called b call next later may whole read2 told = record {
    places = k.places;
    holds = k.holds;
    laid = k.laid;
    next_in = k.next_in;
    stands = k.stands;
    told = record { told = told.told; last = told.last; durable_told = told.durable_told; marked_told = told.marked_told; marks = told.marks; reproduced_upto = told.reproduced_upto; read = told.read };
    under = inr (record { back = b; may = may; call = next; later = later; whole = whole ∙ sym (append_assoc d.calls (call ∷ []) (next ∷ later)) });
  }

  -- ---- a bundle is persisted
  module _ (t j : ℕ) (more : List (ℕ × ℕ)) (m : MayPersist z c.boxes c.records d.log t j more) where
    abbrev b : RedoBundle
    b = bundle_in z c.records t j more

    abbrev head : Cell
    head = cell_at t (d.next t)

    abbrev w0 : Waiting
    w0 = waiting_as t b

    abbrev pub log2 : LogState
    log2 = persisted_log head b d.log

    gathered_in : Gathered g.claims.hist c.boxes d.log b
    gathered_in = gathered z g c l d.log t j more m.gather

    pub in_box : (n : ℕ) → Covers b n → (i : ℕ) × (get_elem? c.boxes i ≡ some n)
    in_box n cov = gathered_in.in_box n cov

    ring_in : t < d.log.sizes.rings
    ring_in = let lt = m.gather.first.thread in let most = k.places.rings in omega arith

    pub can : CanPersist d.log head b
    can = record {
      append = record {
        sizes = k.holds.accepted;
        cell = record { ring_is = ring_in; slot_is = k.next_in t ring_in };
        encodable = record {
          number_is = (let whole = gathered_in.whole in let upto = last_upto z g c l d.log t j more m.gather in let bound = l.locks.bounded in record { low = omega arith; high = omega arith });
          span_is = gathered_in.short;
          first_is = gathered_in.whole;
          writes_are = gathered_in.list;
        };
        home = rw k.places.pages (inside_home z g c l d.log t j more m.gather);
        room = (let room = m.room in omega arith);
        free = laid_free d.log.sizes (d.next t) (cells_for (length b.writes)) d.log.reproduced (d.log.rings t).logged (k.laid t ring_in) m.room;
      };
      newest = m.newest;
      over = dite (dec_lt d.log.reproduced (first_of b)) (λ lt. lt) (λ ge. absurd (gathered_in.absent (first_of b) (record { low = omega arith; high = omega arith }) (inl (omega arith))));
      new = λ w n is cov mine. gathered_in.absent n mine (inr (w, is, cov));
    }

    pub adds : AddsWaiting w0 d.log.waiting (d.log.waiting ++ w0 ∷ [])
    adds = record {
      one = Contains-push d.log.waiting w0;
      others = λ v is. Contains-append_left d.log.waiting (w0 ∷ []) v is;
      only = λ v is. ⊎_elim (λ old. inl old) (λ new. inr (sym new)) (Contains-push_cases d.log.waiting w0 v is);
    }

    pub logged : AddsLogged d.log.sizes head b d.log.rings (adding t (logged_as head b) d.log.rings)
    logged ring lt = refl

    pub stands2 : LogIn z g c log2
    stands2 = persist_stands z g c l d.log k.stands t j more m.gather (adding t (logged_as head b) d.log.rings) (d.log.waiting ++ w0 ∷ []) adds

    still_on : (x : ℕ) → IsOnMedium d.log x → IsOnMedium log2 x
    still_on x on = more_on z g c l d.log k.stands t j more m.gather (adding t (logged_as head b) d.log.rings) (d.log.waiting ++ w0 ∷ []) adds x on

    -- behind its last call
    persisted_keep : (calls : List Call) → calls_of z c.records d.log.sizes d.next (persisting t j more) ≡ calls → StoreKept z g c (left_by z c.records (persisting t j more) (record d { calls = calls }))
    persisted_keep calls whole =
        let law = persist_law d.log head b (adding t (logged_as head b) d.log.rings) (d.log.waiting ++ w0 ∷ []) d.rest k.holds can logged adds in
        let told_same : (after_all calls d.rest).told ≡ d.rest.told = ap (λ (cs : List Call). (after_all cs d.rest).told) (sym whole) ∙ law.2 in
        record {
          places = k.places;
          holds = subst (λ (cs : List Call). HoldsLog log2 (after_all cs d.rest)) whole law.1;
          laid = λ ring lt. laid2 ring lt;
          next_in = λ ring lt. next2 ring lt;
          stands = stands2;
          told = record {
            told = λ x y e le. still_on y (k.told.told x y (rw told_same at e) le);
            last = rw told_same k.told.last;
            durable_told = (k.told.durable_told.0, rw told_same k.told.durable_told.1, k.told.durable_told.2);
            marked_told = (k.told.marked_told.0, rw told_same k.told.marked_told.1, k.told.marked_told.2);
            marks = k.told.marks;
            reproduced_upto = k.told.reproduced_upto;
            read = k.told.read;
          };
          under = inl refl;
        }
      where
        next2 : (ring : ℕ) → ring < d.log.sizes.rings → change d.next t (slot_after d.log.sizes (d.next t) (cells_for (length b.writes))) ring < d.log.sizes.cells
        next2 ring lt = ⊎_elim
            (λ hit. rw hit.1 (mod_small (d.next t + cells_for (length b.writes)) (let below = k.next_in t ring_in in omega arith)))
            (λ miss. rw miss.1 (k.next_in ring lt))
            (at_change d.next t (slot_after d.log.sizes (d.next t) (cells_for (length b.writes))) ring)
          where
            mod_small : (a : ℕ) → 0 < d.log.sizes.cells → a % d.log.sizes.cells < d.log.sizes.cells
            mod_small a pos = mod-lt a pos

        laid2 : (ring : ℕ) → ring < d.log.sizes.rings → AreLaid d.log.sizes (change d.next t (slot_after d.log.sizes (d.next t) (cells_for (length b.writes))) ring) (adding t (logged_as head b) d.log.rings ring).logged
        laid2 ring lt = dite (ℕ_discrete ring t)
            (λ same. rw (eq-eqb ring t same, same) (laid_more d.log.sizes (d.next t) (logged_as head b) refl (k.next_in t ring_in) (d.log.rings t).logged (omega arith) m.room can.newest (k.laid t ring_in)))
            (λ other. rw (ne_eqb ring t other) (k.laid ring lt))

  -- ---- the end is announced
  -- a number up to one that was told is up to the end
  pub told_upto : (end : ℕ) → IsContiguousEnd d.log.waiting d.log.reproduced end → AtLeast 0 d.rest.told end
  told_upto end is x there = dite (dec_lt end x)
      (λ lt. absurd (⊎_elim
      (λ low. let up = consecutive_up d.log.reproduced end is.records is.lead.consecutive in omega arith)
      (λ w. waiting_law.uncovered d.log.waiting d.log.reproduced end w.0 k.holds.distinct is w.1 (k.holds.waits w.0 w.1).over w.2)
      (k.told.told x (end + 1) there (omega arith))))
      (λ ge. omega arith)

  announced_keep : (x : ℕ) → MayCall z c.boxes c.records d.log d.rest.told (announcing x) → (calls : List Call) → calls_of z c.records d.log.sizes d.next (announcing x) ≡ calls → StoreKept z g c (left_by z c.records (announcing x) (record d { calls = calls }))
  announced_keep x may calls whole =
      let law = announce_law d.log x d.rest k.holds in
      let told_is : (after_all calls d.rest).told ≡ d.rest.told ++ x ∷ [] = ap (λ (cs : List Call). (after_all cs d.rest).told) (sym whole) ∙ law.2 in
      record {
        places = k.places;
        holds = subst (λ (cs : List Call). HoldsLog d.log (after_all cs d.rest)) whole law.1;
        laid = k.laid;
        next_in = k.next_in;
        stands = k.stands;
        told = record {
          told = λ y m e le. ⊎_elim
              (λ old. k.told.told y m old le)
              (λ new. dite (dec_lt d.log.reproduced m) (λ over. (let w = waiting_law.covered d.log.waiting d.log.reproduced x m may.records may.lead over (omega arith) in inr (w.0, w.1, w.2))) (λ low. inl (omega arith)))
              (told_cases d.rest.told x y (rw told_is at e));
          last = rw told_is (x, last_push d.rest.told x, (λ y e. ⊎_elim (λ old. told_upto x may y old) (λ new. omega arith) (told_cases d.rest.told x y e)));
          durable_told = (k.told.durable_told.0, rw told_is (told_more d.rest.told x k.told.durable_told.0 k.told.durable_told.1), k.told.durable_told.2);
          marked_told = (k.told.marked_told.0, rw told_is (told_more d.rest.told x k.told.marked_told.0 k.told.marked_told.1), k.told.marked_told.2);
          marks = k.told.marks;
          reproduced_upto = k.told.reproduced_upto;
          read = k.told.read;
        };
        under = inl refl;
      }
    where
      told_cases : (told : List ℕ) (x y : ℕ) → IsIn y (told ++ x ∷ []) → IsIn y told ⊎ (y ≡ x)
      told_cases [] x y (inl e) = inr e
      told_cases [] x y (inr e) = absurd e
      told_cases (t ∷ ts) x y (inl e) = inl (inl e)
      told_cases (t ∷ ts) x y (inr e) = ⊎_elim (λ old. inl (inr old)) (λ new. inr new) (told_cases ts x y e)

      newest_push : (t x : ℕ) (ts : List ℕ) → newest t (ts ++ x ∷ []) ≡ x
      newest_push t x [] = refl
      newest_push t x (u ∷ ts) = newest_push u x ts

      last_push : (told : List ℕ) (x : ℕ) → last_told (told ++ x ∷ []) ≡ Some x
      last_push [] x = refl
      last_push (t ∷ ts) x = ap Some (newest_push t x ts)

      told_more : (told : List ℕ) (x y : ℕ) → IsIn y told → IsIn y (told ++ x ∷ [])
      told_more [] x y e = absurd e
      told_more (t ∷ ts) x y (inl e) = inl e
      told_more (t ∷ ts) x y (inr e) = inr (told_more ts x y e)

  -- ---- bundles are reproduced
  module _ (rs : List RedoBundle) (ws : List Write) (x : ℕ) (m : MayReproduce d.log d.rest.told rs ws x) where
    abbrev waiting2 : List Waiting
    waiting2 = filter (λ w. nat_lt x w.redo.last) d.log.waiting

    abbrev log3 : LogState
    log3 = reproduced_log ws x d.log

    keeps : KeepsOver x d.log.waiting waiting2
    keeps = keeps_filter x d.log.waiting

    pub can_reproduce : CanReproduce d.log rs ws x
    can_reproduce = record { lead = m.lead; rising = m.rising; effect = m.effect }

    home_long : length d.log.home ≡ z.pages * PAGE
    home_long = k.holds.rest.count ∙ ap (λ (n : ℕ). n * PAGE) k.places.pages

    later : (y : ℕ) → IsOnMedium d.log y → IsOnMedium log3 y
    later y on = later_on z g c d.log k.stands rs ws x (λ ring. released_upto x (d.log.rings ring)) waiting2 k.places.pages home_long can_reproduce keeps y on

    pub values_there : (i : ℕ) → i < z.pages * PAGE → slice_index (overwritten ws d.log.home) i ≡ value z.opening g.claims.hist x i
    values_there i lt = reproduced_values z g c d.log k.stands rs ws x (λ ring. released_upto x (d.log.rings ring)) waiting2 k.places.pages home_long can_reproduce keeps i lt

    stands3 : LogIn z g c log3
    stands3 = reproduce_stands z g c d.log k.stands rs ws x (λ ring. released_upto x (d.log.rings ring)) waiting2 k.places.pages home_long can_reproduce keeps

    reproduced_keep : (calls : List Call) → calls_of z c.records d.log.sizes d.next (reproducing rs ws x) ≡ calls → StoreKept z g c (left_by z c.records (reproducing rs ws x) (record d { calls = calls }))
    reproduced_keep calls whole =
        let law = reproduce_law d.log rs ws x waiting2 d.rest k.holds can_reproduce keeps in
        let told_same : (after_all calls d.rest).told ≡ d.rest.told = ap (λ (cs : List Call). (after_all cs d.rest).told) (sym whole) ∙ law.2 in
        let held : HoldsLog (reproduced_to d.log ws x waiting2) (after_all calls d.rest) = subst (λ (cs : List Call). HoldsLog (reproduced_to d.log ws x waiting2) (after_all cs d.rest)) whole law.1 in
        let some = m.some in
        record {
          places = k.places;
          holds = released_rings_law (reproduced_to d.log ws x waiting2) x (λ ring. released_upto x (d.log.rings ring)) (after_all calls d.rest) held (omega arith) (λ ring lt. refl);
          laid = λ ring lt. laid_less d.log.sizes (d.next ring) x (d.log.rings ring).logged (k.next_in ring lt) (k.laid ring lt);
          next_in = k.next_in;
          stands = stands3;
          told = record {
            told = λ y n e le. later n (k.told.told y n (rw told_same at e) le);
            last = rw told_same k.told.last;
            durable_told = (k.told.durable_told.0, rw told_same k.told.durable_told.1, k.told.durable_told.2);
            marked_told = (m.durable.0, rw told_same m.durable.1, m.durable.2);
            marks = λ y e. ⊎_elim (λ same. omega arith) (λ old. let le = k.told.marks y old in omega arith) e;
            reproduced_upto = (let up = k.told.reproduced_upto in omega arith);
            read = λ i y e. let q = k.told.read i y e in let at = q.1 in let le = at.2 in (q.0, (at.0, at.1, omega arith, at.3));
          };
          under = inl refl;
        }

  -- ---- a page is read
  module _ (p : ℕ) (below : p < d.log.sizes.pages) where
    abbrev place : ℕ
    place = p * PAGE + length d.calls

    -- the medium is as it was
    pub still : (rest : List Call) → read_page_calls d.log.sizes p ≡ d.calls ++ rest → medium_of d ≡ d.rest
    still rest whole =
        let front : take (length d.calls) (read_page_calls d.log.sizes p) ≡ d.calls = ap (take (length d.calls)) whole ∙ take_front d.calls rest in
        ap (λ (cs : List Call). after_all cs d.rest) (sym front) ∙ after_each_prefix (length d.calls) (read_page_law d.log p d.rest k.holds below).0

    told_read : (call : Call) (later : List Call) → read_page_calls d.log.sizes p ≡ d.calls ++ call ∷ later
        → ToldKept z g.claims.hist c.durable c.reproduced (record d { read = (place, value_of ((medium_of d).word (home_word d.log.sizes place))) ∷ d.read })
    told_read call later whole =
        let long : length (read_page_calls d.log.sizes p) ≡ PAGE = reads_long in
        let size : length (d.calls ++ call ∷ later) ≡ length d.calls + length (call ∷ later) = length-append d.calls (call ∷ later) in
        let few : length d.calls < PAGE = (let e = ap length whole in omega arith) in
        let same = k.places.pages in
        let pages : (p + 1) * PAGE ≤ z.pages * PAGE = mul-le-mul_right PAGE (omega arith) in
        let inside : place < z.pages * PAGE = omega arith in
        let value_is : value_of ((medium_of d).word (home_word d.log.sizes place)) ≡ slice_index d.log.home place =
        ap (λ (q : MediumState). value_of (q.word (home_word d.log.sizes place))) (still (call ∷ later) whole) ∙ ap value_of (k.holds.rest.words place (let count = k.holds.rest.count in omega arith)) in
        record {
          told = k.told.told;
          last = k.told.last;
          durable_told = k.told.durable_told;
          marked_told = k.told.marked_told;
          marks = k.told.marks;
          reproduced_upto = k.told.reproduced_upto;
          read = λ i y e. ⊎_elim
              (λ new. let i_is = new.0 in let y_is = new.1 in (omega arith, (d.log.reproduced, k.told.reproduced_upto, omega arith, sym y_is ∙ (value_is ∙ (k.stands.home place inside ∙ ap (value z.opening g.claims.hist d.log.reproduced) i_is)))))
              (λ old. k.told.read i y old) e;
        }
      where
        reads_long : length (read_page_calls d.log.sizes p) ≡ PAGE
        reads_long = length-map-range_with_len Read (home_word d.log.sizes (p * PAGE)) PAGE

  at_rest_keep : (calls : List Call) (read2 : List (ℕ × ℕ)) → after_all calls d.rest ≡ d.rest → ToldKept z g.claims.hist c.durable c.reproduced (record d { read = read2 })
      → StoreKept z g c (record d { rest = after_all calls d.rest; calls = []; read = read2 })
  at_rest_keep calls read2 same told = record {
    places = k.places;
    holds = rw same k.holds;
    laid = k.laid;
    next_in = k.next_in;
    stands = k.stands;
    told = record { told = rw same told.told; last = rw same told.last; durable_told = rw same told.durable_told; marked_told = rw same told.marked_told; marks = told.marks; reproduced_upto = told.reproduced_upto; read = told.read };
    under = inl refl;
  }

  same_told : ToldKept z g.claims.hist c.durable c.reproduced d
  same_told = k.told

  pub device_keep : (b : BackCall) (call : Call) (left : List Call) → MayCall z c.boxes c.records d.log d.rest.told b → calls_of z c.records d.log.sizes d.next b ≡ d.calls ++ call ∷ left
      → StoreKept z g c (device_after z c.records b call left d)
  device_keep (persisting t j more) call [] may whole = persisted_keep t j more may (d.calls ++ call ∷ []) whole
  device_keep (persisting t j more) call (next ∷ later) may whole = called (persisting t j more) call next later may whole d.read k.told
  device_keep (announcing x) call [] may whole = announced_keep x may (d.calls ++ call ∷ []) whole
  device_keep (announcing x) call (next ∷ later) may whole = called (announcing x) call next later may whole d.read k.told
  device_keep (reproducing rs ws x) call [] may whole = reproduced_keep rs ws x may (d.calls ++ call ∷ []) whole
  device_keep (reproducing rs ws x) call (next ∷ later) may whole = called (reproducing rs ws x) call next later may whole d.read k.told
  device_keep (reading p) call [] may whole =
      at_rest_keep (d.calls ++ call ∷ []) _ (ap (λ (cs : List Call). after_all cs d.rest) (sym whole) ∙ after_each_last (read_page_law d.log p d.rest k.holds may).0) (told_read p may call [] whole)
  device_keep (reading p) call (next ∷ later) may whole = called (reading p) call next later may whole _ (told_read p may call (next ∷ later) whole)
