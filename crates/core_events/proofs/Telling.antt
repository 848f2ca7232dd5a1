-- What a step of a kept state tells the view that makes it.
use Rattle.std.proofs.Common.{◌≡◌, ◌^◌, ◌%◌, ◌-◌, mod-eq_of_lt, ℕ, ◌+◌, ◌*◌, ◌<◌, ◌≤◌, ◌⊎◌, Bool, true, false, List, [], ◌∷◌, length, get_or, map, refl, sym, ap, ◌∙◌, inl, inr, ⊎_elim, eq-eqb, arith, mod-lt}
use Rattle.std.specs.Prelude.{Option, Some, None}
use mathlib.Core.Option.{some, some-injective}
use mathlib.Core.Logic.{dite}
use native.Mathlib.Decide.{dec_lt}
use lib.ListN.{get_elem?}
use Rattle.dude_base.specs.declared.limits.TheConstants.{PAGE, MAX_NUMBER}
use Rattle.core_events.specs.Setups.{Setup, page_of, cell_of, box_of, entry_with}
use Rattle.core_events.specs.Keyed.{find, or_else, total}
use Rattle.core_events.specs.Views.{View}
use Rattle.core_events.specs.Words.{State, found}
use Rattle.core_events.specs.Events.{Event, number, begin, extend, look, load, check, finish, take, draw, decide, store, release, restore, see_box, post, take_turn, give_turn, see_full, empty_box, raise_durable, raise_reproduced, entry, pin, unpin, touch, load_touch, evict, fill, show, name, own_word, first_lock, pinned_frame, next_box, view_after}
use Rattle.core_events.specs.Conditions.{Owns, Pins, HasThread, May, IsAllowed, after}
use Rattle.core_events.specs.Ghosts.{Hold, free, taken, writing, version, word_of, Ghost}
use Rattle.core_events.specs.KeptThreads.{part_of, waiting_of, splits_of}
use Rattle.core_events.specs.KeptLocks.{draws_of}
use Rattle.core_events.specs.KeptEntries.{entries_of}
use Rattle.core_events.specs.KeptTurn.{Holder, holder_of}
use Rattle.core_events.specs.KeptPages.{pins_of, pins_at, entry_word}
use Rattle.core_events.specs.Kept.{LayersKept, Kept}
use Rattle.core_events.specs.KeptLaws.{KeepsFull, LeavesDraws, HasDrawn, HasRaised}
use Rattle.core_events.specs.Telling.{IsInside, IsSized, IsSeated, ClockTold, LockTold, EntryTold, WordTold, IsTold}
use Rattle.core_events.proofs.Lists.{there, set_here, at_map, view_there}
use Rattle.core_events.proofs.Filled.{counts_one, entry_positive}
use Rattle.core_events.proofs.Pages.{pins_below}
use Rattle.core_events.proofs.Boxes.{box_inside}
use Rattle.core_events.proofs.Reading.{mine_if}
use Rattle.core_events.proofs.Keeps.{event_keeps}

module _ (z : Setup) where
  pub kept_sized : (c : State) → Kept z c → IsSized z c
  kept_sized c k = let l = k.layers in record {
    locks = l.locks.numbers.sized;
    entries = l.pages.pins.sized;
    touches = l.pages.touches.sized;
    cells = l.pages.frames.sized;
    boxes = l.turn.sized;
    records = l.numbers.records.as_many ∙ l.turn.sized;
  }

  pub kept_seated : (c : State) → Kept z c → (id : ℕ) (v : View) → get_elem? c.views id ≡ some v → IsSeated z v
  kept_seated c k id v at =
      let l = k.layers in let g = k.ghost_is in let m = l.locks.each id v at in let bound = l.locks.bounded in let sum = l.threads.counted in
      record {
        thread = λ t e. let lt = (l.threads.mine id t v.part (at_map part_of c.views id v at) e).2 in omega arith;
        snapshot = λ o. let s = m.confirmed.snap o in let up = s.1 in (s.0, omega arith);
        owned = λ p o e. let r = m.owns.owns p o e in let even = r.1 in let up = r.2 in (m.owns.inside p o e, omega arith, omega arith);
        number = λ pos. let n = m.number.numbered pos in let le = n.1 in (n.2, n.0, omega arith, (l.turn.each id v at).seen.drawn pos);
        no_number = m.number.blank;
        pins = λ p f e. l.pages.frames.inside p f (l.pages.pins.pinned id p f (pins_of v) (at_map pins_of c.views id v at) e);
        next = (l.turn.each id v at).seen.place;
        entries = λ j d lt. let up = (l.entries.legal id v.entries (at_map entries_of c.views id v at) j d lt).upto in omega arith;
        draws = let one = counts_one draws_of c.views id v at in omega arith;
        splits = let one = counts_one splits_of (map part_of c.views) id v.part (at_map part_of c.views id v at) in omega arith;
      }

  first_inside : (owned : List (ℕ × ℕ)) → 0 < z.locks → ((k o : ℕ) → find owned k ≡ Some o → k < z.locks) → first_lock owned < z.locks
  first_inside [] some_lock h = some_lock
  first_inside (x ∷ xs) some_lock h = h x.0 x.1 (let r : find (x ∷ xs) x.0 ≡ Some x.1 = rw (eq-eqb x.0 x.0 refl) refl in r)

  cell_inside : (f i : ℕ) → f < z.frames → cell_of f i < z.frames * PAGE
  cell_inside f i lt = let off = mod-lt i {m = PAGE} (omega arith) in omega arith

  pinned_inside : (v : View) → IsSeated z v → (p : ℕ) → Pins v p → pinned_frame v p < z.frames
  pinned_inside v s p held = let e : pinned_frame v p ≡ held.0 = ap (λ (o : Option ℕ). or_else o 0) held.1 in let lt = (s.pins p held.0 held.1).1 in omega arith

  next_inside : (v : View) → IsSeated z v → HasThread v → next_box z v < z.threads * z.boxes
  next_inside v s t = let e : next_box z v ≡ box_of z t.0 v.box.next = ap (λ (o : Option ℕ). box_of z (or_else o 0) v.box.next) t.1 in rw e (box_inside z.boxes t.0 z.threads v.box.next (s.thread t.0 t.1) s.next)

  -- the word of an event that the view may make exists
  pub word_inside : (e : Event) (v : View) → 0 < z.locks → IsSeated z v → May z e v → IsInside z (name z e v)
  word_inside number v some_lock s m = tt
  word_inside begin v some_lock s m = tt
  word_inside extend v some_lock s m = tt
  word_inside (look n) v some_lock s m = m.named
  word_inside (load i) v some_lock s m = cell_inside (pinned_frame v (page_of i)) i (pinned_inside v s (page_of i) m.can.2)
  word_inside (check n) v some_lock s m = m.named
  word_inside (take n) v some_lock s m = m.named
  word_inside decide v some_lock s m = first_inside v.tx.owned some_lock (λ k o e. (s.owned k o e).0)
  word_inside (store i) v some_lock s m = cell_inside (pinned_frame v (page_of i)) i (pinned_inside v s (page_of i) m.can.3)
  word_inside see_box v some_lock s m = next_inside v s m.threaded
  word_inside post v some_lock s m = next_inside v s m.threaded
  word_inside (see_full t j) v some_lock s m = box_inside z.boxes t z.threads j m.named.0 m.named.1
  word_inside (empty_box t j) v some_lock s m = box_inside z.boxes t z.threads j m.named.0 m.named.1
  word_inside (fill p f i x) v some_lock s m = cell_inside f i m.named.1
  word_inside (show p f) v some_lock s m = m.named.0
  word_inside (draw a ws) v some_lock s m = tt
  word_inside (finish a) v some_lock s m = tt
  word_inside (release k) v some_lock s m = m.named
  word_inside (restore k) v some_lock s m = m.named
  word_inside take_turn v some_lock s m = tt
  word_inside (give_turn f) v some_lock s m = tt
  word_inside (raise_durable x) v some_lock s m = tt
  word_inside (raise_reproduced x) v some_lock s m = tt
  word_inside (entry p) v some_lock s m = m.named
  word_inside (pin p) v some_lock s m = m.named
  word_inside (unpin p) v some_lock s m = m.named
  word_inside (touch p) v some_lock s m = m.named
  word_inside (load_touch p) v some_lock s m = m.named
  word_inside (evict p) v some_lock s m = m.named

  module _ (c : State) (k : Kept z c) (id : ℕ) (v : View) (at : get_elem? c.views id ≡ some v) where
    abbrev l : LayersKept z k.ghost_is c
    l = k.layers

    abbrev g : Ghost
    g = k.ghost_is

    clock_told : ClockTold z v c.clock
    clock_told =
        let m = l.locks.each id v at in let one = counts_one draws_of c.views id v at in let bound = l.locks.bounded in
        record {
          from = l.locks.numbers.from;
          room = omega arith;
          entries = λ j d lt. (l.entries.legal id v.entries (at_map entries_of c.views id v at) j d lt).upto;
          snapshot = λ o. (m.confirmed.snap o).1;
          drawn = λ n e. let d = (l.numbers.drawn id v at).each n e in (
            d.0,
            ⊎_elim
                (λ h. let p = d.0 in let q = (m.number.numbered (omega arith)).1 in omega arith)
                (λ r. ⊎_elim (λ b. (l.numbers.placed.of_boxes n (box_of z b.0 b.1) b.4 d.0).2) (λ b. (l.numbers.placed.of_persisted n b).2) r)
                d.1,
          );
          looked = λ p u e. let a = m.look.looked p (2 * u) u e refl in let b = l.locks.owned.upto p in omega arith;
        }

    -- an owner's thread
    owner_thread : (n j u : ℕ) → (g.claims.lock n ≡ taken j u) ⊎ (g.claims.lock n ≡ writing j u) → g.thread j < z.threads
    owner_thread n j u e =
        let w = view_there c.views j (l.locks.seated n j u e) in let theirs = (l.locks.each j w.0 w.1).owns in
        let held : (p : ℕ) × (find w.0.tx.owned n ≡ Some p) = ⊎_elim (λ x. (2 * u, (theirs.has_taken n u x).1)) (λ x. (2 * u, (theirs.has_writing n u x).1)) e in
        let t = (theirs.owner n held.0 held.1).1 in let m = l.threads.mine j t.0 w.0.part (at_map part_of c.views j w.0 w.1) t.1 in
        let is = m.0 in let lt = m.2 in let sum = l.threads.counted in omega arith

    shape_of : (n : ℕ) (h : Hold) → g.claims.lock n ≡ h → ((u : ℕ) × (word_of g.thread h ≡ 2 * u) × (u ≤ MAX_NUMBER)) ⊎ ((t : ℕ) × (word_of g.thread h ≡ 2 * t + 1) × (t < z.threads))
    shape_of n (free u) is = inl (u, refl, (let e : version (g.claims.lock n) ≡ u = ap version is in let a = l.locks.owned.upto n in let b = l.locks.bounded in omega arith))
    shape_of n (taken j u) is = inr (g.thread j, refl, owner_thread n j u (inl is))
    shape_of n (writing j u) is = inr (g.thread j, refl, owner_thread n j u (inr is))

    owned_word : (n : ℕ) → HasThread v → (b : Bool) → v.tx.hand.decided ≡ b → Owns v n → word_of g.thread (g.claims.lock n) ≡ own_word v.part.thread
    owned_word n t true is o =
        let r = (l.locks.each id v at).owns.owns n o.0 o.1 in let m = (l.threads.mine id t.0 v.part (at_map part_of c.views id v at) t.1).0 in
        ap (word_of g.thread) (r.4 is) ∙ (ap (λ (y : ℕ). 2 * y + 1) m ∙ sym (ap own_word t.1))
    owned_word n t false is o =
        let r = (l.locks.each id v at).owns.owns n o.0 o.1 in let m = (l.threads.mine id t.0 v.part (at_map part_of c.views id v at) t.1).0 in
        ap (word_of g.thread) (r.3 is) ∙ (ap (λ (y : ℕ). 2 * y + 1) m ∙ sym (ap own_word t.1))

    lock_told : (n : ℕ) → n < z.locks → HasThread v → LockTold z v n (get_or c.locks n 0)
    lock_told n inside t =
        let shows = l.locks.owned.shows n inside in record {
          shape = rw shows (shape_of n (g.claims.lock n) refl);
          own = λ calm e. let m = mine_if z g.claims g.thread c.clock c.locks c.views l.locks z.threads c.threads g.home l.threads id t.0 v at t.1 n inside e calm in
              (2 * m.0, ((l.locks.each id v at).owns.has_taken n m.0 m.1).1);
          owned = λ o. shows ∙ owned_word n t v.tx.hand.decided refl o;
        }

    entry_shape : (p : ℕ) (o : Option ℕ) → g.frame p ≡ o → p < z.pages → EntryTold z (get_or c.entries p 0)
    entry_shape p None is inside = inl (l.pages.pins.counted p inside ∙ ap (λ (o : Option ℕ). entry_word o (total (pins_at p) (map pins_of c.views))) is)
    entry_shape p (Some f) is inside = inr (
      f,
      total (pins_at p) (map pins_of c.views),
      l.pages.pins.counted p inside ∙ ap (λ (o : Option ℕ). entry_word o (total (pins_at p) (map pins_of c.views))) is,
      (l.pages.frames.inside p f is).1,
      pins_below z g c l.threads l.pages p,
    )

    entry_told : (p : ℕ) → p < z.pages → EntryTold z (get_or c.entries p 0)
    entry_told p inside = entry_shape p (g.frame p) refl inside

    turn_small : c.turn ≤ z.threads
    turn_small = dite (dec_lt 0 c.turn)
        (λ pos. let h = l.turn.turn.held pos in let t = l.turn.turn.holds h.0 h.1 h.2 h.3 in
        let w = view_there c.views h.0 (let a = there (map holder_of c.views) h.0 h.1 h.2 in let b = length_map holder_of c.views in omega arith) in
        let same : holder_of w.0 ≡ h.1 = some-injective (holder_of w.0) h.1 (sym (at_map holder_of c.views h.0 w.0 w.1) ∙ h.2) in
        let lt = (l.threads.mine h.0 t.0 w.0.part (at_map part_of c.views h.0 w.0 w.1) (ap (λ (y : Holder). y.thread) same ∙ t.1)).2 in let sum = l.threads.counted in let e = t.2 in omega arith)
        (λ none_held. omega arith)
      where
        length_map : {A B : Type 0} (f : A → B) (xs : List A) → length (map f xs) ≡ length xs
        length_map f [] = refl
        length_map f (x ∷ xs) = let r = length_map f xs in omega arith

    word_told : (e : Event) → IsAllowed z c id e v → WordTold z e v (found c (name z e v))
    word_told number a =
        let one = counts_one waiting_of (map part_of c.views) id v.part (at_map part_of c.views id v at) in let sum = l.threads.counted in
        let none_yet : v.part.thread ≡ None = a.may.can in
        let w : waiting_of v.part ≡ 1 = rw (a.may.live, none_yet) refl in omega arith
    word_told begin a = clock_told
    word_told extend a = clock_told
    word_told (draw b ws) a = clock_told
    word_told (look n) a = lock_told n a.may.named a.may.threaded
    word_told (check n) a = lock_told n a.may.named a.may.threaded
    word_told (take n) a = lock_told n a.may.named a.may.threaded
    word_told post a =
        let m = l.locks.each id v at in let b = (l.turn.each id v at).seen in let t = a.may.threaded in
        let pos = ⊎_elim (λ y. (m.number.decided y).0) (λ y. (m.number.voided y).0) a.may.can.0 in
        let seen = b.empty (b.drawn pos) in
        let t_is : seen.0 ≡ t.0 = (let f : Some seen.0 ≡ Some t.0 = sym seen.1 ∙ t.1 in cc) in
        ap (λ (y : ℕ). get_or c.boxes y 0) (ap (λ (o : Option ℕ). box_of z (or_else o 0) v.box.next) t.1 ∙ ap (λ (y : ℕ). box_of z y v.box.next) (sym t_is)) ∙ seen.2
    word_told take_turn a = turn_small
    word_told (give_turn failed) a =
        let h = l.turn.turn.holds id (holder_of v) (at_map holder_of c.views id v at) a.may.can.0 in h.2 ∙ ap (λ (o : Option ℕ). or_else o 0 + 1) (sym h.1)
    word_told (see_full t j) a = λ m e. ((l.turn.each id v at).seen.full_with a.may.can (box_of z t j) m e).0
    word_told (empty_box t j) a = (a.fits, (λ m e. ((l.turn.each id v at).seen.full_with a.may.can (box_of z t j) m e).0))
    word_told (raise_durable x) a =
        let raised = (l.turn.each id v at).raised in let bound = l.locks.bounded in let from = l.locks.numbers.from in
        (raised, a.fits.0, (let b = a.fits.1 in omega arith))
    word_told (raise_reproduced x) a = (l.turn.durable.from, a.fits.0)
    word_told (entry p) a = entry_told p a.may.named
    word_told (pin p) a = entry_told p a.may.named
    word_told (unpin p) a =
        let can = a.may.can.0 in let is = l.pages.pins.pinned id p can.0 (pins_of v) (at_map pins_of c.views id v at) can.1 in
        let word : get_or c.entries p 0 ≡ entry_with can.0 (total (pins_at p) (map pins_of c.views)) = l.pages.pins.counted p a.may.named ∙ ap (λ (o : Option ℕ). entry_word o (total (pins_at p) (map pins_of c.views))) is in
        (entry_told p a.may.named, (let q = entry_positive can.0 (total (pins_at p) (map pins_of c.views)) in omega arith))
    word_told (evict p) a = entry_told p a.may.named
    word_told (show p f) a =
        let pages = (l.pages.each id v at).turn a.may.can.0 in let i : ℕ = p * PAGE in let of_page : page_of i ≡ p = omega arith in
        let none_there = (pages.filled_absent i f (a.may.can.1 i of_page)).0 in
        l.pages.pins.counted p a.may.named.0 ∙ ap (λ (o : Option ℕ). entry_word o (total (pins_at p) (map pins_of c.views))) (ap g.frame (sym of_page) ∙ none_there)
    word_told e a = tt

  -- ---- what a view alone tells
  module _ (c : State) (k : Kept z c) (id : ℕ) (v : View) (at : get_elem? c.views id ≡ some v) where
    pub keeps_full : KeepsFull z c v
    keeps_full has b n e = (k.layers.turn.each id v at).seen.full_with has b n e

    pub leaves_draws : LeavesDraws z c v
    leaves_draws x all = let one = counts_one draws_of c.views id v at in let bound = k.layers.locks.bounded in omega arith

    pub has_drawn : HasDrawn z c v
    has_drawn n e = (clock_told c k id v at).drawn n e

    pub has_raised : HasRaised z c v
    has_raised = let d = k.layers.turn.durable in record { durable = ((k.layers.turn.each id v at).raised, d.durable_from, d.drawn); reproduced = (d.from, d.ordered) }

  pub tells : (e : Event) (c : State) (id : ℕ) (v : View) → Kept z c → IsAllowed z c id e v → IsTold z e v (found c (name z e v))
  tells e c id v k a =
      let w : View = view_after z e v (found c (name z e v)) in record {
        before = kept_seated c k id v a.is_there;
        word = word_told c k id v a.is_there e a;
        after = kept_seated (after z c id v e) (event_keeps z e c id v k a) id w (set_here c.views id w (there c.views id v a.is_there));
      }

-- ---- an addition and a subtraction on a word of 64 bits, where they don't wrap
pub added : (n k : ℕ) → n + k < 2 ^ 64 → (n + k) % 2 ^ 64 ≡ n + k
added n k lt = mod-eq_of_lt lt

pub subtracted : (n k : ℕ) → 0 < k → k ≤ n → n < 2 ^ 64 → (n + (2 ^ 64 - k)) % 2 ^ 64 ≡ n - k
subtracted n k pos le lt =
    let e : n + (2 ^ 64 - k) ≡ (n - k) + 2 ^ 64 = omega arith in
    rw e (omega arith)
