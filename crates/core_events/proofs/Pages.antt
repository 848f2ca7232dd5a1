-- What each part of the layer of pages owes where a view or a word changes.
use Rattle.std.proofs.Common.{◌≡◌, ◌≢◌, ℕ, ◌+◌, ◌-◌, ◌*◌, ◌<◌, ◌≤◌, ◌⊎◌, List, [], ◌∷◌, length, get_or, set, map, refl, sym, ap, ◌∙◌, subst, inl, inr, ⊎_elim, arith, length-set, get_or-set_same, get_or-set_other}
use Rattle.std.specs.Prelude.{Option, Some, None}
use Rattle.std.proofs.lemmas.List.{map-set}
use mathlib.Core.Option.{some, some-injective}
use mathlib.Core.Logic.{dite}
use native.Mathlib.Decide.{ℕ_discrete}
use lib.ListN.{get_elem?}
use Rattle.dude_base.specs.declared.limits.TheConstants.{PAGE}
use Rattle.dude_base.specs.Writes.{written}
use Rattle.core_events.specs.Setups.{Setup, page_of, entry_with, ENTRY}
use Rattle.core_events.specs.Keyed.{find, without, change, total, one_if}
use Rattle.core_events.specs.Views.{View}
use Rattle.core_events.specs.Words.{State}
use Rattle.core_events.specs.Entries.{History}
use Rattle.core_events.specs.Events.{unfilled, refilled}
use Rattle.core_events.specs.Conditions.{Keeps, IsFilled}
use Rattle.core_events.specs.Ghosts.{Ghost}
use Rattle.core_events.specs.KeptThreads.{part_of, held_of}
use Rattle.core_events.specs.KeptPages.{Pinner, pins_of, pinner_of, pins_at, entry_word, PinsCounted, TouchesMade, TurnPages, PagesKept}
use Rattle.core_events.specs.Layers.{ThreadsIn}
use Rattle.core_events.proofs.Lists.{at_set, set_here, set_else, there, at_map, total_set, find_cons, find_head, find_tail, find_gone, find_without, at_change}
use Rattle.core_events.proofs.Filled.{unfilled_in, refilled_in, entry_positive, one_at, zero_at, counts_one, counts_none, counts_below}

module _ (z : Setup) where
  -- no more pins than threads
  pub pins_below : (g : Ghost) (c : State) → ThreadsIn z g c → PagesKept z g c → (p : ℕ) → total (pins_at p) (map pins_of c.views) ≤ z.threads
  pins_below g c s k p =
      let below = counts_below (pins_at p) held_of pins_of part_of c.views
      (λ j v at. let o = find v.paging.pins p in holds v o refl (λ f e. ((k.each j v at).pins.pinner p f e).1)) in
      let a = s.held in let b = s.counted in omega arith
    where
      holds : (v : View) (o : Option ℕ) → find v.paging.pins p ≡ o → ((f : ℕ) → find v.paging.pins p ≡ Some f → (t : ℕ) × (v.part.thread ≡ Some t)) → pins_at p v.paging.pins ≤ held_of v.part
      holds v None e h = let y = zero_at (find v.paging.pins p) e in omega arith
      holds v (Some f) e h = let y = one_at (find v.paging.pins p) f e in let t = h f e in let x = one_at v.part.thread t.0 t.1 in omega arith

  -- fewer than an entry has room for
  pub few_pins : (g : Ghost) (c : State) → ThreadsIn z g c → PagesKept z g c → (p : ℕ) → total (pins_at p) (map pins_of c.views) < ENTRY
  few_pins g c s k p = let a = pins_below g c s k p in let f = k.few in omega arith

  module _ (frame : ℕ → Option ℕ) (entries : List ℕ) (views : List View) (k : PinsCounted z frame entries (map pins_of views)) (id : ℕ) (v : View) (at : get_elem? views id ≡ some v) where
    sum_of : (p : ℕ) (w : View) → total (pins_at p) (map pins_of (set views id w)) + pins_at p v.paging.pins ≡ total (pins_at p) (map pins_of views) + pins_at p w.paging.pins
    sum_of p w = subst (λ (l : List (List (ℕ × ℕ))). total (pins_at p) l + pins_at p v.paging.pins ≡ total (pins_at p) (map pins_of views) + pins_at p w.paging.pins) (sym (map-set pins_of views id w))
        (total_set (pins_at p) (map pins_of views) id (pins_of v) (pins_of w) (at_map pins_of views id v at))

    new_pins : (w : View) (j : ℕ) (ps : List (ℕ × ℕ)) → get_elem? (map pins_of (set views id w)) j ≡ some ps → ((j ≡ id) × (pins_of w ≡ ps)) ⊎ ((j ≢ id) × (get_elem? (map pins_of views) j ≡ some ps))
    new_pins w j ps e = at_set (map pins_of views) id j (pins_of w) ps (rw (← map-set pins_of views id w) e)

    -- the view pins the page p, whose entry showed the frame f
    pub pin_counted : (w : View) (p f : ℕ) → frame p ≡ Some f → find v.paging.pins p ≡ None → w.paging.pins ≡ (p, f) ∷ v.paging.pins → p < z.pages → PinsCounted z frame (set entries p (get_or entries p 0 + 1)) (map pins_of (set views id w))
    pin_counted w p f is not_yet pins inside =
        let mine : pins_at p w.paging.pins ≡ 1 = one_at (find w.paging.pins p) f (rw pins (find_head v.paging.pins p f)) in
        let mine_before = zero_at (find v.paging.pins p) not_yet in
        record {
          sized = length-set entries p (get_or entries p 0 + 1) ∙ k.sized;
          counted = λ r lt. dite (ℕ_discrete r p)
              (λ hit. let size = k.sized in let old = k.counted p inside in let sum = sum_of p w in
              rw hit (get_or-set_same entries p (get_or entries p 0 + 1) 0 (omega arith) ∙ (let a : get_or entries p 0 ≡ entry_with f (total (pins_at p) (map pins_of views)) = old ∙ ap (λ (o : Option ℕ). entry_word o (total (pins_at p) (map pins_of views))) is in rw is (omega arith))))
              (λ miss. let sum = sum_of r w in
              let same : pins_at r w.paging.pins ≡ pins_at r v.paging.pins = ap one_if (rw pins (find_tail v.paging.pins p f r (λ e. miss (sym e)))) in
              let total_same : total (pins_at r) (map pins_of (set views id w)) ≡ total (pins_at r) (map pins_of views) = omega arith in
              get_or-set_other entries p r (get_or entries p 0 + 1) 0 miss ∙ (k.counted r lt ∙ ap (entry_word (frame r)) (sym total_same)));
          pinned = λ j r h ps e found. ⊎_elim
              (λ t. ⊎_elim
              (λ u. rw (← u.0, ← u.1) is)
              (λ u. k.pinned id r h (pins_of v) (at_map pins_of views id v at) u.1)
              (find_cons v.paging.pins p f r h (ap (λ (l : List (ℕ × ℕ)). find l r) (sym pins ∙ t.1) ∙ found)))
              (λ t. k.pinned j r h ps t.1 found)
              (new_pins w j ps e);
        }

    -- the view pins the page p no longer
    pub unpin_counted : (w : View) (p f : ℕ) → find v.paging.pins p ≡ Some f → w.paging.pins ≡ without v.paging.pins p → p < z.pages → PinsCounted z frame (set entries p (get_or entries p 0 - 1)) (map pins_of (set views id w))
    unpin_counted w p f held pins inside =
        let n : ℕ = get_or entries p 0 in
        let is : frame p ≡ Some f = k.pinned id p f (pins_of v) (at_map pins_of views id v at) held in
        let mine = zero_at (find w.paging.pins p) (rw pins (find_gone v.paging.pins p)) in
        let mine_before = one_at (find v.paging.pins p) f held in
        record {
          sized = length-set entries p (n - 1) ∙ k.sized;
          counted = λ r lt. dite (ℕ_discrete r p)
              (λ hit. let size = k.sized in let sum = sum_of p w in
              rw hit (get_or-set_same entries p (n - 1) 0 (omega arith) ∙ (let a : n ≡ entry_with f (total (pins_at p) (map pins_of views)) = k.counted p inside ∙ ap (λ (o : Option ℕ). entry_word o (total (pins_at p) (map pins_of views))) is in rw is (omega arith))))
              (λ miss. let sum = sum_of r w in
              let same : pins_at r w.paging.pins ≡ pins_at r v.paging.pins = ap one_if (rw pins (find_without v.paging.pins p r (λ e. miss (sym e)))) in
              let total_same : total (pins_at r) (map pins_of (set views id w)) ≡ total (pins_at r) (map pins_of views) = omega arith in
              get_or-set_other entries p r (n - 1) 0 miss ∙ (k.counted r lt ∙ ap (entry_word (frame r)) (sym total_same)));
          pinned = λ j r h ps e found. ⊎_elim
              (λ t. let g : find (without v.paging.pins p) r ≡ Some h = ap (λ (l : List (ℕ × ℕ)). find l r) (sym pins ∙ t.1) ∙ found in
              let other : p ≢ r = λ e2. let y : find (without v.paging.pins p) p ≡ Some h = subst (λ (a : ℕ). find (without v.paging.pins p) a ≡ Some h) (sym e2) g in let o : None ≡ Some h = sym (find_gone v.paging.pins p) ∙ y in cc in
              k.pinned id r h (pins_of v) (at_map pins_of views id v at) (sym (find_without v.paging.pins p r other) ∙ g))
              (λ t. k.pinned j r h ps t.1 found)
              (new_pins w j ps e);
        }

  -- the entry of the page p, which no view pins, becomes that of the frame o
  pub entry_counted : (frame : ℕ → Option ℕ) (entries : List ℕ) (pins : List (List (ℕ × ℕ))) → PinsCounted z frame entries pins → (p : ℕ) (o : Option ℕ) → p < z.pages → ((j : ℕ) (ps : List (ℕ × ℕ)) → get_elem? pins j ≡ some ps → find ps p ≡ None)
      → PinsCounted z (change frame p o) (set entries p (entry_word o 0)) pins
  entry_counted frame entries pins k p o inside no_pin =
      let at = at_change frame p o in
      let none_there : total (pins_at p) pins ≡ 0 = counts_none (pins_at p) pins (λ j ps e. zero_at (find ps p) (no_pin j ps e)) in
      let size = k.sized in
      record {
        sized = length-set entries p (entry_word o 0) ∙ k.sized;
        counted = λ r lt. ⊎_elim
            (λ t. rw t.0 (get_or-set_same entries p (entry_word o 0) 0 (omega arith) ∙ (ap (entry_word o) (sym none_there) ∙ ap (λ (y : Option ℕ). entry_word y (total (pins_at p) pins)) (sym (⊎_elim (λ u. u.1) (λ u. absurd (u.0 refl)) (at p))))))
            (λ t. get_or-set_other entries p r (entry_word o 0) 0 t.0 ∙ (k.counted r lt ∙ ap (λ (y : Option ℕ). entry_word y (total (pins_at r) pins)) (sym t.1)))
            (at r);
        pinned = λ j r h ps e found. ⊎_elim
            (λ t. absurd (let f : find ps p ≡ Some h = ap (find ps) (sym t.0) ∙ found in let g : None ≡ Some h = sym (no_pin j ps e) ∙ f in cc))
            (λ t. t.1 ∙ k.pinned j r h ps e found)
            (at r);
      }

  -- a page that no entry names has no pin
  pub absent_unpinned : (frame : ℕ → Option ℕ) (entries : List ℕ) (pins : List (List (ℕ × ℕ))) → PinsCounted z frame entries pins → (p : ℕ) → frame p ≡ None → (j : ℕ) (ps : List (ℕ × ℕ)) → get_elem? pins j ≡ some ps → find ps p ≡ None
  absent_unpinned frame entries pins k p none_there j ps e = by_case (find ps p) refl
    where
      by_case : (o : Option ℕ) → find ps p ≡ o → find ps p ≡ None
      by_case None is = is
      by_case (Some f) is = absurd (let g : None ≡ Some f = sym none_there ∙ k.pinned j p f ps e is in cc)

  -- nor has one whose sum is 0
  pub uncounted_unpinned : (pins : List (List (ℕ × ℕ))) (p : ℕ) → total (pins_at p) pins ≡ 0 → (j : ℕ) (ps : List (ℕ × ℕ)) → get_elem? pins j ≡ some ps → find ps p ≡ None
  uncounted_unpinned pins p zero_sum j ps e = by_case (find ps p) refl
    where
      by_case : (o : Option ℕ) → find ps p ≡ o → find ps p ≡ None
      by_case None is = is
      by_case (Some f) is = absurd (let a = counts_one (pins_at p) pins j ps e in let b = one_at (find ps p) f is in omega arith)

  -- ---- touches: the pinners after the view became w
  pub touched_still : (hist hist2 : History) (touches touches2 : List ℕ) (views : List View) → TouchesMade z hist touches (map pinner_of views) → (id : ℕ) (v w : View) → get_elem? views id ≡ some v
      → length touches2 ≡ length touches → ((p : ℕ) → get_or touches p 0 ≤ get_or touches2 p 0)
      → ((n i x : ℕ) → written (hist2 n) i ≡ Some x → (written (hist n) i ≡ Some x) ⊎ ((w.tx.hand.number ≡ n) × Keeps w.paging.pins (page_of i)))
      → ((n i x : ℕ) → written (hist n) i ≡ Some x → v.tx.hand.number ≡ n → Keeps v.paging.pins (page_of i) → (n ≤ get_or touches2 (page_of i) 0) ⊎ ((w.tx.hand.number ≡ n) × Keeps w.paging.pins (page_of i)))
      → TouchesMade z hist2 touches2 (map pinner_of (set views id w))
  touched_still hist hist2 touches touches2 views k id v w at size up wrote mine = record {
    sized = size ∙ k.sized;
    touched = λ n i x f.
        let now : get_elem? (map pinner_of (set views id w)) id ≡ some (pinner_of w) = at_map pinner_of (set views id w) id w (set_here views id w (there views id v at)) in
        ⊎_elim
        (λ old. ⊎_elim
        (λ t. inl (let u = up (page_of i) in omega arith))
        (λ t. dite (ℕ_discrete t.0 id)
        (λ hit. let same : t.1 ≡ pinner_of v = some-injective t.1 (pinner_of v) (sym t.2 ∙ (ap (get_elem? (map pinner_of views)) hit ∙ at_map pinner_of views id v at)) in
        ⊎_elim (λ y. inl y) (λ y. inr (id, pinner_of w, now, y.0, y.1))
        (mine n i x old (ap (λ (r : Pinner). r.number) (sym same) ∙ t.3) (subst (λ (r : Pinner). Keeps r.pins (page_of i)) same t.4)))
        (λ other. inr (t.0, t.1, rw (map-set pinner_of views id w) (set_else (map pinner_of views) id t.0 (pinner_of w) other ∙ t.2), t.3, t.4)))
        (k.touched n i x old))
        (λ new. inr (id, pinner_of w, now, new.0, new.1))
        (wrote n i x f);
  }

  -- ---- what the view with the turn keeps of pages, after its own steps
  module _ (frame : ℕ → Option ℕ) (touches : List ℕ) (es ts fs : List (ℕ × ℕ)) (m : TurnPages z frame touches es ts fs) where
    -- it saw an entry
    pub saw_entry : (p n : ℕ) → (n ≡ 0 → frame p ≡ None) → TurnPages z frame touches ((p, n) ∷ es) ts fs
    saw_entry p n none_if = record {
      absent = λ r e. ⊎_elim (λ t. rw (← t.0) (none_if t.1)) (λ t. m.absent r t.1) (find_cons es p n r 0 e);
      touches_with = m.touches_with;
      filled_absent = m.filled_absent;
      filled_one = m.filled_one;
    }

    pub saw_touch : (p : ℕ) → frame p ≡ None → TurnPages z frame touches es ((p, get_or touches p 0) ∷ ts) fs
    saw_touch p none_there = record {
      absent = m.absent;
      touches_with = λ r y e. ⊎_elim (λ t. (rw (← t.0) none_there, ap (λ (a : ℕ). get_or touches a 0) (sym t.0) ∙ t.1)) (λ t. m.touches_with r y t.1) (find_cons ts p (get_or touches p 0) r y e);
      filled_absent = m.filled_absent;
      filled_one = m.filled_one;
    }

    -- a word of an absent page was filled into a frame that no page has
    pub filled_more : (p f i : ℕ) → page_of i ≡ p → frame p ≡ None → ((q : ℕ) → frame q ≢ Some f) → i < z.pages * PAGE → f < z.frames → TurnPages z frame touches es ts ((i, f) ∷ refilled p f fs)
    filled_more p f i of_page none_there no_page inside small = record {
      absent = m.absent;
      touches_with = m.touches_with;
      filled_absent = λ j h e. ⊎_elim
          (λ t. (rw (← t.0, of_page) none_there, (λ q. rw (← t.1) (no_page q)), rw (← t.0) inside, rw (← t.1) small))
          (λ t. m.filled_absent j h (refilled_in p f fs j h t).0) e;
      filled_one = λ j l h e e2. ⊎_elim
          (λ t. ⊎_elim
          (λ u. ap page_of (sym t.0 ∙ u.0))
          (λ u. ⊎_elim (λ n. absurd (n (sym t.1))) (λ n. ap page_of (sym t.0) ∙ (of_page ∙ sym n)) (refilled_in p f fs l h u).1) e2)
          (λ t. ⊎_elim
          (λ u. ⊎_elim (λ n. absurd (n (sym u.1))) (λ n. n ∙ (sym of_page ∙ ap page_of u.0)) (refilled_in p f fs j h t).1)
          (λ u. m.filled_one j l h (refilled_in p f fs j h t).0 (refilled_in p f fs l h u).0) e2) e;
    }

    -- the page p left its frame
    pub page_left : (p : ℕ) → TurnPages z (change frame p None) touches ((p, 0) ∷ es) (without ts p) (unfilled p fs)
    page_left p =
        let at = at_change frame p None in
        let gone : (r : ℕ) → frame r ≡ None → change frame p None r ≡ None = λ r e. ⊎_elim (λ t. t.1) (λ t. t.1 ∙ e) (at r) in
        record {
          absent = λ r e. ⊎_elim (λ t. ⊎_elim (λ u. u.1) (λ u. absurd (u.0 (sym t.0))) (at r)) (λ t. gone r (m.absent r t.1)) (find_cons es p 0 r 0 e);
          touches_with = λ r y e. dite (ℕ_discrete p r)
              (λ hit. let g : find (without ts p) p ≡ Some y = subst (λ (a : ℕ). find (without ts p) a ≡ Some y) (sym hit) e in absurd (let o : None ≡ Some y = sym (find_gone ts p) ∙ g in cc))
              (λ miss. let t = m.touches_with r y (sym (find_without ts p r miss) ∙ e) in (gone r t.0, t.1));
          filled_absent = λ j h e. let t = m.filled_absent j h (unfilled_in p fs j h e).0 in
              (gone (page_of j) t.0, (λ q is. ⊎_elim (λ u. let o : None ≡ Some h = sym u.1 ∙ is in cc) (λ u. t.1 q (sym u.1 ∙ is)) (at q)), t.2, t.3);
          filled_one = λ j l h e e2. m.filled_one j l h (unfilled_in p fs j h e).0 (unfilled_in p fs l h e2).0;
        }

    -- the page p, filled into the frame f, is shown
    pub page_shown : (p f i : ℕ) → page_of i ≡ p → IsFilled fs i f → TurnPages z (change frame p (Some f)) touches ((p, entry_with f 0) ∷ es) (without ts p) (unfilled p fs)
    page_shown p f i of_page filled =
        let at = at_change frame p (Some f) in
        let was : frame p ≡ None = subst (λ (y : ℕ). frame y ≡ None) of_page (m.filled_absent i f filled).0 in
        let gone : (r : ℕ) → r ≢ p → frame r ≡ None → change frame p (Some f) r ≡ None = λ r o e. ⊎_elim (λ t. absurd (o t.0)) (λ t. t.1 ∙ e) (at r) in
        record {
          absent = λ r e. ⊎_elim (λ t. absurd (let y = entry_positive f 0 in let x = t.1 in omega arith)) (λ t. gone r (λ e2. t.0 (sym e2)) (m.absent r t.1)) (find_cons es p (entry_with f 0) r 0 e);
          touches_with = λ r y e. dite (ℕ_discrete p r)
              (λ hit. let g : find (without ts p) p ≡ Some y = subst (λ (a : ℕ). find (without ts p) a ≡ Some y) (sym hit) e in absurd (let o : None ≡ Some y = sym (find_gone ts p) ∙ g in cc))
              (λ miss. let t = m.touches_with r y (sym (find_without ts p r miss) ∙ e) in (gone r (λ e2. miss (sym e2)) t.0, t.1));
          filled_absent = λ j h e. let u = unfilled_in p fs j h e in let t = m.filled_absent j h u.0 in
              (gone (page_of j) u.1 t.0, (λ q is. ⊎_elim (λ y. let same : f ≡ h = (let o : Some f ≡ Some h = sym y.1 ∙ is in cc) in u.1 (m.filled_one j i h u.0 (rw (← same) filled) ∙ of_page)) (λ y. t.1 q (sym y.1 ∙ is)) (at q)), t.2, t.3);
          filled_one = λ j l h e e2. m.filled_one j l h (unfilled_in p fs j h e).0 (unfilled_in p fs l h e2).0;
        }

    -- a touch of a page that is in a frame changes
    pub touch_raised : (p x : ℕ) → (f : ℕ) → frame p ≡ Some f → TurnPages z frame (set touches p x) es ts fs
    touch_raised p x f is = record {
      absent = m.absent;
      touches_with = λ r y e. let t = m.touches_with r y e in (t.0, get_or-set_other touches p r x 0 (λ e2. let o : None ≡ Some f = sym t.0 ∙ (ap frame e2 ∙ is) in cc) ∙ t.1);
      filled_absent = m.filled_absent;
      filled_one = m.filled_one;
    }

  -- in a turn that begins nothing is kept
  pub nothing_kept : (frame : ℕ → Option ℕ) (touches : List ℕ) → TurnPages z frame touches [] [] []
  nothing_kept frame touches = record {
    absent = λ r e. absurd (let f : None ≡ Some 0 = e in cc);
    touches_with = λ r y e. absurd (let f : None ≡ Some y = e in cc);
    filled_absent = λ j h e. absurd e;
    filled_one = λ j l h e. absurd e;
  }
