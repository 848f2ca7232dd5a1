-- Writes are stored one by one, and locks given back, the oldest first.
use Rattle.std.proofs.Common.{◌≡◌, ℕ, ◌+◌, ◌*◌, ◌<◌, true, List, ◌∷◌, length, get_or, drop, refl, sym, ap, ◌∙◌, subst, inl, inr, ⊎_elim, eq-eqb, ne_eqb, arith}
use Rattle.std.specs.Prelude.{Some, is_some}
use Rattle.std.specs.List.{slice_get}
use Rattle.std.proofs.lemmas.Option.{get_or_from_slice_get}
use mathlib.Core.Logic.{dite}
use native.Mathlib.Decide.{ℕ_discrete}
use Rattle.dude_base.specs.declared.limits.TheConstants.{PAGE}
use Rattle.dude_base.specs.declared.write.Write.{Write}
use Rattle.dude_base.specs.Writes.{written, IsWriteList, HasDistinctPlaces}
use Rattle.dude_base.proofs.WriteLists.{written_at}
use Rattle.core_events.specs.Setups.{Setup, lock_of, page_of}
use Rattle.core_events.specs.Keyed.{find, has, without}
use Rattle.core_events.specs.Views.{View, Hand}
use Rattle.core_events.specs.Events.{store, release, restore, touch, unpin, view_after}
use Rattle.core_events.specs.Conditions.{May, IsUndecided}
use Rattle.core_events.specs.Telling.{IsSeated}
use Rattle.stm_transactions.specs.Pages.{IsWrittenPage}
use Rattle.stm_transactions.specs.Settles.{IsLeaving, IsReleasing, IsStoring, IsTouching, IsUndone}
use Rattle.stm_transactions.specs.Pairs.{pairs_of}
use Rattle.stm_transactions.specs.Seats.{IsLive}
use Rattle.stm_transactions.proofs.Pins.{still_live}
use Rattle.stm_transactions.proofs.Pairs.{found_some, find_pairs, absent_first, distinct_rest, without_last, drop_next, distinct_drop, among}

-- ---- of a list that goes by one after the other, its k-th element
module _ (l : List Write) (list : IsWriteList l) (k : ℕ) (x : Write) (is : slice_get l k ≡ Some x) where
  next : drop k l ≡ x ∷ drop (k + 1) l
  next = drop_next l k x is

  apart : HasDistinctPlaces (x ∷ drop (k + 1) l)
  apart = subst HasDistinctPlaces next (distinct_drop l k list.distinct)

  next_there : find (pairs_of (drop k l)) x.at ≡ Some x.value
  next_there = ap (λ (m : List Write). find (pairs_of m) x.at) next ∙ (find_pairs (x ∷ drop (k + 1) l) apart x.at ∙ rw (eq-eqb x.at x.at refl) refl)

  next_gone : without (pairs_of (drop k l)) x.at ≡ pairs_of (drop (k + 1) l)
  next_gone = ap (λ (m : List Write). without (pairs_of m) x.at) next
      ∙ without_last (pairs_of (drop (k + 1) l)) x.at x.value (find_pairs (drop (k + 1) l) (distinct_rest x (drop (k + 1) l) apart) x.at ∙ absent_first x (drop (k + 1) l) apart)

-- ---- the stores
pub record Stores (k : ℕ) (ws : List Write) (v w : View) : Type 0 where
  pub rest : w ≡ record v { tx = record v.tx { hand = record v.tx.hand { stored = w.tx.hand.stored } } }
  pub done : (j : ℕ) (d : Write) → j < k → has w.tx.hand.stored (get_or ws j d).at ≡ true

module _ (z : Setup) (ws frames : List Write) (v : View) (s : IsStoring z ws frames v) (list : IsWriteList ws) where
  module _ (k : ℕ) (w : View) (t : Stores k ws v w) (x : Write) (is : slice_get ws k ≡ Some x) (lt : k < length ws) where
    at_is : (d : Write) → get_or ws k d ≡ x
    at_is d = get_or_from_slice_get ws k x d is

    pub store_written : written w.tx.hand.writes x.at ≡ Some x.value
    store_written =
        ap (λ (u : View). written u.tx.hand.writes x.at) t.rest ∙ (ap (λ (l : List Write). written l x.at) s.writes_are
        ∙ (written_at ws x.at k x list.distinct lt (ap (λ (y : Write). y.at) (at_is x)) ∙ ap (λ (y : Write). Some y.value) (at_is x)))

    pub store_frame : (f : ℕ) → find (pairs_of frames) (page_of x.at) ≡ Some f → find w.paging.pins (page_of x.at) ≡ Some f
    store_frame f e = ap (λ (u : View). find u.paging.pins (page_of x.at)) t.rest ∙ (ap (λ (l : List (ℕ × ℕ)). find l (page_of x.at)) s.pins_are ∙ e)

    pub has_page : is_some (find (pairs_of frames) (page_of x.at)) ≡ true
    has_page = subst (λ (y : Write). is_some (find (pairs_of frames) (page_of y.at)) ≡ true) (at_is x) (s.paged k x lt)

    pub store_inside : x.at < z.pages * PAGE
    store_inside = subst (λ (y : Write). y.at < z.pages * PAGE) (at_is x) (s.inside k x lt)

    live_on : IsLive w
    live_on = still_live v w (ap (λ (u : View). u.part) t.rest) s.its

    pub store_may : May z (store x.at) w
    store_may =
        let lock = found_some (find v.tx.owned (lock_of z x.at)) (subst (λ (y : Write). is_some (find v.tx.owned (lock_of z y.at)) ≡ true) (at_is x) (s.covered k x lt)) in
        let page = found_some (find (pairs_of frames) (page_of x.at)) has_page in
        record {
          live = live_on.live;
          threaded = live_on.threaded;
          named = store_inside;
          can = (
            ap (λ (u : View). u.tx.hand.decided) t.rest ∙ s.decided,
            (x.value, store_written),
            (lock.0, ap (λ (u : View). find u.tx.owned (lock_of z x.at)) t.rest ∙ lock.1),
            (page.0, store_frame page.0 page.1),
          );
        }

    pub store_more : (y : View) → y ≡ view_after z (store x.at) w 0 → Stores (k + 1) ws v y
    store_more y e = record {
      rest = e ∙ (ap (λ (u : View). record u { tx = record u.tx { hand = record u.tx.hand { stored = x.at ∷ w.tx.hand.stored } } }) t.rest ∙ ap (λ (u : View). record v { tx = record v.tx { hand = record v.tx.hand { stored = u.tx.hand.stored } } }) (sym e));
      done = λ j d b. ap (λ (u : View). has u.tx.hand.stored (get_or ws j d).at) e ∙ dite (ℕ_discrete j k)
          (λ h. rw (h, at_is d, eq-eqb x.at x.at refl) refl)
          (λ o. dite (ℕ_discrete x.at (get_or ws j d).at) (λ h. rw (eq-eqb x.at (get_or ws j d).at h) refl) (λ f. rw (ne_eqb x.at (get_or ws j d).at f) (t.done j d (omega arith))));
    }

-- ---- locks are given back
-- a view that has the locks from the k-th on
module _ (held : List Write) (v : View) (list : IsWriteList held) (k : ℕ) (w : View) (now : w ≡ record v { tx = record v.tx { owned = pairs_of (drop k held) } }) (x : Write) (is : slice_get held k ≡ Some x) where
  pub lock_there : find w.tx.owned x.at ≡ Some x.value
  lock_there = ap (λ (u : View). find u.tx.owned x.at) now ∙ next_there held list k x is

  -- and gave that one back
  lock_gone : record w { tx = record w.tx { owned = without w.tx.owned x.at } } ≡ record v { tx = record v.tx { owned = pairs_of (drop (k + 1) held) } }
  lock_gone = ap (λ (u : View). record u { tx = record u.tx { owned = without u.tx.owned x.at } }) now ∙ ap (λ (l : List (ℕ × ℕ)). record v { tx = record v.tx { owned = l } }) (next_gone held list k x is)

module _ (z : Setup) (number : ℕ) (held : List Write) (v : View) (s : IsReleasing number held v) (list : IsWriteList held) where
  module _ (k : ℕ) (w : View) (now : w ≡ record v { tx = record v.tx { owned = pairs_of (drop k held) } }) (x : Write) (is : slice_get held k ≡ Some x) where
    pub release_may : IsSeated z w → May z (release x.at) w
    release_may seated = record {
      live = (still_live v w (ap (λ (u : View). u.part) now) s.its).live;
      threaded = (still_live v w (ap (λ (u : View). u.part) now) s.its).threaded;
      named = (seated.owned x.at x.value (lock_there held v list k w now x is)).0;
      can = (
        ap (λ (u : View). u.tx.hand.decided) now ∙ s.decided,
        (x.value, lock_there held v list k w now x is),
        (λ i y e lock.
            let m = among v.tx.hand.writes i y (ap (λ (u : View). written u.tx.hand.writes i) (sym now) ∙ e) in
            ap (λ (u : View). has u.tx.hand.stored i) now ∙ subst (λ (j : ℕ). has v.tx.hand.stored j ≡ true) (m.2 x) (s.stored m.0 x m.1)),
      );
    }

    pub release_more : (y : View) → y ≡ view_after z (release x.at) w 0 → y ≡ record v { tx = record v.tx { owned = pairs_of (drop (k + 1) held) } }
    release_more y e = e ∙ lock_gone held v list k w now x is

-- ---- the touches
pub record Touches (k : ℕ) (frames : List Write) (v w : View) : Type 0 where
  pub rest : w ≡ record v { paging = record v.paging { touched = w.paging.touched } }
  pub done : (j : ℕ) (d : Write) → j < k → has w.paging.touched (get_or frames j d).at ≡ true

module _ (z : Setup) (number : ℕ) (frames : List Write) (v : View) (s : IsTouching number frames v) (list : IsWriteList frames) where
  module _ (k : ℕ) (w : View) (t : Touches k frames v w) (x : Write) (is : slice_get frames k ≡ Some x) (lt : k < length frames) where
    frame_is : (d : Write) → get_or frames k d ≡ x
    frame_is d = get_or_from_slice_get frames k x d is

    page : IsWrittenPage v.tx.hand.writes x
    page = subst (λ (y : Write). IsWrittenPage v.tx.hand.writes y) (frame_is x) (s.written_pages k x lt)

    touch_pin : find w.paging.pins x.at ≡ Some x.value
    touch_pin = ap (λ (u : View). find u.paging.pins x.at) t.rest ∙ (ap (λ (l : List (ℕ × ℕ)). find l x.at) s.pins_are ∙ (find_pairs frames list.distinct x.at
        ∙ (written_at frames x.at k x list.distinct lt (ap (λ (y : Write). y.at) (frame_is x)) ∙ ap (λ (y : Write). Some y.value) (frame_is x))))

    pub touch_may : IsSeated z w → May z (touch x.at) w
    touch_may seated = record {
      live = (still_live v w (ap (λ (u : View). u.part) t.rest) s.its).live;
      threaded = (still_live v w (ap (λ (u : View). u.part) t.rest) s.its).threaded;
      named = (seated.pins x.at x.value touch_pin).0;
      can = (
        ap (λ (u : View). u.tx.hand.decided) t.rest ∙ s.decided,
        (page.0, (page.1, ap (λ (u : View). written u.tx.hand.writes page.0) t.rest ∙ page.2), page.3),
        (x.value, touch_pin),
      );
    }

    pub touch_more : (y : View) → y ≡ view_after z (touch x.at) w 0 → Touches (k + 1) frames v y
    touch_more y e = record {
      rest = e ∙ (ap (λ (u : View). record u { paging = record u.paging { touched = x.at ∷ w.paging.touched } }) t.rest ∙ ap (λ (u : View). record v { paging = record v.paging { touched = u.paging.touched } }) (sym e));
      done = λ j d b. ap (λ (u : View). has u.paging.touched (get_or frames j d).at) e ∙ dite (ℕ_discrete j k)
          (λ h. rw (h, frame_is d, eq-eqb x.at x.at refl) refl)
          (λ o. dite (ℕ_discrete x.at (get_or frames j d).at) (λ h. rw (eq-eqb x.at (get_or frames j d).at h) refl) (λ f. rw (ne_eqb x.at (get_or frames j d).at f) (t.done j d (omega arith))));
    }

-- ---- pins are taken back
module _ (z : Setup) (frames : List Write) (v : View) (s : IsLeaving frames v) (list : IsWriteList frames) where
  module _ (k : ℕ) (w : View) (now : w ≡ record v { paging = record v.paging { pins = pairs_of (drop k frames) } }) (x : Write) (is : slice_get frames k ≡ Some x) (lt : k < length frames) where
    pin_of : find w.paging.pins x.at ≡ Some x.value
    pin_of = ap (λ (u : View). find u.paging.pins x.at) now ∙ next_there frames list k x is

    pub unpin_may : IsSeated z w → May z (unpin x.at) w
    unpin_may seated = record {
      live = (still_live v w (ap (λ (u : View). u.part) now) s.its).live;
      threaded = (still_live v w (ap (λ (u : View). u.part) now) s.its).threaded;
      named = (seated.pins x.at x.value pin_of).0;
      can = (
        (x.value, pin_of),
        (λ u. s.not_undecided (subst (λ (h : Hand). IsUndecided h) (ap (λ (y : View). y.tx.hand) now) u)),
        record {
          each = λ i y d e p.
              let decided : v.tx.hand.decided ≡ true = ap (λ (u : View). u.tx.hand.decided) (sym now) ∙ d in
              let m = among v.tx.hand.writes i y (ap (λ (u : View). written u.tx.hand.writes i) (sym now) ∙ e) in (
                ap (λ (u : View). has u.tx.hand.stored i) now ∙ subst (λ (j : ℕ). has v.tx.hand.stored j ≡ true) (m.2 x) (s.stored decided m.0 x m.1),
                ap (λ (u : View). has u.paging.touched x.at) now ∙ subst (λ (f : Write). has v.paging.touched f.at ≡ true) (get_or_from_slice_get frames k x x is) (s.touched decided k x lt),
              );
        },
      );
    }

    pub unpin_more : (n : ℕ) (y : View) → y ≡ view_after z (unpin x.at) w n → y ≡ record v { paging = record v.paging { pins = pairs_of (drop (k + 1) frames) } }
    unpin_more n y e =
        e ∙ (ap (λ (u : View). record u { paging = record u.paging { pins = without u.paging.pins x.at } }) now ∙ ap (λ (l : List (ℕ × ℕ)). record v { paging = record v.paging { pins = l } }) (next_gone frames list k x is))

-- ---- locks get their old words
module _ (z : Setup) (held : List Write) (v : View) (s : IsUndone held v) (list : IsWriteList held) where
  module _ (k : ℕ) (w : View) (now : w ≡ record v { tx = record v.tx { owned = pairs_of (drop k held) } }) (x : Write) (is : slice_get held k ≡ Some x) where
    pub restore_may : IsSeated z w → May z (restore x.at) w
    restore_may seated =
        let there = lock_there held v list k w now x is in let its = still_live v w (ap (λ (u : View). u.part) now) s.its in
        let can = ⊎_elim (λ h. inl (ap (λ (u : View). u.tx.hand.void) now ∙ h)) (λ n. inr (ap (λ (u : View). u.tx.hand.number) now ∙ n)) s.may in
        record { live = its.live; threaded = its.threaded; named = (seated.owned x.at x.value there).0; can = ((x.value, there), can) }

    pub restore_more : (y : View) → y ≡ view_after z (restore x.at) w 0 → y ≡ record v { tx = record v.tx { owned = pairs_of (drop (k + 1) held) } }
    restore_more y e = e ∙ lock_gone held v list k w now x is
