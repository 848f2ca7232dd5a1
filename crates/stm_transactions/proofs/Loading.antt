-- A word is read under a look that was good, and the lock looked at again.
use Rattle.std.proofs.Common.{◌≡◌, ◌≢◌, ℕ, ◌*◌, ◌<◌, ◌==◌, Bool, true, false, List, [], ◌∷◌, ◌++◌, refl, sym, ap, ◌∙◌, subst, inl, inr, eq-eqb, ne_eqb, arith}
use Rattle.std.specs.Prelude.{Some, None, if◌then◌else◌}
use Rattle.dude_base.specs.declared.write.Write.{Write}
use Rattle.dude_base.specs.declared.limits.TheConstants.{PAGE}
use Rattle.core_events.specs.Setups.{Setup, lock_of, page_of}
use Rattle.core_events.specs.Keyed.{find}
use Rattle.core_events.specs.Views.{View, Transaction, Paging}
use Rattle.core_events.specs.Events.{load, check, own_word, looked_word, view_after}
use Rattle.core_events.specs.Conditions.{May, Keeps}
use Rattle.core_events.specs.Telling.{IsSeated, LockTold}
use Rattle.core_events.proofs.Lists.{find_head}
use Rattle.stm_transactions.specs.Looks.{AreUpTo, HasGoodLook, HasNoLook, InConflict, IsReading, Within}
use Rattle.stm_transactions.specs.Pins.{IsPinning, Paged}
use Rattle.stm_transactions.specs.Reads.{AfterRead, Like}
use Rattle.stm_transactions.specs.Running.{IsRunning}
use Rattle.stm_transactions.proofs.Extending.{within_on}
use Rattle.stm_transactions.specs.Seats.{HasRisen}

-- what follows from a running transaction
module _ (z : Setup) (thread snapshot : ℕ) (reads : List (ℕ × ℕ)) (writes : List Write) (held pins : List (ℕ × ℕ)) (v : View) (r : IsRunning z thread snapshot reads writes held pins v) where
  pub running_pinning : IsPinning pins v
  running_pinning = record { its = record { live = r.of.live; threaded = (thread, r.of.its) }; is_open = r.steady.undrawn.is_open; no_number = r.steady.undrawn.no_number; no_turn = r.no_turn; pins_are = r.pins_are }

  pub running_reading : IsReading thread snapshot reads v
  running_reading = record { of = r.of; steady = r.steady; snap = r.snap; reads_are = r.reads_are }

  pub running_after : (rs : List (ℕ × ℕ)) (s2 : ℕ) (pins2 : List (ℕ × ℕ)) (w : View) → AfterRead rs s2 pins2 v w → IsRunning z thread s2 rs writes held pins2 w
  running_after rs s2 pins2 w a = record {
    of = record { live = ap (λ (x : View). x.part.is_spent) a.rest ∙ r.of.live; its = ap (λ (x : View). x.part.thread) a.rest ∙ r.of.its };
    steady = record { undrawn = record { is_open = ap (λ (x : Transaction). x.is_open) a.like ∙ r.steady.undrawn.is_open; no_number = ap (λ (x : Transaction). x.hand.number) a.like ∙ r.steady.undrawn.no_number }; no_extension = a.ended };
    snap = a.snap;
    reads_are = a.reads_are;
    owned_are = ap (λ (x : Transaction). x.owned) a.like ∙ r.owned_are;
    pins_are = a.pins_are;
    no_turn = ap (λ (x : View). x.turn.has_it) a.rest ∙ r.no_turn;
    box = ap (λ (x : View). x.box.is_empty) a.rest ∙ r.box;
    upto = (let same : w.entries ≡ v.entries = ap (λ (x : View). x.entries) a.rest in let up : AreUpTo v.tx.snapshot v = rw r.snap r.upto in rw same (a.upto up));
    list = r.list;
    inside = r.inside;
    covered = r.covered;
    few = r.few;
  }

-- ---- the parts of a read
like_from : (x y r : Transaction) → y ≡ r → Like x r → Like x y
like_from x y r e l = e ∙ (l ∙ ap (λ (t : Transaction). record x { snapshot = t.snapshot; extension = t.extension; reads = t.reads; checked = t.checked; look = t.look; loaded = t.loaded }) (sym e))

like_on : (x y w : Transaction) → Like x y → Like y w → Like x w
like_on x y w a b = b ∙ ap (λ (t : Transaction). record t { snapshot = w.snapshot; extension = w.extension; reads = w.reads; checked = w.checked; look = w.look; loaded = w.loaded }) a

rest_of : (v0 v1 v2 : View) → v1 ≡ record v0 { paging = v1.paging; found = v1.found; count = v1.count } → Within v1 v2 → v2 ≡ record v0 { tx = v2.tx; paging = v2.paging; found = v2.found; count = v2.count }
rest_of v0 v1 v2 p w =
    w ∙ (ap (λ (u : View). record u { tx = v2.tx; found = v2.found; count = v2.count }) p
    ∙ ap (λ (g : Paging). record v0 { tx = v2.tx; paging = g; found = v2.found; count = v2.count }) (sym (ap (λ (u : View). u.paging) w)))

-- the page couldn't be pinned
pub unreached : (thread snapshot : ℕ) (reads : List (ℕ × ℕ)) (v w : View) → IsReading thread snapshot reads v → Paged [] v w → AfterRead reads snapshot [] v w
unreached thread snapshot reads v w x p = record {
  rest = p.rest ∙ ap (λ (t : Transaction). record v { tx = t; paging = w.paging; found = w.found; count = w.count }) (sym (ap (λ (u : View). u.tx) p.rest));
  like = like_from v.tx w.tx v.tx tx_is refl;
  snap = ap (λ (t : Transaction). t.snapshot) tx_is ∙ x.snap;
  ended = ap (λ (t : Transaction). t.extension) tx_is ∙ x.steady.no_extension;
  reads_are = ap (λ (t : Transaction). t.reads) tx_is ∙ x.reads_are;
  pins_are = p.pins_are;
  upto = λ a. rw (← x.snap) a;
  counted = p.counted;
}
  where
    tx_is : w.tx ≡ v.tx
    tx_is = ap (λ (u : View). u.tx) p.rest

-- the page is pinned: what a look needs
pub reached_reading : (thread snapshot : ℕ) (reads pins : List (ℕ × ℕ)) (v w : View) → IsReading thread snapshot reads v → Paged pins v w → IsReading thread snapshot reads w
reached_reading thread snapshot reads pins v w x p = record {
  of = record { live = ap (λ (u : View). u.part.is_spent) p.rest ∙ x.of.live; its = ap (λ (u : View). u.part.thread) p.rest ∙ x.of.its };
  steady = record { undrawn = record { is_open = ap (λ (u : View). u.tx.is_open) p.rest ∙ x.steady.undrawn.is_open; no_number = ap (λ (u : View). u.tx.hand.number) p.rest ∙ x.steady.undrawn.no_number }; no_extension = ap (λ (u : View). u.tx.extension) p.rest ∙ x.steady.no_extension };
  snap = ap (λ (u : View). u.tx.snapshot) p.rest ∙ x.snap;
  reads_are = ap (λ (u : View). u.tx.reads) p.rest ∙ x.reads_are;
}

module _ (z : Setup) (thread snapshot at frame : ℕ) (reads pins : List (ℕ × ℕ)) (v0 v1 : View) (x : IsReading thread snapshot reads v0) (p : Paged pins v0 v1) (pins_is : pins ≡ (page_of at, frame) ∷ []) where
  tx_is : v1.tx ≡ v0.tx
  tx_is = ap (λ (u : View). u.tx) p.rest

  entries_are : v1.entries ≡ v0.entries
  entries_are = ap (λ (u : View). u.entries) p.rest

  pub no_look_read : (v2 : View) → HasNoLook v1 v2 → AfterRead reads snapshot pins v0 v2
  no_look_read v2 u = record {
    rest = rest_of v0 v1 v2 p.rest u.within;
    like = like_from v0.tx v2.tx (record v1.tx { snapshot = v1.tx.snapshot; extension = None; checked = v2.tx.checked; look = v2.tx.look; loaded = v2.tx.loaded }) u.tx (like_on v0.tx v1.tx (record v1.tx { snapshot = v1.tx.snapshot; extension = None; checked = v2.tx.checked; look = v2.tx.look; loaded = v2.tx.loaded }) (like_from v0.tx v1.tx v0.tx tx_is refl) refl);
    snap = ap (λ (t : Transaction). t.snapshot) u.tx ∙ (ap (λ (t : Transaction). t.snapshot) tx_is ∙ x.snap);
    ended = ap (λ (t : Transaction). t.extension) u.tx;
    reads_are = ap (λ (t : Transaction). t.reads) u.tx ∙ (ap (λ (t : Transaction). t.reads) tx_is ∙ x.reads_are);
    pins_are = ap (λ (w : View). w.paging.pins) u.within ∙ p.pins_are;
    upto = λ a. rw (← x.snap) a;
    counted = (let c = p.counted in let d = u.counted in omega arith);
  }

  module _ (seen s2 : ℕ) (v2 : View) (g : HasGoodLook thread (lock_of z at) seen s2 v1 v2) where
    pub load_frame : find v2.paging.pins (page_of at) ≡ Some frame
    load_frame = ap (λ (w : View). find w.paging.pins (page_of at)) g.within ∙ (ap (λ (l : List (ℕ × ℕ)). find l (page_of at)) (p.pins_are ∙ pins_is) ∙ find_head [] (page_of at) frame)

    thread_is : v2.part.thread ≡ Some thread
    thread_is = ap (λ (w : View). w.part.thread) g.within ∙ (ap (λ (w : View). w.part.thread) p.rest ∙ x.of.its)

    live_is : v2.part.is_spent ≡ false
    live_is = ap (λ (w : View). w.part.is_spent) g.within ∙ (ap (λ (w : View). w.part.is_spent) p.rest ∙ x.of.live)

    pub load_may : at < z.pages * PAGE → May z (load at) v2
    load_may inside = record {
      live = live_is;
      threaded = (thread, thread_is);
      named = inside;
      can = (
        record {
          undrawn = record {
            is_open = ap (λ (t : Transaction). t.is_open) g.tx ∙ (ap (λ (t : Transaction). t.is_open) tx_is ∙ x.steady.undrawn.is_open);
            no_number = ap (λ (t : Transaction). t.hand.number) g.tx ∙ (ap (λ (t : Transaction). t.hand.number) tx_is ∙ x.steady.undrawn.no_number);
          };
          no_extension = g.ended;
        },
        (seen, g.look, rw (thread_is, g.snap) g.good),
        (frame, load_frame),
      );
    }

    module _ (y : ℕ) (v3 : View) (is3 : v3 ≡ view_after z (load at) v2 y) where
      pub check_may : lock_of z at < z.locks → May z (check (lock_of z at)) v3
      check_may there = rw is3 (record { live = live_is; threaded = (thread, thread_is); named = there; can = inl (at, y, refl, refl) })

      module _ (m : ℕ) (v4 : View) (is4 : v4 ≡ view_after z (check (lock_of z at)) v3 m) where
        e4 : v4 ≡ view_after z (check (lock_of z at)) (view_after z (load at) v2 y) m
        e4 = is4 ∙ ap (λ (w : View). view_after z (check (lock_of z at)) w m) is3

        tx4 : (b : Bool) → (m == looked_word v2.tx.look) ≡ b → v4.tx ≡ record v2.tx { reads = if b then v2.tx.reads ++ (at, y) ∷ [] else v2.tx.reads; loaded = None }
        tx4 b e = ap (λ (w : View). w.tx) e4 ∙ ap (λ (c : Bool). record v2.tx { reads = if c then v2.tx.reads ++ (at, y) ∷ [] else v2.tx.reads; loaded = None }) e

        within4 : Within v2 v4
        within4 = e4 ∙ ap (λ (u : View). record v2 { tx = u.tx; found = u.found; count = u.count }) (sym e4)

        reads2 : v2.tx.reads ≡ reads
        reads2 = ap (λ (t : Transaction). t.reads) g.tx ∙ (ap (λ (t : Transaction). t.reads) tx_is ∙ x.reads_are)

        count4 : HasRisen v0.count v4.count
        count4 = let a = p.counted in let b = g.counted in let c = ap (λ (w : View). w.count) e4 in omega arith

        after_load : (b : Bool) → (m == looked_word v2.tx.look) ≡ b → (rs : List (ℕ × ℕ)) → (if b then v2.tx.reads ++ (at, y) ∷ [] else v2.tx.reads) ≡ rs → AfterRead rs s2 pins v0 v4
        after_load b e rs is =
            let t4 = tx4 b e in
            let r : Transaction = record v2.tx { reads = if b then v2.tx.reads ++ (at, y) ∷ [] else v2.tx.reads; loaded = None } in
            record {
              rest = rest_of v0 v1 v4 p.rest (within_on v1 v2 v4 g.within within4);
              like = like_from v0.tx v4.tx r t4 (like_on v0.tx v1.tx r (like_from v0.tx v1.tx v0.tx tx_is refl) (like_on v1.tx v2.tx r (like_from v1.tx v2.tx (record v1.tx { snapshot = v2.tx.snapshot; extension = v2.tx.extension; checked = v2.tx.checked; look = v2.tx.look; loaded = v2.tx.loaded }) g.tx refl) refl));
              snap = ap (λ (t : Transaction). t.snapshot) t4 ∙ g.snap;
              ended = ap (λ (t : Transaction). t.extension) t4 ∙ g.ended;
              reads_are = ap (λ (t : Transaction). t.reads) t4 ∙ is;
              pins_are = ap (λ (w : View). w.paging.pins) within4 ∙ (ap (λ (w : View). w.paging.pins) g.within ∙ p.pins_are);
              upto = λ a. (let up : AreUpTo v1.tx.snapshot v1 = rw (entries_are, tx_is) a in let b = g.upto up in rw (← entries_are) b);
              counted = (let c = count4 in omega arith);
            }

        looked : looked_word v2.tx.look ≡ seen
        looked = ap looked_word g.look

        pub read_won : m ≡ seen → AfterRead (reads ++ (at, y) ∷ []) s2 pins v0 v4
        read_won same = after_load true (eq-eqb m (looked_word v2.tx.look) (same ∙ sym looked)) (reads ++ (at, y) ∷ []) (ap (λ (l : List (ℕ × ℕ)). l ++ (at, y) ∷ []) reads2)

        pub read_lost : m ≢ seen → AfterRead reads s2 pins v0 v4
        read_lost other = after_load false (ne_eqb m (looked_word v2.tx.look) (λ e. other (e ∙ looked))) reads reads2

        pub read_changed : IsSeated z v3 → LockTold z v3 (lock_of z at) m → m ≢ seen → InConflict z thread snapshot reads (lock_of z at) (lock_of z at) m v0 v4
        read_changed seated told other =
            let owned3 : v3.tx.owned ≡ v1.tx.owned = ap (λ (w : View). w.tx.owned) is3 ∙ ap (λ (t : Transaction). t.owned) g.tx in
            let thread3 : v3.part.thread ≡ Some thread = ap (λ (w : View). w.part.thread) is3 ∙ thread_is in
            let none : v3.tx.hand.number ≡ 0 = ap (λ (w : View). w.tx.hand.number) is3 ∙ (ap (λ (t : Transaction). t.hand.number) g.tx ∙ (ap (λ (t : Transaction). t.hand.number) tx_is ∙ x.steady.undrawn.no_number)) in
            record {
              found = ap (λ (w : View). w.found) e4;
              counted = count4;
              why = inl (
                refl,
                inr (record {
                  looked = seen;
                  look = ap (λ (w : View). w.tx.look) e4 ∙ g.look;
                  differ = λ e. other (sym e);
                  looked_other = λ own. other (told.owned (subst (λ (l : List (ℕ × ℕ)). Keeps l (lock_of z at)) (sym owned3) (g.own own)) ∙ (ap own_word thread3 ∙ sym own));
                  seen_other = λ own. other (own ∙ sym (g.owned (subst (λ (l : List (ℕ × ℕ)). Keeps l (lock_of z at)) owned3 (told.own (seated.no_number none).0 (own ∙ ap own_word (sym thread3))))));
                }),
              );
            }
