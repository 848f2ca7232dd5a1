-- A number is drawn for the writes, and decided or void.
use Rattle.std.proofs.Common.{◌≡◌, ℕ, ◌+◌, ◌<◌, Bool, true, false, List, [], ◌∷◌, ◌++◌, length, refl, sym, ap, ◌∙◌, subst, inl, inr, arith}
use Rattle.std.specs.Prelude.{Option, Some, None, is_some}
use Rattle.std.specs.List.{All}
use Rattle.std.proofs.lemmas.Bool.{true≢false}
use Rattle.dude_base.specs.declared.write.Write.{Write}
use Rattle.dude_base.specs.Writes.{written}
use Rattle.core_events.specs.Setups.{Setup, lock_of, page_of}
use Rattle.core_events.specs.Keyed.{find, has}
use Rattle.core_events.specs.Views.{View, Part, Hand, About, Entry}
use Rattle.core_events.specs.Events.{draw, post, write_entry, place_behind, view_after}
use Rattle.core_events.specs.Conditions.{May, IsUndecided}
use Rattle.core_events.specs.Telling.{ClockTold}
use Rattle.stm_transactions.specs.Draws.{IsChecked, IsChecking, IsVoided}
use Rattle.stm_transactions.specs.CommitEnds.{HasEntered, HasLost, drawn_for, has_writes, next_for}
use Rattle.stm_transactions.specs.Pages.{ArePaged, IsWrittenPage}
use Rattle.stm_transactions.specs.Settles.{IsLeaving, IsPosted, IsUndone, MayDecide}
use Rattle.stm_transactions.specs.Pairs.{pairs_of}
use Rattle.stm_transactions.specs.Running.{IsRunning}
use Rattle.stm_transactions.specs.Seats.{IsLive, IsOf}
use Rattle.stm_transactions.proofs.Pins.{still_live}
use Rattle.stm_transactions.proofs.Pairs.{among}

some_is : (o : Option ℕ) → is_some o ≡ true → (x : ℕ) × (o ≡ Some x)
some_is (Some x) e = (x, refl)
some_is None e = absurd (true≢false (sym e))

-- what is found of each write is found of each written word
of_written : (P : ℕ → Type 0) (ws : List Write) → All (λ w. P w.at) ws → (i x : ℕ) → written ws i ≡ Some x → P i
of_written P ws all i x e = let m = among ws i x e in subst P (m.2 (record { at = i; value = x })) (all m.0 (record { at = i; value = x }) m.1)

some_held : (z : Setup) (ws held : List Write) → 0 < length ws → All (λ w. is_some (find (pairs_of held) (lock_of z w.at)) ≡ true) ws → 0 < length held
some_held z [] held lt all = absurd (omega arith)
some_held z (w ∷ ws) [] lt all = absurd (true≢false (sym (all 0 w (omega arith))))
some_held z (w ∷ ws) (h ∷ held) lt all = omega arith

wrote_some : (ws : List Write) → 0 < length ws → has_writes ws ≡ true
wrote_some [] lt = absurd (omega arith)
wrote_some (w ∷ ws) lt = refl

drawn_some : (ws : List Write) (n : ℕ) → 0 < length ws → drawn_for ws n ≡ n ∷ []
drawn_some [] n lt = absurd (omega arith)
drawn_some (w ∷ ws) n lt = refl

next_some : (z : Setup) (ws : List Write) (k : ℕ) → 0 < length ws → next_for z ws k ≡ place_behind z k
next_some z [] k lt = absurd (omega arith)
next_some z (w ∷ ws) k lt = refl

module _ (z : Setup) (thread place snapshot : ℕ) (a : About) (reads : List (ℕ × ℕ)) (ws held frames : List Write) (v : View)
    (r : IsRunning z thread snapshot reads ws (pairs_of held) (pairs_of frames) v) (some : 0 < length ws) (draws : 0 < v.draws)
    (paged : ArePaged ws frames) (from : All (IsWrittenPage ws) frames) where
  pub draw_may : May z (draw a ws) v
  draw_may = record {
    live = r.of.live;
    threaded = (thread, r.of.its);
    named = tt;
    can = record {
      steady = r.steady;
      some_write = some;
      list = r.list;
      inside = r.inside;
      owned = λ i x e. let k = some_is (find (pairs_of held) (lock_of z i)) (of_written (λ j. is_some (find (pairs_of held) (lock_of z j)) ≡ true) ws r.covered i x e) in (k.0, ap (λ (l : List (ℕ × ℕ)). find l (lock_of z i)) r.owned_are ∙ k.1);
      pinned = λ i x e. let k = some_is (find (pairs_of frames) (page_of i)) (of_written (λ j. is_some (find (pairs_of frames) (page_of j)) ≡ true) ws paged i x e) in (k.0, ap (λ (l : List (ℕ × ℕ)). find l (page_of i)) r.pins_are ∙ k.1);
      box = r.box;
      draw_left = draws;
    };
  }

  module _ (n : ℕ) (told : ClockTold z v n) (v2 : View) (is2 : v2 ≡ view_after z (draw a ws) v n) where
    of2 : IsOf thread v2
    of2 = rw is2 (record { live = r.of.live; its = r.of.its })

    undecided2 : IsUndecided v2.tx.hand
    undecided2 = rw is2 (record { number = omega arith; not_decided = refl; not_void = refl })

    pub checking2 : IsChecking thread snapshot reads v2
    checking2 = record { of = of2; loaded = ap (λ (u : View). u.tx.loaded) is2; no_extension = ap (λ (u : View). u.tx.extension) is2 ∙ r.steady.no_extension; undecided = undecided2; snap = ap (λ (u : View). u.tx.snapshot) is2 ∙ r.snap; reads_are = ap (λ (u : View). u.tx.reads) is2 ∙ r.reads_are }

    -- ---- all good
    module _ (v3 : View) (c : IsChecked z reads v2 v3) where
      reads3 : v3.tx.reads ≡ reads
      reads3 = ap (λ (u : View). u.tx.reads) c.on ∙ checking2.reads_are

      pub may_decide : MayDecide z thread (n + 1) ws held frames v3
      may_decide = record {
        of = record { live = ap (λ (u : View). u.part.is_spent) c.on ∙ of2.live; its = ap (λ (u : View). u.part.thread) c.on ∙ of2.its };
        number_is = ap (λ (u : View). u.tx.hand.number) c.on ∙ ap (λ (u : View). u.tx.hand.number) is2;
        writes_are = ap (λ (u : View). u.tx.hand.writes) c.on ∙ ap (λ (u : View). u.tx.hand.writes) is2;
        owned_are = ap (λ (u : View). u.tx.owned) c.on ∙ (ap (λ (u : View). u.tx.owned) is2 ∙ r.owned_are);
        pins_are = ap (λ (u : View). u.paging.pins) c.on ∙ (ap (λ (u : View). u.paging.pins) is2 ∙ r.pins_are);
        undecided = subst IsUndecided (sym (ap (λ (u : View). u.tx.hand) c.on)) undecided2;
        good = subst (λ (l : List (ℕ × ℕ)). All (λ r. has v3.tx.checked (lock_of z r.0) ≡ true) l) (sym reads3) c.good;
        some_lock = some_held z ws held some r.covered;
        inside = r.inside;
        covered = r.covered;
        paged = paged;
        written_pages = from;
      }

      pub next3 : v3.box.next ≡ v.box.next
      next3 = ap (λ (u : View). u.box.next) c.on ∙ ap (λ (u : View). u.box.next) is2

      pub entered : (v4 : View) → IsPosted z v3 v4 → HasEntered z (n + 1) a reads ws v v4
      entered v4 p = record {
        part = p.part ∙ (ap (λ (u : View). u.part) c.on ∙ ap (λ (u : View). u.part) is2);
        turn = p.turn ∙ (ap (λ (u : View). u.turn) c.on ∙ ap (λ (u : View). u.turn) is2);
        draws = (let x = p.draws in let y = ap (λ (u : View). u.draws) c.on in let w = ap (λ (u : View). u.draws) is2 in let one = ap length (drawn_some ws (n + 1) some) in omega arith);
        drawn = p.drawn ∙ (ap (λ (u : View). u.drawn) c.on ∙ (ap (λ (u : View). u.drawn) is2 ∙ ap (λ (l : List ℕ). v.drawn ++ l) (sym (drawn_some ws (n + 1) some))));
        entries = p.entries ∙ (ap (λ (l : List Entry). l ++ write_entry v3 ∷ []) (ap (λ (u : View). u.entries) c.on ∙ ap (λ (u : View). u.entries) is2) ∙ ap (λ (e : Entry). v.entries ++ e ∷ []) entry_is);
        from = (let f = told.from in omega arith);
        upto = λ k d lt. let le = told.entries k d lt in omega arith;
        over = λ some. ((let f = told.from in omega arith), (λ k d lt. let le = told.entries k d lt in omega arith));
        newest = λ some. λ m h. let le = (told.drawn m h).1 in omega arith;
        reader = λ none. let l = ap length none in absurd (omega arith);
        idle = p.idle;
        next = p.next ∙ (ap (λ (k : ℕ). place_behind z k) next3 ∙ sym (next_some z ws v.box.next some));
      }
        where
          hand_is : v3.tx.hand ≡ record { number = n + 1; decided = false; void = false; about = a; writes = ws; stored = [] }
          hand_is = ap (λ (u : View). u.tx.hand) c.on ∙ ap (λ (u : View). u.tx.hand) is2

          entry_is : write_entry v3 ≡ record { number = n + 1; wrote = has_writes ws; about = a; reads = reads; writes = ws }
          entry_is = ap (λ (h : Hand). record { number = h.number; wrote = true; about = h.about; reads = v3.tx.reads; writes = h.writes }) hand_is ∙ ap (λ (l : List (ℕ × ℕ)). record { number = n + 1; wrote = true; about = a; reads = l; writes = ws }) reads3 ∙ ap (λ (b : Bool). record { number = n + 1; wrote = b; about = a; reads = reads; writes = ws }) (sym (wrote_some ws some))

    -- ---- one isn't
    module _ (lock seen : ℕ) (v3 : View) (c : IsVoided z thread snapshot reads lock seen v2 v3) where
      live3 : IsLive v3
      live3 = still_live v2 v3 (ap (λ (u : View). u.part) c.on) (record { live = of2.live; threaded = (thread, of2.its) })

      void3 : v3.tx.hand.void ≡ true
      void3 = ap (λ (u : View). u.tx.hand.void) c.on

      decided3 : v3.tx.hand.decided ≡ false
      decided3 = ap (λ (u : View). u.tx.hand.decided) c.on ∙ undecided2.not_decided

      pub undone3 : IsUndone held v3
      undone3 = record { its = live3; owned_are = ap (λ (u : View). u.tx.owned) c.on ∙ (ap (λ (u : View). u.tx.owned) is2 ∙ r.owned_are); may = inl void3 }

      module _ (v4 : View) (is4 : v4 ≡ record v3 { tx = record v3.tx { owned = [] } }) where
        hand4 : v4.tx.hand ≡ v3.tx.hand
        hand4 = ap (λ (u : View). u.tx.hand) is4

        void4 : v4.tx.hand.void ≡ true
        void4 = ap (λ (h : Hand). h.void) hand4 ∙ void3

        decided4 : v4.tx.hand.decided ≡ false
        decided4 = ap (λ (h : Hand). h.decided) hand4 ∙ decided3

        pub leaving4 : IsLeaving frames v4
        leaving4 = record {
          its = still_live v3 v4 (ap (λ (u : View). u.part) is4) live3;
          pins_are = ap (λ (u : View). u.paging.pins) is4 ∙ (ap (λ (u : View). u.paging.pins) c.on ∙ (ap (λ (u : View). u.paging.pins) is2 ∙ r.pins_are));
          not_undecided = λ u. true≢false (sym void4 ∙ u.not_void);
          stored = λ d. absurd (true≢false (sym d ∙ decided4));
          touched = λ d. absurd (true≢false (sym d ∙ decided4));
        }

        module _ (v5 : View) (is5 : v5 ≡ record v4 { paging = record v4.paging { pins = [] } }) where
          owned5 : v5.tx.owned ≡ []
          owned5 = ap (λ (u : View). u.tx.owned) is5 ∙ ap (λ (u : View). u.tx.owned) is4

          hand5 : v5.tx.hand ≡ v3.tx.hand
          hand5 = ap (λ (u : View). u.tx.hand) is5 ∙ hand4

          pub void_post_may : May z post v5
          void_post_may = let l = still_live v4 v5 (ap (λ (u : View). u.part) is5) leaving4.its in record {
            live = l.live;
            threaded = l.threaded;
            named = tt;
            can = (inr (ap (λ (h : Hand). h.void) hand5 ∙ void3), owned5, ap (λ (u : View). u.paging.pins) is5);
          }

          pub void_number : v5.tx.hand.number ≡ n + 1
          void_number = ap (λ (h : Hand). h.number) hand5 ∙ (ap (λ (u : View). u.tx.hand.number) c.on ∙ ap (λ (u : View). u.tx.hand.number) is2)

          part5 : v5.part ≡ v.part
          part5 = ap (λ (u : View). u.part) is5 ∙ (ap (λ (u : View). u.part) is4 ∙ (ap (λ (u : View). u.part) c.on ∙ ap (λ (u : View). u.part) is2))

          pub void_thread : v5.part.thread ≡ Some thread
          void_thread = ap (λ (q : Part). q.thread) part5 ∙ r.of.its

          pub void_next : v5.box.next ≡ v.box.next
          void_next = ap (λ (u : View). u.box.next) is5 ∙ (ap (λ (u : View). u.box.next) is4 ∙ (ap (λ (u : View). u.box.next) c.on ∙ ap (λ (u : View). u.box.next) is2))

          pub lost : (v6 : View) → v6 ≡ view_after z post v5 0 → HasLost z thread snapshot reads lock seen (n + 1) v v6
          lost v6 is6 = record {
            part = ap (λ (u : View). u.part) is6 ∙ part5;
            turn = ap (λ (u : View). u.turn) is6 ∙ (ap (λ (u : View). u.turn) is5 ∙ (ap (λ (u : View). u.turn) is4 ∙ (ap (λ (u : View). u.turn) c.on ∙ ap (λ (u : View). u.turn) is2)));
            draws = (let p = ap (λ (u : View). u.draws) is6 in let q = ap (λ (u : View). u.draws) is5 in let s = ap (λ (u : View). u.draws) is4 in let y = ap (λ (u : View). u.draws) c.on in let w = ap (λ (u : View). u.draws) is2 in omega arith);
            drawn = ap (λ (u : View). u.drawn) is6 ∙ (ap (λ (u : View). u.drawn) is5 ∙ (ap (λ (u : View). u.drawn) is4 ∙ (ap (λ (u : View). u.drawn) c.on ∙ ap (λ (u : View). u.drawn) is2)));
            entries = ap (λ (u : View). u.entries) is6 ∙ (ap (λ (u : View). u.entries) is5 ∙ (ap (λ (u : View). u.entries) is4 ∙ (ap (λ (u : View). u.entries) c.on ∙ ap (λ (u : View). u.entries) is2)));
            over = λ k d lt. let le = told.entries k d lt in omega arith;
            newest = λ m h. let le = (told.drawn m h).1 in omega arith;
            idle = record {
              no_number = ap (λ (u : View). u.tx.hand.number) is6;
              no_lock = ap (λ (u : View). u.tx.owned) is6 ∙ owned5;
              no_pin = ap (λ (u : View). u.paging.pins) is6 ∙ ap (λ (u : View). u.paging.pins) is5;
            };
            next = ap (λ (u : View). u.box.next) is6 ∙ ap (λ (k : ℕ). place_behind z k) void_next;
            found = ap (λ (u : View). u.found) is6 ∙ (ap (λ (u : View). u.found) is5 ∙ (ap (λ (u : View). u.found) is4 ∙ c.found));
            counted = (let p = ap (λ (u : View). u.count) is6 in let q = ap (λ (u : View). u.count) is5 in let s = ap (λ (u : View). u.count) is4 in let y = c.counted in let w = ap (λ (u : View). u.count) is2 in omega arith);
            of_read = c.of_read;
            bad = c.bad;
          }
