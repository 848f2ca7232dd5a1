-- Steps that read, and change nothing of locks.
use Rattle.std.proofs.Common.{◌≡◌, ℕ, ◌+◌, ◌*◌, ◌/◌, ◌<◌, ◌≤◌, ◌⊎◌, true, false, List, [], get_or, map, sym, ap, ◌∙◌, subst, inl, inr, ⊎_elim, eq-eqb, ne_eqb, arith, leb}
use Rattle.std.specs.Prelude.{Option, Some, None}
use Rattle.std.proofs.lemmas.Bool.{true≢false}
use Rattle.std.proofs.Math.Facts.{leb_yes}
use lib.Dec.{T}
use mathlib.Core.Option.{some}
use mathlib.Core.Logic.{dite}
use native.Mathlib.Decide.{ℕ_discrete}
use lib.ListN.{get_elem?}
use Rattle.core_events.specs.Setups.{Setup, lock_of}
use Rattle.core_events.specs.Keyed.{find}
use Rattle.core_events.specs.Views.{View}
use Rattle.core_events.specs.Events.{is_good, own_word}
use Rattle.core_events.specs.Conditions.{IsIdle, IsSteady}
use Rattle.core_events.specs.Ghosts.{free, taken, writing, Claims}
use Rattle.core_events.specs.KeptThreads.{part_of, ThreadsCounted}
use Rattle.core_events.specs.KeptLocks.{LookPending, Knows, LocksKept}
use Rattle.core_events.proofs.Lists.{view_there, at_map, pair_of}
use Rattle.core_events.proofs.Values.{even_version, odd_owner}

test_le : (a b : ℕ) → leb a b ≡ true → a ≤ b
test_le a b e = leb_yes (subst T (sym e) tt)

-- a good word is the thread's own, or of an unowned lock with a version up to the snapshot
pub good_cases : (thread : Option ℕ) (snapshot n : ℕ) → is_good thread snapshot n ≡ true → (n ≡ own_word thread) ⊎ ((u : ℕ) × (n ≡ 2 * u) × (u ≤ snapshot))
good_cases thread snapshot n e = dite (ℕ_discrete n (own_word thread))
    (λ own. inl own)
    (λ other. dite (ℕ_discrete n (2 * (n / 2)))
    (λ even. inr (n / 2, even, test_le (n / 2) snapshot (let r = rw (ne_eqb n (own_word thread) other, eq-eqb n (2 * (n / 2)) even) at e in r)))
    (λ odd. absurd (true≢false (sym (let r = rw (ne_eqb n (own_word thread) other, ne_eqb n (2 * (n / 2)) odd) at e in r)))))

module _ (z : Setup) (q : Claims) (thread : ℕ → ℕ) (clock : ℕ) (locks : List ℕ) (views : List View) (k : LocksKept z q thread clock locks views) where
  -- a lock that shows the thread's own word is the view's own
  pub mine_if : (most threads : ℕ) (home : ℕ → ℕ) → ThreadsCounted most thread home threads (map part_of views) → (id t : ℕ) (v : View) → get_elem? views id ≡ some v → v.part.thread ≡ Some t
      → (l : ℕ) → l < z.locks → get_or locks l 0 ≡ own_word v.part.thread → v.tx.hand.decided ≡ false → (u : ℕ) × (q.lock l ≡ taken id u)
  mine_if most threads home seats id t v at is l inside word calm =
      let same : own_word v.part.thread ≡ 2 * t + 1 = ap own_word is in
      let o = odd_owner thread (q.lock l) t (sym (k.owned.shows l inside) ∙ (word ∙ same)) in
      let j : ℕ = o.0 in let u : ℕ = o.1 in
      let w = view_there views j (k.seated l j u o.2) in let theirs = (k.each j w.0 w.1).owns in
      let held : (p : ℕ) × (find w.0.tx.owned l ≡ Some p) = ⊎_elim (λ e. (2 * u, (theirs.has_taken l u e).1)) (λ e. (2 * u, (theirs.has_writing l u e).1)) o.2 in
      let s = (theirs.owner l held.0 held.1).1 in
      let a = seats.mine j s.0 w.0.part (at_map part_of views j w.0 w.1) s.1 in
      let b = seats.mine id t v.part (at_map part_of views id v at) is in
      let one : s.0 ≡ t = sym a.0 ∙ o.3 in
      let j_is : j ≡ id = sym a.1 ∙ (ap home one ∙ b.1) in
      ⊎_elim (λ e. (u, e ∙ ap (λ (y : ℕ). taken y u) j_is)) (λ e. absurd (true≢false (sym ((k.each id v at).owns.has_writing l u (e ∙ ap (λ (y : ℕ). writing y u) j_is)).0 ∙ calm))) o.2

  module _ (id : ℕ) (v : View) (at : get_elem? views id ≡ some v) where
    abbrev m : Knows z q clock id v.part.thread v.tx
    m = k.each id v at

    none_owned : (j : ℕ) (os : List (ℕ × ℕ)) → os ≡ [] → (l o : ℕ) → find os l ≡ Some o → ⊥
    none_owned j os n l o e = let r : None ≡ Some o = rw n at e in cc

    pub begin_knows : IsIdle v → Knows z q clock id v.part.thread (record v.tx { is_open = true; snapshot = clock; extension = None; reads = []; loaded = None })
    begin_knows idle = record {
      owns = record {
        owns = λ l o e. absurd (none_owned id v.tx.owned idle.no_lock l o e);
        has_taken = m.owns.has_taken;
        has_writing = m.owns.has_writing;
        owner = λ l o e. absurd (none_owned id v.tx.owned idle.no_lock l o e);
        inside = λ l o e. absurd (none_owned id v.tx.owned idle.no_lock l o e);
      };
      number = record {
        numbered = λ p. absurd (let n = idle.no_number in omega arith);
        blank = m.number.blank;
        undecided = m.number.undecided;
        decided = m.number.decided;
        voided = m.number.voided;
      };
      apart = record { apart = λ o n le j d lt. absurd (omega arith) };
      confirmed = record {
        snap = λ _. (k.numbers.from, omega arith);
        extended = λ s e. absurd (let f : None ≡ Some s = e in cc);
        valid = λ h. absurd (let n = idle.no_number in let p = h.number in omega arith);
      };
      look = record { looked = m.look.looked; waits = λ i y e. absurd (let f : None ≡ Some (i, y) = e in cc) };
    }

    -- the transaction is dropped, or finished
    pub closed_knows : (extension : Option ℕ) (reads : List (ℕ × ℕ)) → v.tx.hand.number ≡ 0 → v.tx.owned ≡ [] → extension ≡ None
        → Knows z q clock id v.part.thread (record v.tx { is_open = false; extension = extension; reads = reads; loaded = None })
    closed_knows extension reads none_drawn no_lock no_extension = record {
      owns = record {
        owns = λ l o e. absurd (none_owned id v.tx.owned no_lock l o e);
        has_taken = m.owns.has_taken;
        has_writing = m.owns.has_writing;
        owner = λ l o e. absurd (none_owned id v.tx.owned no_lock l o e);
        inside = λ l o e. absurd (none_owned id v.tx.owned no_lock l o e);
      };
      number = record {
        numbered = λ p. absurd (let n = none_drawn in omega arith);
        blank = m.number.blank;
        undecided = m.number.undecided;
        decided = m.number.decided;
        voided = m.number.voided;
      };
      apart = record { apart = λ o. absurd (true≢false (sym o)) };
      confirmed = record {
        snap = λ o. absurd (true≢false (sym o));
        extended = λ s e. absurd (let f : None ≡ Some s = sym no_extension ∙ e in cc);
        valid = λ h. absurd (let n = none_drawn in let p = h.number in omega arith);
      };
      look = record { looked = m.look.looked; waits = λ i y e. absurd (let f : None ≡ Some (i, y) = e in cc) };
    }

    -- a steady transaction that changes its look or the value that waits
    steady_knows : (look loaded : Option (ℕ × ℕ)) → IsSteady v.tx → LookPending z q.lock v.part.thread (record v.tx { look = look; loaded = loaded }) → Knows z q clock id v.part.thread (record v.tx { look = look; loaded = loaded })
    steady_knows look loaded steady pending = record {
      owns = m.owns;
      number = m.number;
      apart = m.apart;
      confirmed = record {
        snap = m.confirmed.snap;
        extended = λ s e. absurd (let f : None ≡ Some s = sym steady.no_extension ∙ e in cc);
        valid = m.confirmed.valid;
      };
      look = pending;
    }

    -- the word of a lock becomes the last look
    pub look_knows : (l : ℕ) → l < z.locks → IsSteady v.tx → Knows z q clock id v.part.thread (record v.tx { look = Some (l, get_or locks l 0); loaded = None })
    look_knows l inside steady = steady_knows (Some (l, get_or locks l 0)) None steady record {
      looked = λ i y u e even. let same = pair_of (l, get_or locks l 0) (i, y) e in let here = same.0 in let word = same.1 in
          let h : q.lock l ≡ free u = even_version thread (q.lock l) u (sym (k.owned.shows l inside) ∙ (word ∙ even)) in rw (← here, h) (omega arith);
      waits = λ i y e. absurd (let f : None ≡ Some (i, y) = e in cc);
    }

    -- a value waits
    pub load_knows : (i x y t : ℕ) → v.part.thread ≡ Some t → IsSteady v.tx → v.tx.look ≡ Some (lock_of z i, y) → is_good v.part.thread v.tx.snapshot y ≡ true
        → Knows z q clock id v.part.thread (record v.tx { loaded = Some (i, x) })
    load_knows i x y t thread_is steady is good = steady_knows v.tx.look (Some (i, x)) steady record {
      looked = m.look.looked;
      waits = λ j b e. let here = (pair_of (i, x) (j, b) e).0 in (
        record { is_open = steady.undrawn.is_open; no_number = steady.undrawn.no_number },
        steady.no_extension,
        rw (← here) (⊎_elim
            (λ own. inr (is ∙ ap (λ (w : ℕ). Some (lock_of z i, w)) own, (t, thread_is)))
            (λ f. inl (f.0, is ∙ ap (λ (w : ℕ). Some (lock_of z i, w)) f.1, f.2))
            (good_cases v.part.thread v.tx.snapshot y good)),
      );
    }
