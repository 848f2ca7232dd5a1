-- A lock is taken under a look that was good.
use Rattle.std.proofs.Common.{◌≡◌, ◌≢◌, ℕ, ◌*◌, ◌/◌, ◌<◌, ◌≤◌, ◌==◌, ◌&&◌, leb, true, List, [], ◌∷◌, ◌++◌, refl, sym, ap, ◌∙◌, subst, inr, eq-eqb, ne_eqb, arith}
use Rattle.std.specs.Prelude.{Some, None}
use Rattle.std.proofs.lemmas.Bool.{eqb-true, leb-true, and_parts}
use Rattle.dude_base.specs.declared.write.Write.{Write}
use Rattle.dude_base.specs.Writes.{written, IsWriteList}
use Rattle.core_events.specs.Setups.{Setup}
use Rattle.core_events.specs.Keyed.{find}
use Rattle.core_events.specs.Views.{View, Transaction, the_lock}
use Rattle.core_events.specs.Events.{take, is_good, own_word, looked_word, noticed, view_after}
use Rattle.core_events.specs.Conditions.{May}
use Rattle.core_events.specs.Telling.{IsSeated, LockTold}
use Rattle.core_table.specs.Known.{Known, known_after}
use Rattle.stm_transactions.specs.Looks.{HasChanged, HasGoodLook, HasNoLook, IsReading, Within}
use Rattle.stm_transactions.specs.Owns.{AfterOwn, IsOwnStop}
use Rattle.stm_transactions.specs.Pairs.{pairs_of}
use Rattle.stm_transactions.proofs.Pairs.{find_pairs, pairs_push}
use Rattle.stm_transactions.specs.Seats.{HasNotFallen}

-- a good word that isn't the own one is a version up to the snapshot
unowned : (thread snapshot n : ℕ) → is_good (Some thread) snapshot n ≡ true → n ≢ own_word (Some thread) → (u : ℕ) × (n ≡ 2 * u) × (u ≤ snapshot)
unowned thread snapshot n good other =
    let rest : ((n == 2 * (n / 2)) && leb (n / 2) snapshot) ≡ true = (let q = rw (ne_eqb n (own_word (Some thread)) other) at good in q) in
    let both = and_parts (n == 2 * (n / 2)) (leb (n / 2) snapshot) rest in
    (n / 2, eqb-true n (2 * (n / 2)) both.0, leb-true (n / 2) snapshot both.1)

module _ (z : Setup) (thread snapshot lock : ℕ) (reads : List (ℕ × ℕ)) (held : List Write) (v : View) (x : IsReading thread snapshot reads v) (owned : v.tx.owned ≡ pairs_of held) (list : IsWriteList held) where
  pub owned_already : AfterOwn (pairs_of held) snapshot v v
  owned_already = record { within = refl; like = refl; snap = x.snap; ended = x.steady.no_extension; owned_are = owned; upto = λ a. rw (← x.snap) a; counted = omega arith }

  pub no_look_own : (w : View) → HasNoLook v w → AfterOwn (pairs_of held) snapshot v w
  no_look_own w u = record {
    within = u.within;
    like = u.tx ∙ ap (λ (t : Transaction). record v.tx { snapshot = t.snapshot; extension = t.extension; checked = t.checked; look = t.look; loaded = t.loaded; owned = t.owned }) (sym u.tx);
    snap = ap (λ (t : Transaction). t.snapshot) u.tx ∙ x.snap;
    ended = ap (λ (t : Transaction). t.extension) u.tx;
    owned_are = ap (λ (t : Transaction). t.owned) u.tx ∙ owned;
    upto = λ a. rw (← x.snap) a;
    counted = u.counted;
  }

  module _ (none : written held lock ≡ None) (seen s2 : ℕ) (v2 : View) (g : HasGoodLook thread lock seen s2 v v2) where
    not_kept : (y : ℕ) → find v.tx.owned lock ≡ Some y → ⊥
    not_kept y e = let q : None ≡ Some y = sym (ap (λ (l : List (ℕ × ℕ)). find l lock) owned ∙ (find_pairs held list.distinct lock ∙ none)) ∙ e in cc

    not_own : seen ≢ own_word (Some thread)
    not_own e = let k = g.own e in not_kept k.0 k.1

    version : (u : ℕ) × (seen ≡ 2 * u) × (u ≤ s2)
    version = unowned thread s2 seen g.good not_own

    pub take_may : lock < z.locks → May z (take lock) v2
    take_may there = record {
      live = ap (λ (w : View). w.part.is_spent) g.within ∙ x.of.live;
      threaded = (thread, ap (λ (w : View). w.part.thread) g.within ∙ x.of.its);
      named = there;
      can = (
        record { undrawn = record { is_open = ap (λ (t : Transaction). t.is_open) g.tx ∙ x.steady.undrawn.is_open; no_number = ap (λ (t : Transaction). t.hand.number) g.tx ∙ x.steady.undrawn.no_number }; no_extension = g.ended },
        (version.0, g.look ∙ ap (λ (n : ℕ). Some (lock, n)) version.1, (let s = g.snap in let l = version.2 in omega arith)),
      );
    }

    pub take_thread : v2.part.thread ≡ Some thread
    take_thread = ap (λ (w : View). w.part.thread) g.within ∙ x.of.its

    module _ (m : ℕ) (v3 : View) (is3 : v3 ≡ view_after z (take lock) v2 m) where
      looked : looked_word v2.tx.look ≡ seen
      looked = ap looked_word g.look

      lost : m ≢ seen → v3 ≡ noticed (the_lock lock) m (record v2 { tx = record v2.tx { look = Some (lock, m); loaded = None } })
      lost other = is3 ∙ rw (ne_eqb m (looked_word v2.tx.look) (λ e. other (e ∙ looked))) refl

      won : m ≡ seen → v3 ≡ record v2 { tx = record v2.tx { loaded = None; owned = (lock, m) ∷ v2.tx.owned } }
      won same = is3 ∙ rw (eq-eqb m (looked_word v2.tx.look) (same ∙ sym looked)) refl

      after_take : (t : Transaction) (u : View) → v3 ≡ u → u.tx ≡ t → Within v2 u → t ≡ record v2.tx { look = t.look; loaded = t.loaded; owned = t.owned } → HasNotFallen v2.count u.count → AfterOwn t.owned s2 v v3
      after_take t u e tx within like count =
          let tx3 : v3.tx ≡ t = ap (λ (w : View). w.tx) e ∙ tx in
          let within3 : Within v2 v3 = e ∙ (within ∙ ap (λ (w : View). record v2 { tx = w.tx; found = w.found; count = w.count }) (sym e)) in
          record {
            within = within3 ∙ ap (λ (w : View). record w { tx = v3.tx; found = v3.found; count = v3.count }) g.within;
            like = tx3 ∙ (like ∙ (ap (λ (y : Transaction). record y { look = t.look; loaded = t.loaded; owned = t.owned }) g.tx ∙ ap (λ (y : Transaction). record v.tx { snapshot = v2.tx.snapshot; extension = v2.tx.extension; checked = v2.tx.checked; look = y.look; loaded = y.loaded; owned = y.owned }) (sym tx3) ∙ again tx3 like));
            snap = ap (λ (y : Transaction). y.snapshot) tx3 ∙ (ap (λ (y : Transaction). y.snapshot) like ∙ g.snap);
            ended = ap (λ (y : Transaction). y.extension) tx3 ∙ (ap (λ (y : Transaction). y.extension) like ∙ g.ended);
            owned_are = ap (λ (y : Transaction). y.owned) tx3;
            upto = g.upto;
            counted = (let c = g.counted in let d = ap (λ (w : View). w.count) e in omega arith);
          }
        where
          again : v3.tx ≡ t → t ≡ record v2.tx { look = t.look; loaded = t.loaded; owned = t.owned } → record v.tx { snapshot = v2.tx.snapshot; extension = v2.tx.extension; checked = v2.tx.checked; look = v3.tx.look; loaded = v3.tx.loaded; owned = v3.tx.owned } ≡ record v.tx { snapshot = v3.tx.snapshot; extension = v3.tx.extension; checked = v3.tx.checked; look = v3.tx.look; loaded = v3.tx.loaded; owned = v3.tx.owned }
          again tx3 like = ap (λ (y : Transaction). record v.tx { snapshot = y.snapshot; extension = y.extension; checked = y.checked; look = v3.tx.look; loaded = v3.tx.loaded; owned = v3.tx.owned }) (sym (tx3 ∙ like))

      pub take_lost : m ≢ seen → AfterOwn (pairs_of held) s2 v v3
      take_lost other =
          subst (λ (l : List (ℕ × ℕ)). AfterOwn l s2 v v3) (ap (λ (t : Transaction). t.owned) g.tx ∙ owned)
          (after_take (record v2.tx { look = Some (lock, m); loaded = None }) (noticed (the_lock lock) m (record v2 { tx = record v2.tx { look = Some (lock, m); loaded = None } })) (lost other) refl refl refl (omega arith))

      -- another word was found than the one that was looked at
      pub take_changed : LockTold z v2 lock m → IsSeated z v2 → m ≢ seen → HasChanged thread lock m v2
      take_changed told seated other =
          let none_drawn : v2.tx.hand.number ≡ 0 = ap (λ (t : Transaction). t.hand.number) g.tx ∙ x.steady.undrawn.no_number in
          record {
            looked = seen;
            look = g.look;
            differ = λ e. other (sym e);
            looked_other = not_own;
            seen_other = λ own. let k = told.own (seated.no_number none_drawn).0 (own ∙ ap own_word (sym take_thread)) in not_kept k.0 (ap (λ (l : List (ℕ × ℕ)). find l lock) (sym (ap (λ (t : Transaction). t.owned) g.tx)) ∙ k.1);
          }

      pub take_failed : {X : Type 0} (k2 k3 : Known X) → k2.view ≡ v2 → k3.view ≡ v3 → k3 ≡ known_after z (take lock) k2 m → LockTold z v2 lock m → IsSeated z v2 → m ≢ seen
          → IsOwnStop z thread snapshot reads lock lock m v k3
      take_failed k2 k3 e2 e3 tried told seated other =
          inr (
            refl,
            record {
              before = k2;
              tried = tried;
              changed = subst (HasChanged thread lock m) (sym e2) (take_changed told seated other);
              found = ap (λ (w : View). w.found) (e3 ∙ lost other);
              counted = (let c = g.counted in let d = ap (λ (w : View). w.count) (e3 ∙ lost other) in omega arith);
            },
          )

      pub take_won : m ≡ seen → AfterOwn (pairs_of (held ++ (record { at = lock; value = seen }) ∷ [])) s2 v v3
      take_won same =
          subst (λ (l : List (ℕ × ℕ)). AfterOwn l s2 v v3)
          (ap (λ (l : List (ℕ × ℕ)). (lock, m) ∷ l) (ap (λ (t : Transaction). t.owned) g.tx ∙ owned) ∙ (ap (λ (n : ℕ). (lock, n) ∷ pairs_of held) same ∙ sym (pairs_push held (record { at = lock; value = seen }))))
          (after_take (record v2.tx { loaded = None; owned = (lock, m) ∷ v2.tx.owned }) (record v2 { tx = record v2.tx { loaded = None; owned = (lock, m) ∷ v2.tx.owned } }) (won same) refl refl refl (omega arith))
