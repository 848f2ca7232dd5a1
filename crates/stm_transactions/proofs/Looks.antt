-- A look at a lock, with an extension where it is needed.
use Rattle.std.proofs.Common.{◌≡◌, ◌≢◌, ℕ, ◌+◌, ◌*◌, ◌/◌, ◌%◌, ◌<◌, ◌≤◌, true, false, List, refl, sym, ap, ◌∙◌, subst, inl, inr, ⊎_elim, eq-eqb, ne_eqb, arith}
use Rattle.std.specs.Prelude.{Option, Some, None}
use Rattle.std.specs.List.{All}
use Rattle.std.proofs.lemmas.Bool.{true≢false, le-leb}
use mathlib.Core.Logic.{dite}
use native.Mathlib.Decide.{ℕ_discrete}
use Rattle.core_events.specs.Setups.{Setup}
use Rattle.core_events.specs.Views.{View, Transaction, Entry, the_lock}
use Rattle.core_events.specs.Events.{look, extend, is_good, own_word, view_after}
use Rattle.core_events.specs.Conditions.{May, Keeps}
use Rattle.core_events.specs.Telling.{IsTold, IsSeated, LockTold}
use Rattle.stm_transactions.specs.Looks.{Extended, HasGoodLook, HasNoLook, InConflict, IsForeign, IsOutdated, IsReading}
use Rattle.stm_transactions.proofs.Extending.{within_on}
use Rattle.stm_transactions.specs.Seats.{HasRisen}

good_if : (thread snapshot n : ℕ) → n ≡ 2 * (n / 2) → n / 2 ≤ snapshot → is_good (Some thread) snapshot n ≡ true
good_if thread snapshot n even low = dite (ℕ_discrete n (own_word (Some thread))) (λ h. rw (eq-eqb n (own_word (Some thread)) h) refl) (λ o. rw (ne_eqb n (own_word (Some thread)) o, eq-eqb n (2 * (n / 2)) even) (le-leb (n / 2) snapshot low))

good_own : (thread snapshot n : ℕ) → n ≡ own_word (Some thread) → is_good (Some thread) snapshot n ≡ true
good_own thread snapshot n own = rw (eq-eqb n (own_word (Some thread)) own) refl

-- a word that isn't good and is odd shows another thread
pub foreign : (z : Setup) (v : View) (thread snapshot k n : ℕ) → LockTold z v k n → is_good (Some thread) snapshot n ≡ false → n % 2 ≡ 1 → IsForeign thread n
foreign z v thread snapshot k n told bad odd = ⊎_elim
    (λ e. let is = e.1 in absurd (omega arith))
    (λ t. record { owner = t.0; is = t.1; other = λ same. true≢false (sym (good_own thread snapshot n (t.1 ∙ ap (λ (u : ℕ). 2 * u + 1) same)) ∙ bad) })
    told.shape

module _ (z : Setup) (thread snapshot lock n : ℕ) (reads : List (ℕ × ℕ)) (v : View) (x : IsReading thread snapshot reads v) (seated : IsSeated z v) where
  pub look_may : lock < z.locks → May z (look lock) v
  look_may there = record { live = x.of.live; threaded = (thread, x.of.its); named = there; can = x.steady }

  module _ (v1 : View) (is1 : v1 ≡ view_after z (look lock) v n) where
    pub still_reading : IsReading thread snapshot reads v1
    still_reading = rw is1 (record { of = record { live = x.of.live; its = x.of.its }; steady = record { undrawn = record { is_open = x.steady.undrawn.is_open; no_number = x.steady.undrawn.no_number }; no_extension = x.steady.no_extension }; snap = x.snap; reads_are = x.reads_are })

    own_is : LockTold z v lock n → n ≡ own_word (Some thread) → Keeps v.tx.owned lock
    own_is told e = told.own (seated.no_number x.steady.undrawn.no_number).0 (e ∙ ap own_word (sym x.of.its))

    owned_is : LockTold z v lock n → Keeps v.tx.owned lock → n ≡ own_word (Some thread)
    owned_is told k = told.owned k ∙ ap own_word x.of.its

    pub sighted_now : LockTold z v lock n → is_good (Some thread) snapshot n ≡ true → HasGoodLook thread lock n snapshot v v1
    sighted_now told good = rw is1 (record { own = own_is told; owned = owned_is told; within = refl; tx = refl; snap = x.snap; ended = x.steady.no_extension; look = refl; good = good; upto = λ a. rw (← x.snap) a; counted = omega arith })

    pub no_look_now : HasNoLook v v1
    no_look_now = rw is1 (record { within = refl; tx = ap (λ (o : Option ℕ). record v.tx { extension = o; look = Some (lock, n); loaded = None }) x.steady.no_extension; counted = omega arith })

    pub conflict_now : LockTold z v lock n → is_good (Some thread) snapshot n ≡ false → n % 2 ≡ 1 → InConflict z thread snapshot reads lock lock n v v1
    conflict_now told bad odd = record {
      found = ap (λ (u : View). u.found) is1;
      counted = (let c = ap (λ (u : View). u.count) is1 in omega arith);
      why = inl (refl, inl (foreign z v thread snapshot lock n told bad odd));
    }

    module _ (m : ℕ) (v2 : View) (e : Extended m v1 v2) where
      pub sighted_later : LockTold z v lock n → n % 2 ≢ 1 → IsTold z extend v1 m → HasGoodLook thread lock n m v v2
      sighted_later lock_told even told =
          let c = told.word in
          let low : n / 2 ≤ m = c.looked lock (n / 2) (ap (λ (u : View). u.tx.look) is1 ∙ ap (λ (k : ℕ). Some (lock, k)) (omega arith)) in
          record {
            within = within_on v v1 v2 (rw is1 refl) e.within;
            tx = e.moved ∙ ap (λ (u : View). record u.tx { snapshot = v2.tx.snapshot; extension = v2.tx.extension; checked = v2.tx.checked; loaded = v2.tx.loaded }) is1 ∙ ap (λ (o : Option (ℕ × ℕ)). record v.tx { snapshot = v2.tx.snapshot; extension = v2.tx.extension; checked = v2.tx.checked; look = o; loaded = v2.tx.loaded }) (sym (ap (λ (y : Transaction). y.look) e.moved ∙ ap (λ (u : View). u.tx.look) is1));
            snap = e.snap;
            ended = e.ended;
            look = ap (λ (y : Transaction). y.look) e.moved ∙ ap (λ (u : View). u.tx.look) is1;
            good = good_if thread m n (omega arith) low;
            own = own_is lock_told;
            owned = owned_is lock_told;
            upto = λ a. subst (λ (l : List Entry). All (λ x. x.number ≤ m) l) (ap (λ (u : View). u.entries) is1) c.entries;
            counted = (let d = ap (λ (u : View). u.count) is1 in let f = e.counted in omega arith);
          }

    pub no_look_later : (v2 : View) → Extended snapshot v1 v2 → HasNoLook v v2
    no_look_later v2 e = record {
      within = within_on v v1 v2 (rw is1 refl) e.within;
      tx = e.moved ∙ (ap (λ (s : ℕ). record v1.tx { snapshot = s; extension = v2.tx.extension; checked = v2.tx.checked; loaded = v2.tx.loaded }) (e.snap ∙ sym x.snap)
          ∙ (ap (λ (o : Option ℕ). record v1.tx { snapshot = v.tx.snapshot; extension = o; checked = v2.tx.checked; loaded = v2.tx.loaded }) e.ended
          ∙ (ap (λ (u : View). record u.tx { snapshot = v.tx.snapshot; extension = None; checked = v2.tx.checked; loaded = v2.tx.loaded }) is1
          ∙ ap (λ (o : Option (ℕ × ℕ)). record v.tx { snapshot = v.tx.snapshot; extension = None; checked = v2.tx.checked; look = o; loaded = v2.tx.loaded }) (sym (ap (λ (y : Transaction). y.look) e.moved ∙ ap (λ (u : View). u.tx.look) is1)))));
      counted = (let d = ap (λ (u : View). u.count) is1 in let f = e.counted in omega arith);
    }

    pub conflict_later : (k seen : ℕ) (v2 : View) → IsOutdated z thread snapshot reads k seen → v2.found ≡ Some (the_lock k, seen) → HasRisen v1.count v2.count → InConflict z thread snapshot reads lock k seen v v2
    conflict_later k seen v2 out found more = record { found = found; counted = (let c = ap (λ (u : View). u.count) is1 in omega arith); why = inr out }
