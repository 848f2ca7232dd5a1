-- Each lock of the reads is checked after the draw.
use Rattle.std.proofs.Common.{◌≡◌, ℕ, ◌+◌, ◌<◌, Bool, true, false, List, ◌∷◌, length, get_or, refl, sym, ap, ◌∙◌, subst, inr, arith}
use Rattle.std.specs.Prelude.{Option, Some, None}
use Rattle.std.proofs.lemmas.List.{get_or_default}
use mathlib.Core.Logic.{dite}
use native.Mathlib.Decide.{ℕ_discrete}
use Rattle.core_events.specs.Setups.{Setup, lock_of}
use Rattle.core_events.specs.Keyed.{has}
use Rattle.core_events.specs.Views.{View, the_lock}
use Rattle.core_events.specs.Events.{check, is_good, noticed, checking, validating, view_after}
use Rattle.core_events.specs.Conditions.{May, IsUndecided}
use Rattle.stm_transactions.specs.Draws.{CheckedOn, IsChecked, IsChecking, IsVoided}
use Rattle.stm_transactions.specs.Seats.{HasNotFallen}
use Rattle.stm_transactions.proofs.Extending.{has_lock, has_more, has_first}

-- the locks of the first k reads were found good
pub record Checking (z : Setup) (k : ℕ) (reads : List (ℕ × ℕ)) (v w : View) : Type 0 where
  pub on : CheckedOn v w
  pub good : (j : ℕ) (d : ℕ × ℕ) → j < k → has w.tx.checked (lock_of z (get_or reads j d).0) ≡ true
  pub counted : HasNotFallen v.count w.count

module _ (z : Setup) (thread snapshot : ℕ) (reads : List (ℕ × ℕ)) (v : View) (x : IsChecking thread snapshot reads v) where
  pub checking_none : Checking z 0 reads v v
  checking_none = record { on = refl; good = λ j d lt. absurd (omega arith); counted = omega arith }

  module _ (k : ℕ) (w : View) (c : Checking z k reads v w) (d : ℕ × ℕ) (lt : k < length reads) where
    abbrev lock : ℕ
    lock = lock_of z (get_or reads k d).0

    tx_is : w.tx ≡ record v.tx { checked = w.tx.checked }
    tx_is = ap (λ (u : View). u.tx) c.on

    undecided : IsUndecided w.tx.hand
    undecided = subst IsUndecided (sym (ap (λ (u : View). u.tx.hand) c.on)) x.undecided

    pub check_may : lock < z.locks → May z (check lock) w
    check_may there = record {
      live = ap (λ (u : View). u.part.is_spent) c.on ∙ x.of.live;
      threaded = (thread, ap (λ (u : View). u.part.thread) c.on ∙ x.of.its);
      named = there;
      can = inr (record {
        no_value = ap (λ (u : View). u.tx.loaded) c.on ∙ x.loaded;
        of_read = (let same : w.tx.reads ≡ reads = ap (λ (u : View). u.tx.reads) c.on ∙ x.reads_are in rw same (has_lock z reads k d lt));
        why = inr (ap (λ (u : View). u.tx.extension) c.on ∙ x.no_extension, undecided);
      });
    }

    after_is : (m : ℕ) (b : Bool) → is_good (Some thread) snapshot m ≡ b → view_after z (check lock) w m ≡ noticed (the_lock lock) m (record w { tx = validating b lock w.tx })
    after_is m b is =
        ap (λ (o : Option (ℕ × ℕ)). noticed (the_lock lock) m (record w { tx = checking z o w.tx.extension w.part.thread lock m w.tx })) (ap (λ (u : View). u.tx.loaded) c.on ∙ x.loaded)
        ∙ (ap (λ (o : Option ℕ). noticed (the_lock lock) m (record w { tx = checking z None o w.part.thread lock m w.tx })) (ap (λ (u : View). u.tx.extension) c.on ∙ x.no_extension)
        ∙ (ap (λ (o : Option ℕ). noticed (the_lock lock) m (record w { tx = validating (is_good o w.tx.snapshot m) lock w.tx })) (ap (λ (u : View). u.part.thread) c.on ∙ x.of.its)
        ∙ ap (λ (y : Bool). noticed (the_lock lock) m (record w { tx = validating y lock w.tx })) (ap (λ (s : ℕ). is_good (Some thread) s m) (ap (λ (u : View). u.tx.snapshot) c.on ∙ x.snap) ∙ is)))

    pub checking_on : (m : ℕ) (y : View) → y ≡ view_after z (check lock) w m → is_good (Some thread) snapshot m ≡ true → Checking z (k + 1) reads v y
    checking_on m y is good =
        let e : y ≡ noticed (the_lock lock) m (record w { tx = record w.tx { checked = lock ∷ w.tx.checked } }) = is ∙ after_is m true good in
        record {
          on = e ∙ (ap (λ (u : View). noticed (the_lock lock) m (record u { tx = record u.tx { checked = lock ∷ w.tx.checked } })) c.on
              ∙ ap (λ (n : ℕ). record v { tx = record v.tx { checked = lock ∷ w.tx.checked }; found = Some (the_lock lock, m); count = n }) refl)
              ∙ ap (λ (u : View). record v { tx = record v.tx { checked = u.tx.checked }; found = u.found; count = u.count }) (sym e);
          good = λ j f lt2. ap (λ (u : View). has u.tx.checked (lock_of z (get_or reads j f).0)) e ∙ dite (ℕ_discrete j k)
              (λ h. has_first w.tx.checked lock (lock_of z (get_or reads j f).0) (rw h (same_default f)))
              (λ o. has_more w.tx.checked lock (lock_of z (get_or reads j f).0) (c.good j f (omega arith)));
          counted = (let a = c.counted in let b = ap (λ (u : View). u.count) e in omega arith);
        }
      where
        same_default : (f : ℕ × ℕ) → lock_of z (get_or reads k d).0 ≡ lock_of z (get_or reads k f).0
        same_default f = ap (λ (r : ℕ × ℕ). lock_of z r.0) (get_or_default reads k d f lt)

    pub checking_bad : (m : ℕ) (y : View) → y ≡ view_after z (check lock) w m → is_good (Some thread) snapshot m ≡ false → IsVoided z thread snapshot reads lock m v y
    checking_bad m y is bad =
        let e : y ≡ noticed (the_lock lock) m (record w { tx = record w.tx { hand = record w.tx.hand { void = true } } }) = is ∙ after_is m false bad in
        record {
          on = e ∙ (ap (λ (u : View). noticed (the_lock lock) m (record u { tx = record u.tx { hand = record u.tx.hand { void = true } } })) c.on)
              ∙ ap (λ (u : View). record v { tx = record v.tx { checked = u.tx.checked; hand = record v.tx.hand { void = true } }; found = u.found; count = u.count }) (sym e);
          found = ap (λ (u : View). u.found) e;
          of_read = has_lock z reads k d lt;
          bad = bad;
          counted = (let a = c.counted in let b = ap (λ (u : View). u.count) e in omega arith);
        }

  pub checking_end : (w : View) → Checking z (length reads) reads v w → IsChecked z reads v w
  checking_end w c = record { on = c.on; good = λ k d lt. c.good k d lt; counted = c.counted }
