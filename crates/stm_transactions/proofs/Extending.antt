-- An extension checks the locks of the reads up to the last new one.
use Rattle.std.proofs.Common.{◌≡◌, ℕ, zero, suc, ◌+◌, ◌<◌, ◌≤◌, ◌&&◌, eq-eqb, Bool, true, false, List, [], ◌∷◌, length, map, get_or, inr, inl, refl, sym, ap, ◌∙◌, subst, ne_eqb, arith, MatchBool}
use Rattle.std.specs.Prelude.{Option, Some, None}
use Rattle.std.proofs.lemmas.Bool.{true≢false}
use mathlib.Core.Logic.{dite}
use native.Mathlib.Decide.{dec_lt, ℕ_discrete}
use Rattle.core_events.specs.Setups.{Setup, lock_of}
use Rattle.core_events.specs.Keyed.{has}
use Rattle.core_events.specs.Views.{View, Transaction, the_lock}
use Rattle.core_events.specs.Events.{extend, check, is_good, noticed, all_checked, reaching, extending, checking, view_after}
use Rattle.core_events.specs.Conditions.{May}
use Rattle.stm_transactions.specs.Looks.{Extended, HasNewLock, IsOutdated, IsReading, Moved, RepeatFrom, Within, lock_at}
use Rattle.stm_transactions.specs.Seats.{HasRisen, IsOf}

-- the locks of the first k reads were found good, and no others; the view is on its way to n, or there
pub record Extending (z : Setup) (n k : ℕ) (reads : List (ℕ × ℕ)) (v w : View) : Type 0 where
  pub within : Within v w
  pub moved : Moved v.tx w.tx
  pub loaded : w.tx.loaded ≡ None
  pub good : (j : ℕ) → j < k → has w.tx.checked (lock_of z (get_or reads j (0, 0)).0) ≡ true
  pub only : (l : ℕ) → has w.tx.checked l ≡ true → (j : ℕ) × (j < k) × (lock_of z (get_or reads j (0, 0)).0 ≡ l)
  pub state : MatchBool (all_checked z w.tx.checked reads) ((w.tx.snapshot ≡ n) × (w.tx.extension ≡ None)) ((w.tx.snapshot ≡ v.tx.snapshot) × (w.tx.extension ≡ Some n))
  pub counted : HasRisen v.count w.count

and_true : (a b : Bool) → a ≡ true → b ≡ true → (a && b) ≡ true
and_true a b e f = rw (e, f) refl

and_first : (a b : Bool) → (a && b) ≡ true → a ≡ true
and_first true b e = refl
and_first false b e = absurd (true≢false (sym e))

and_second : (a b : Bool) → (a && b) ≡ true → b ≡ true
and_second true b e = e
and_second false b e = absurd (true≢false (sym e))

pub has_first : (cs : List ℕ) (l m : ℕ) → l ≡ m → has (l ∷ cs) m ≡ true
has_first cs l m e = rw (eq-eqb l m e) refl

pub has_more : (cs : List ℕ) (l m : ℕ) → has cs m ≡ true → has (l ∷ cs) m ≡ true
has_more cs l m e = dite (ℕ_discrete l m) (λ h. has_first cs l m h) (λ o. rw (ne_eqb l m o) e)

-- the lock of a read is among the locks of the reads
pub has_lock : (z : Setup) (reads : List (ℕ × ℕ)) (k : ℕ) (d : ℕ × ℕ) → k < length reads → has (map (λ r. lock_of z r.0) reads) (lock_of z (get_or reads k d).0) ≡ true
has_lock z [] k d lt = absurd (omega arith)
has_lock z (r ∷ rs) zero d lt = has_first (map (λ r. lock_of z r.0) rs) (lock_of z r.0) (lock_of z r.0) refl
has_lock z (r ∷ rs) (suc k) d lt = has_more (map (λ r. lock_of z r.0) rs) (lock_of z r.0) (lock_of z (get_or rs k d).0) (has_lock z rs k d (omega arith))

all_of_each : (z : Setup) (cs : List ℕ) (rs : List (ℕ × ℕ)) → ((j : ℕ) → j < length rs → has cs (lock_of z (get_or rs j (0, 0)).0) ≡ true) → all_checked z cs rs ≡ true
all_of_each z cs [] h = refl
all_of_each z cs (r ∷ rs) h = and_true (has cs (lock_of z r.0)) (all_checked z cs rs) (h 0 (omega arith)) (all_of_each z cs rs (λ j lt. h (suc j) (omega arith)))

each_of_all : (z : Setup) (cs : List ℕ) (rs : List (ℕ × ℕ)) (j : ℕ) → j < length rs → all_checked z cs rs ≡ true → has cs (lock_of z (get_or rs j (0, 0)).0) ≡ true
each_of_all z cs [] j lt e = absurd (omega arith)
each_of_all z cs (r ∷ rs) zero lt e = and_first (has cs (lock_of z r.0)) (all_checked z cs rs) e
each_of_all z cs (r ∷ rs) (suc j) lt e = each_of_all z cs rs j (omega arith) (and_second (has cs (lock_of z r.0)) (all_checked z cs rs) e)

not_all : (b : Bool) → (b ≡ true → ⊥) → b ≡ false
not_all true h = absurd (h refl)
not_all false h = refl

match_false : (A B : Type 0) (b : Bool) → b ≡ false → MatchBool b A B → B
match_false A B b e m = subst (λ (z : Bool). MatchBool z A B) e m

match_true : (A B : Type 0) (b : Bool) → b ≡ true → MatchBool b A B → A
match_true A B b e m = subst (λ (z : Bool). MatchBool z A B) e m

-- a step to the state by the test
reached : (n snap : ℕ) (b : Bool) (u : Transaction) → u.snapshot ≡ snap → MatchBool b (((reaching b n u).snapshot ≡ n) × ((reaching b n u).extension ≡ None)) (((reaching b n u).snapshot ≡ snap) × ((reaching b n u).extension ≡ Some n))
reached n snap true u e = (refl, refl)
reached n snap false u e = (e, refl)

reaching_moved : (n : ℕ) (b : Bool) (u : Transaction) → Moved u (reaching b n u) × ((reaching b n u).loaded ≡ u.loaded) × ((reaching b n u).checked ≡ u.checked)
reaching_moved n true u = (refl, refl, refl)
reaching_moved n false u = (refl, refl, refl)

pub moved_on : (x y w : Transaction) → Moved x y → Moved y w → Moved x w
moved_on x y w a b = b ∙ ap (λ (u : Transaction). record u { snapshot = w.snapshot; extension = w.extension; checked = w.checked; loaded = w.loaded }) a

pub within_on : (u v w : View) → Within u v → Within v w → Within u w
within_on u v w a b = b ∙ ap (λ (x : View). record x { tx = w.tx; found = w.found; count = w.count }) a

pub of_within : (thread : ℕ) (v w : View) → IsOf thread v → Within v w → IsOf thread w
of_within thread v w of a = record { live = ap (λ (x : View). x.part.is_spent) a ∙ of.live; its = ap (λ (x : View). x.part.thread) a ∙ of.its }

module _ (z : Setup) (thread snapshot : ℕ) (reads : List (ℕ × ℕ)) (v : View) (x : IsReading thread snapshot reads v) where
  pub extend_may : May z extend v
  extend_may = record { live = x.of.live; threaded = (thread, x.of.its); named = tt; can = x.steady.undrawn }

  module _ (n : ℕ) where
    pub extending_none : (w : View) → w ≡ view_after z extend v n → Extending z n 0 reads v w
    extending_none w is =
        let u : Transaction = record v.tx { checked = []; loaded = None } in let b = all_checked z [] v.tx.reads in let m = reaching_moved n b u in
        rw is (record {
          within = refl;
          moved = moved_on v.tx u (reaching b n u) refl m.0;
          loaded = m.1;
          good = λ j lt. absurd (omega arith);
          only = λ l h. absurd (true≢false (sym h ∙ ap (λ (cs : List ℕ). has cs l) m.2));
          state = subst (λ (c : Bool). MatchBool c (((reaching b n u).snapshot ≡ n) × ((reaching b n u).extension ≡ None)) (((reaching b n u).snapshot ≡ v.tx.snapshot) × ((reaching b n u).extension ≡ Some n)))
              (ap (all_checked z []) x.reads_are ∙ ap (λ (cs : List ℕ). all_checked z cs reads) (sym m.2)) (reached n v.tx.snapshot b u refl);
          counted = omega arith;
        })

    module _ (k last : ℕ) (w : View) (e : Extending z n k reads v w) (le : k ≤ last) (there : last < length reads) (fresh : HasNewLock z.locks reads last) where
      abbrev lock : ℕ
      lock = lock_of z (get_or reads k (0, 0)).0

      open_yet : (w.tx.snapshot ≡ v.tx.snapshot) × (w.tx.extension ≡ Some n)
      open_yet = match_false ((w.tx.snapshot ≡ n) × (w.tx.extension ≡ None)) ((w.tx.snapshot ≡ v.tx.snapshot) × (w.tx.extension ≡ Some n)) (all_checked z w.tx.checked reads) (not_all (all_checked z w.tx.checked reads) (λ a. let o = e.only (lock_at z.locks reads last) (each_of_all z w.tx.checked reads last there a) in fresh o.0 (let p = o.1 in omega arith) o.2)) e.state

      same_reads : w.tx.reads ≡ reads
      same_reads = ap (λ (y : Transaction). y.reads) e.moved ∙ x.reads_are

      its : IsOf thread w
      its = of_within thread v w x.of e.within

      pub check_may : lock < z.locks → May z (check lock) w
      check_may below = record {
        live = its.live;
        threaded = (thread, its.its);
        named = below;
        can = inr (record { no_value = e.loaded; of_read = rw same_reads (has_lock z reads k (0, 0) (omega arith)); why = inl (n, open_yet.1) });
      }

      after_is : (m : ℕ) (b : Bool) → is_good (Some thread) snapshot m ≡ b → view_after z (check lock) w m ≡ noticed (the_lock lock) m (record w { tx = extending z b n lock w.tx })
      after_is m b is =
          ap (λ (o : Option (ℕ × ℕ)). noticed (the_lock lock) m (record w { tx = checking z o w.tx.extension w.part.thread lock m w.tx })) e.loaded
          ∙ (ap (λ (o : Option ℕ). noticed (the_lock lock) m (record w { tx = checking z None o w.part.thread lock m w.tx })) open_yet.1
          ∙ (ap (λ (o : Option ℕ). noticed (the_lock lock) m (record w { tx = extending z (is_good o w.tx.snapshot m) n lock w.tx })) its.its
          ∙ ap (λ (c : Bool). noticed (the_lock lock) m (record w { tx = extending z c n lock w.tx })) (ap (λ (s : ℕ). is_good (Some thread) s m) (open_yet.0 ∙ x.snap) ∙ is)))

      pub extending_on : (m : ℕ) (y : View) → y ≡ view_after z (check lock) w m → is_good (Some thread) snapshot m ≡ true → Extending z n (k + 1) reads v y
      extending_on m y is good =
          let u : Transaction = record w.tx { checked = lock ∷ w.tx.checked } in let b = all_checked z (lock ∷ w.tx.checked) w.tx.reads in let q = reaching_moved n b u in
          let c = e.counted in
          rw (is ∙ after_is m true good) (record {
            within = within_on v w (noticed (the_lock lock) m (record w { tx = reaching b n u })) e.within refl;
            moved = moved_on v.tx w.tx (reaching b n u) e.moved (moved_on w.tx u (reaching b n u) refl q.0);
            loaded = q.1 ∙ e.loaded;
            good = λ i lt2. ap (λ (cs : List ℕ). has cs (lock_of z (get_or reads i (0, 0)).0)) q.2 ∙ dite (ℕ_discrete i k) (λ h. has_first w.tx.checked lock (lock_of z (get_or reads i (0, 0)).0) (rw h refl)) (λ o. has_more w.tx.checked lock (lock_of z (get_or reads i (0, 0)).0) (e.good i (omega arith)));
            only = λ l h. let g : has (lock ∷ w.tx.checked) l ≡ true = sym (ap (λ (cs : List ℕ). has cs l) q.2) ∙ h in dite (ℕ_discrete lock l) (λ s. (k, omega arith, s)) (λ o. let r = e.only l (let a = rw (ne_eqb lock l o) at g in a) in (r.0, (let p = r.1 in omega arith), r.2));
            state = subst (λ (c : Bool). MatchBool c (((reaching b n u).snapshot ≡ n) × ((reaching b n u).extension ≡ None)) (((reaching b n u).snapshot ≡ v.tx.snapshot) × ((reaching b n u).extension ≡ Some n)))
                (ap (all_checked z (lock ∷ w.tx.checked)) same_reads ∙ ap (λ (cs : List ℕ). all_checked z cs reads) (sym q.2)) (reached n v.tx.snapshot b u open_yet.0);
            counted = omega arith;
          })

      pub extending_bad : (m : ℕ) (y : View) → y ≡ view_after z (check lock) w m → is_good (Some thread) snapshot m ≡ false → Extended snapshot v y × IsOutdated z thread snapshot reads lock m × (y.found ≡ Some (the_lock lock, m)) × (HasRisen v.count y.count)
      extending_bad m y is bad =
          let c = e.counted in
          rw (is ∙ after_is m false bad) (
            record {
              within = within_on v w (noticed (the_lock lock) m (record w { tx = record w.tx { extension = None } })) e.within refl;
              moved = moved_on v.tx w.tx (record w.tx { extension = None }) e.moved refl;
              snap = open_yet.0 ∙ x.snap;
              ended = refl;
              counted = omega arith;
            },
            record { of_read = has_lock z reads k (0, 0) (omega arith); bad = bad },
            refl,
            omega arith,
          )

    -- the locks of the first reads were found good, and all others repeat them
    module _ (count : ℕ) (w : View) (e : Extending z n count reads v w) (behind : RepeatFrom z.locks reads count) where
      good_below : (bound k : ℕ) → k < bound → k < length reads → has w.tx.checked (lock_of z (get_or reads k (0, 0)).0) ≡ true
      good_below zero k lt there = absurd (omega arith)
      good_below (suc bound) k lt there = dite (dec_lt k count) (e.good k) (λ over.
          let r = behind k (omega arith) there in
          subst (λ l. has w.tx.checked l ≡ true) r.2 (good_below bound r.0 (let p = r.1 in omega arith) (let p = r.1 in omega arith)))

      pub extending_end : Extended n v w
      extending_end =
          let s = match_true ((w.tx.snapshot ≡ n) × (w.tx.extension ≡ None)) ((w.tx.snapshot ≡ v.tx.snapshot) × (w.tx.extension ≡ Some n)) (all_checked z w.tx.checked reads) (all_of_each z w.tx.checked reads (λ k. good_below (suc k) k (omega arith))) e.state in
          record { within = e.within; moved = e.moved; snap = s.0; ended = s.1; counted = (let c = e.counted in omega arith) }
