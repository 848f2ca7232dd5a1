-- The layer of locks and reads, where a view is split in two and where two are joined.
use Rattle.std.proofs.Common.{◌≡◌, ◌≢◌, ℕ, ◌*◌, ◌≤◌, List, [], ◌∷◌, ◌++◌, length, set, map, refl, ap, ◌∙◌, subst, inl, inr, ⊎_elim, arith, length-set, length-append}
use Rattle.std.specs.Prelude.{Some}
use mathlib.Core.Option.{some}
use lib.ListN.{get_elem?}
use Rattle.core_events.specs.Setups.{Setup, lock_of}
use Rattle.core_events.specs.Keyed.{find}
use Rattle.core_events.specs.Views.{Hand, View}
use Rattle.core_events.specs.Events.{no_hand}
use Rattle.core_events.specs.Ghosts.{taken, writing, Claims}
use Rattle.core_events.specs.Partings.{newcomer, left_of, both_of, spent}
use Rattle.core_events.specs.KeptLocks.{hand_of, draws_of, Knows, LocksKept}
use Rattle.core_events.proofs.Lists.{at_set, at_snoc, set_else, unmoved, total_set}
use Rattle.core_events.proofs.Stays.{new_hand, new_knows}
use Rattle.core_events.proofs.Threads.{at_longer, total_snoc}

map_snoc : (l : List View) (a : View) → map hand_of (l ++ a ∷ []) ≡ map hand_of l ++ hand_of a ∷ []
map_snoc [] a = refl
map_snoc (x ∷ xs) a = ap (λ (h : List Hand). x.tx.hand ∷ h) (map_snoc xs a)

module _ (z : Setup) (q : Claims) (thread : ℕ → ℕ) (clock : ℕ) (locks : List ℕ) (views : List View) (k : LocksKept z q thread clock locks views) where
  pub locks_split : (id draws : ℕ) (v : View) → get_elem? views id ≡ some v → draws ≤ v.draws → LocksKept z q thread clock locks (set views id (left_of draws v) ++ newcomer z 0 draws ∷ [])
  locks_split id draws v at enough =
      let w = left_of draws v in let vs : List View = set views id w in
      let hands : map hand_of vs ≡ map hand_of views = unmoved hand_of views id v w at refl in
      let count : length vs ≡ length views = length-set views id w in
      let sums = total_set draws_of views id v w at in
      let more = total_snoc draws_of vs (newcomer z 0 draws) in
      let longer : (j : ℕ) (h : Hand) → get_elem? (map hand_of views) j ≡ some h → get_elem? (map hand_of (vs ++ newcomer z 0 draws ∷ [])) j ≡ some h
      = λ j h e. rw (map_snoc vs (newcomer z 0 draws), hands) (at_longer (map hand_of views) (no_hand ∷ []) j h e) in
      record {
        owned = record {
          shows = k.owned.shows;
          upto = k.owned.upto;
          covered = λ n i x lt f. let o = k.owned.covered n i x lt f in (o.0, o.1, o.2, o.3, longer o.0 o.2 o.4, o.5);
        };
        undecided = record { waiting = λ n i x f. let o = k.undecided.waiting n i x f in (o.0, o.1, o.2, o.3, longer o.0 o.2 o.4, o.5, o.6) };
        numbers = k.numbers;
        each = λ j u e. ⊎_elim
            (λ t. ⊎_elim
            (λ a. subst (λ (y : View). Knows z q clock j y.part.thread y.tx) a.1 (rw a.0 (k.each id v at)))
            (λ a. k.each j u a.1) (at_set views id j w u t))
            (λ t. subst (λ (y : View). Knows z q clock j y.part.thread y.tx) t.0
            (new_knows z q clock j (λ i x e2. let h = k.seated i j x (inl e2) in let n = t.1 in omega arith) (λ i x e2. let h = k.seated i j x (inr e2) in let n = t.1 in omega arith)))
            (at_snoc vs (newcomer z 0 draws) u j e);
        seated = λ i j u e. let h = k.seated i j u e in let n = length-append vs (newcomer z 0 draws ∷ []) in omega arith;
        bounded = let s = k.bounded in omega arith;
      }

  pub locks_join : (id other : ℕ) (v w : View) → get_elem? views id ≡ some v → other ≢ id → get_elem? views other ≡ some w → w.tx.owned ≡ [] → LocksKept z q thread clock locks (set (set views id (both_of v w)) other (spent z))
  locks_join id other v w at apart at2 none_owned =
      let m = k.each id v at in let m2 = k.each other w at2 in let both = both_of v w in let gone = spent z in let vs : List View = set views id both in
      let at3 : get_elem? vs other ≡ some w = set_else views id other both apart ∙ at2 in
      let free : (i u : ℕ) → q.lock i ≡ taken other u → ⊥ = λ i u e. let f : find [] i ≡ Some (2 * u) = rw none_owned at (m2.owns.has_taken i u e).1 in absurd cc in
      let calm : (i u : ℕ) → q.lock i ≡ writing other u → ⊥ = λ i u e. let f : find [] i ≡ Some (2 * u) = rw none_owned at (m2.owns.has_writing i u e).1 in absurd cc in
      let s1 = total_set draws_of views id v both at in let s2 = total_set draws_of vs other w gone at3 in
      let n1 = length-set views id both in let n2 = length-set vs other gone in
      let hand_on : (j : ℕ) (h : Hand) → j ≢ other → get_elem? (map hand_of views) j ≡ some h → get_elem? (map hand_of (set vs other gone)) j ≡ some h
      = λ j h o got. let one : get_elem? (map hand_of vs) j ≡ some h = ⊎_elim (λ t. rw t.1 t.2) (λ t. t.1) (new_hand views id v both at j h got) in
      ⊎_elim (λ t. absurd (o t.0)) (λ t. t.1) (new_hand vs other w gone at3 j h one) in
      let writer : (i j u : ℕ) → q.lock i ≡ writing j u → j ≢ other = λ i j u e s. calm i u (rw s at e) in
      let taker : (i j u : ℕ) → q.lock i ≡ taken j u → j ≢ other = λ i j u e s. free i u (rw s at e) in
      record {
        owned = record {
          shows = k.owned.shows;
          upto = k.owned.upto;
          covered = λ n i x lt f. let o = k.owned.covered n i x lt f in (o.0, o.1, o.2, o.3, hand_on o.0 o.2 (writer (lock_of z i) o.0 o.1 o.3) o.4, o.5);
        };
        undecided = record { waiting = λ n i x f. let o = k.undecided.waiting n i x f in (o.0, o.1, o.2, o.3, hand_on o.0 o.2 (taker (lock_of z i) o.0 o.1 o.3) o.4, o.5, o.6) };
        numbers = k.numbers;
        each = λ j u e. ⊎_elim
            (λ t. subst (λ (y : View). Knows z q clock j y.part.thread y.tx) t.1 (rw t.0 (new_knows z q clock other free calm)))
            (λ t. ⊎_elim
            (λ a. subst (λ (y : View). Knows z q clock j y.part.thread y.tx) a.1 (rw a.0 m))
            (λ a. k.each j u a.1) (at_set views id j both u t.1))
            (at_set vs other j gone u e);
        seated = λ i j u e. let h = k.seated i j u e in omega arith;
        bounded = let s = k.bounded in omega arith;
      }
