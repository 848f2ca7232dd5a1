-- The layer of numbers is kept.
use Rattle.std.proofs.Common.{◌≡◌, ◌≢◌, ℕ, zero, suc, ◌+◌, ◌<◌, ◌≤◌, ◌⊎◌, ◌==◌, Bool, true, false, List, [], ◌∷◌, ◌++◌, length, get_or, set, map, refl, sym, ap, ◌∙◌, subst, inl, inr, ⊎_elim, eq-eqb, arith, length-set, All}
use Rattle.std.specs.Prelude.{Option, Some, None, if◌then◌else◌}
use Rattle.std.proofs.lemmas.Bool.{true≢false}
use Rattle.std.proofs.lemmas.List.{map-set, set-get_or}
use mathlib.Core.Option.{some, some-injective, some-ne-none}
use mathlib.Core.Logic.{dite}
use native.Mathlib.Decide.{ℕ_discrete}
use lib.ListN.{get_elem?}
use Rattle.dude_base.specs.Records.{RedoRecord}
use Rattle.dude_base.specs.declared.write.Write.{Write}
use Rattle.core_events.specs.Setups.{Setup, box_of}
use Rattle.core_events.specs.Keyed.{has, or_else, change}
use Rattle.core_events.specs.Views.{Hand, View}
use Rattle.core_events.specs.Words.{State, found}
use Rattle.core_events.specs.Entries.{History}
use Rattle.core_events.specs.Events.{Event, number, extend, check, take, draw, decide, see_box, post, see_full, empty_box, name, looked_word, next_box, all_checked, view_after}
use Rattle.core_events.specs.Conditions.{IsAllowed, record_of, no_record, after}
use Rattle.core_events.specs.Partings.{newcomer, left_of, both_of, spent, MaySplit, MayJoin, split, join}
use Rattle.core_events.specs.Ghosts.{Place, in_view, in_box, behind_boxes, Ghost, ghost_after, voids, ghost_joined}
use Rattle.core_events.specs.KeptNumbers.{number_of, numbers_of, NumbersPlaced, DrawnPlaced, NumbersKept}
use Rattle.core_events.specs.KeptTurn.{TurnKept}
use Rattle.core_events.specs.Layers.{ThreadsIn, LocksIn}
use Rattle.core_events.proofs.Lists.{eq_of, at_set, at_snoc, set_here, set_else, there, at_map, unmoved, each_set, at_change}
use Rattle.core_events.proofs.Threads.{or_cases, or_right, has_append, not_true, at_longer}
use Rattle.core_events.proofs.TurnKept.{checking_number, taking_number, reaching_number}
use Rattle.core_events.proofs.Boxes.{box_inside, there_read}

-- the numbers of records
pub has_at : (rs : List RedoRecord) (j : ℕ) (d : RedoRecord) → j < length rs → has (numbers_of rs) (get_or rs j d).number ≡ true
has_at [] j d lt = absurd (omega arith)
has_at (r ∷ rs) zero d lt = rw (eq-eqb r.number r.number refl) refl
has_at (r ∷ rs) (suc j) d lt = or_right (r.number == (get_or rs j d).number) (has (numbers_of rs) (get_or rs j d).number) (has_at rs j d (omega arith))

read_record : (rs : List RedoRecord) (k : ℕ) (d r : RedoRecord) → get_elem? rs k ≡ some r → get_or rs k d ≡ r
read_record [] k d r e = absurd (some-ne-none r (sym e))
read_record (x ∷ xs) zero d r e = some-injective x r e
read_record (x ∷ xs) (suc k) d r e = read_record xs k d r e

all_cons : {X : Type 0} (P : X → Type 0) (a : X) (xs : List X) → P a → All P xs → All P (a ∷ xs)
all_cons P a xs h all zero d lt = h
all_cons P a xs h all (suc k) d lt = all k d (omega arith)

-- The number n leaves its place in a list of one kind of places, for one of another kind; the others of the list stay where they are.
module _ (first clock : ℕ) (place : ℕ → Place) (kind : ℕ → Place) (apart : (i j : ℕ) → kind i ≡ kind j → i ≡ j) (list : List ℕ) (n i : ℕ) (held : get_elem? list i ≡ some n) (to : Place) (away : (j : ℕ) → to ≡ kind j → ⊥)
    (listed : (m j : ℕ) → first < m → m ≤ clock → place m ≡ kind j → get_elem? list j ≡ some m) (placed : (m j : ℕ) → get_elem? list j ≡ some m → 0 < m → (place m ≡ kind j) × (first < m) × (m ≤ clock)) where
  left_listed : (m j : ℕ) → first < m → m ≤ clock → change place n to m ≡ kind j → get_elem? (set list i 0) j ≡ some m
  left_listed m j lt le e = ⊎_elim
      (λ t. absurd (away j (sym t.1 ∙ e)))
      (λ t. let old = listed m j lt le (sym t.1 ∙ e) in
      let other : j ≢ i = λ f. t.0 (some-injective m n (sym old ∙ (ap (get_elem? list) f ∙ held))) in
      set_else list i j 0 other ∙ old)
      (at_change place n to m)

  left_placed : 0 < n → (m j : ℕ) → get_elem? (set list i 0) j ≡ some m → 0 < m → (change place n to m ≡ kind j) × (first < m) × (m ≤ clock)
  left_placed pos m j e lt = ⊎_elim
      (λ t. absurd (let f = t.1 in omega arith))
      (λ t. let old = placed m j t.1 lt in
      let other : m ≢ n = λ f. t.0 (apart j i (sym old.0 ∙ (ap place f ∙ (placed n i held pos).0))) in
      (⊎_elim (λ u. absurd (other u.0)) (λ u. u.1) (at_change place n to m) ∙ old.0, old.1, old.2))
      (at_set list i j 0 m e)

module _ (first : ℕ) (place : ℕ → Place) (clock : ℕ) (numbers boxes persisted : List ℕ) (k : NumbersPlaced first place clock numbers boxes persisted) where
  -- the view id, which has no open number, draws the next one
  pub placed_draw : (id : ℕ) → get_elem? numbers id ≡ some 0 → first ≤ clock → NumbersPlaced first (change place (clock + 1) (in_view id)) (clock + 1) (set numbers id (clock + 1)) boxes persisted
  placed_draw id none_yet from =
      let n = clock + 1 in let at = at_change place n (in_view id) in
      let past : (m : ℕ) → m ≤ clock → change place n (in_view id) m ≡ place m = λ m le. ⊎_elim (λ t. absurd (let e = t.0 in omega arith)) (λ t. t.1) (at m) in
      let upto : (m : ℕ) → m ≢ n → m ≤ n → m ≤ clock = λ m o le. omega arith in
      record {
        in_views = λ m j lt le e. ⊎_elim
            (λ t. let f : in_view id ≡ in_view j = sym t.1 ∙ e in let same : id ≡ j = cc in rw (← same, t.0) (set_here numbers id n (there numbers id 0 none_yet)))
            (λ t. let old = k.in_views m j lt (upto m t.0 le) (sym t.1 ∙ e) in
            let other : j ≢ id = λ f. absurd (let g : m ≡ 0 = some-injective m 0 (sym old ∙ (ap (get_elem? numbers) f ∙ none_yet)) in omega arith) in
            set_else numbers id j n other ∙ old)
            (at m);
        of_views = λ m j e pos. ⊎_elim
            (λ t. (rw (← t.1) (⊎_elim (λ u. u.1 ∙ ap in_view (sym t.0)) (λ u. absurd (u.0 refl)) (at n)), (let f = t.1 in omega arith), (let f = t.1 in omega arith)))
            (λ t. let old = k.of_views m j t.1 pos in let le = old.2 in (past m old.2 ∙ old.0, old.1, omega arith))
            (at_set numbers id j n m e);
        in_boxes = λ m b lt le e. ⊎_elim
            (λ t. let f : in_view id ≡ in_box b = sym t.1 ∙ e in absurd cc)
            (λ t. k.in_boxes m b lt (upto m t.0 le) (sym t.1 ∙ e))
            (at m);
        of_boxes = λ m b e pos. let old = k.of_boxes m b e pos in let le = old.2 in (past m old.2 ∙ old.0, old.1, omega arith);
        behind = λ m lt le e. ⊎_elim
            (λ t. let f : in_view id ≡ behind_boxes = sym t.1 ∙ e in absurd cc)
            (λ t. k.behind m lt (upto m t.0 le) (sym t.1 ∙ e))
            (at m);
        of_persisted = λ m e. let old = k.of_persisted m e in let le = old.2 in (past m old.2 ∙ old.0, old.1, omega arith);
        once = k.once;
      }

  -- the open number n of the view id goes into the box b, which is empty
  pub placed_post : (id n b : ℕ) → get_elem? numbers id ≡ some n → 0 < n → get_elem? boxes b ≡ some 0 → NumbersPlaced first (change place n (in_box b)) clock (set numbers id 0) (set boxes b n) persisted
  placed_post id n b mine pos empty =
      let at = at_change place n (in_box b) in let had = k.of_views n id mine pos in
      let else_ : (m : ℕ) → m ≢ n → change place n (in_box b) m ≡ place m = λ m o. ⊎_elim (λ t. absurd (o t.0)) (λ t. t.1) (at m) in
      let now : change place n (in_box b) n ≡ in_box b = ⊎_elim (λ t. t.1) (λ t. absurd (t.0 refl)) (at n) in
      record {
        in_views = left_listed first clock place in_view (λ i j e. cc) numbers n id mine (in_box b) (λ j e. cc) k.in_views k.of_views;
        of_views = left_placed first clock place in_view (λ i j e. cc) numbers n id mine (in_box b) (λ j e. cc) k.in_views k.of_views pos;
        in_boxes = λ m a lt le e. ⊎_elim
            (λ t. let f : in_box b ≡ in_box a = sym t.1 ∙ e in let same : b ≡ a = cc in rw (← same, t.0) (set_here boxes b n (there boxes b 0 empty)))
            (λ t. let old = k.in_boxes m a lt le (sym t.1 ∙ e) in
            let other : a ≢ b = λ f. absurd (let g : m ≡ 0 = some-injective m 0 (sym old ∙ (ap (get_elem? boxes) f ∙ empty)) in omega arith) in
            set_else boxes b a n other ∙ old)
            (at m);
        of_boxes = λ m a e lt. ⊎_elim
            (λ t. (rw (← t.1) (now ∙ ap in_box (sym t.0)), rw (← t.1) had.1, rw (← t.1) had.2))
            (λ t. let old = k.of_boxes m a t.1 lt in
            let other : m ≢ n = λ f. let g : in_box a ≡ in_view id = sym old.0 ∙ (ap place f ∙ had.0) in cc in
            (else_ m other ∙ old.0, old.1, old.2))
            (at_set boxes b a n m e);
        behind = λ m lt le e. ⊎_elim
            (λ t. let f : in_box b ≡ behind_boxes = sym t.1 ∙ e in absurd cc)
            (λ t. k.behind m lt le (sym t.1 ∙ e))
            (at m);
        of_persisted = λ m e. let old = k.of_persisted m e in
            let other : m ≢ n = λ f. let g : behind_boxes ≡ in_view id = sym old.0 ∙ (ap place f ∙ had.0) in cc in
            (else_ m other ∙ old.0, old.1, old.2);
        once = k.once;
      }

  -- the number n leaves the box b
  pub placed_empty : (n b : ℕ) → get_elem? boxes b ≡ some n → 0 < n → NumbersPlaced first (change place n behind_boxes) clock numbers (set boxes b 0) (n ∷ persisted)
  placed_empty n b full pos =
      let at = at_change place n behind_boxes in let had = k.of_boxes n b full pos in
      let else_ : (m : ℕ) → m ≢ n → change place n behind_boxes m ≡ place m = λ m o. ⊎_elim (λ t. absurd (o t.0)) (λ t. t.1) (at m) in
      let now : change place n behind_boxes n ≡ behind_boxes = ⊎_elim (λ t. t.1) (λ t. absurd (t.0 refl)) (at n) in
      record {
        in_views = λ m j lt le e. ⊎_elim
            (λ t. let f : behind_boxes ≡ in_view j = sym t.1 ∙ e in absurd cc)
            (λ t. k.in_views m j lt le (sym t.1 ∙ e))
            (at m);
        of_views = λ m j e lt. let old = k.of_views m j e lt in
            let other : m ≢ n = λ f. let g : in_view j ≡ in_box b = sym old.0 ∙ (ap place f ∙ had.0) in cc in
            (else_ m other ∙ old.0, old.1, old.2);
        in_boxes = left_listed first clock place in_box (λ i j e. cc) boxes n b full behind_boxes (λ j e. cc) k.in_boxes k.of_boxes;
        of_boxes = left_placed first clock place in_box (λ i j e. cc) boxes n b full behind_boxes (λ j e. cc) k.in_boxes k.of_boxes pos;
        behind = λ m lt le e. ⊎_elim
            (λ t. rw (t.0, eq-eqb n n refl) refl)
            (λ t. or_right (n == m) (has persisted m) (k.behind m lt le (sym t.1 ∙ e)))
            (at m);
        of_persisted = λ m e. dite (ℕ_discrete m n)
            (λ same. rw same (now, had.1, had.2))
            (λ other. ⊎_elim
            (λ f. absurd (other (sym (eq_of n m f))))
            (λ f. let old = k.of_persisted m f in (else_ m other ∙ old.0, old.1, old.2))
            (or_cases (n == m) (has persisted m) e));
        once = (not_true (has persisted n) (λ f. let g : behind_boxes ≡ in_box b = sym (k.of_persisted n f).0 ∙ had.0 in cc), k.once);
      }

module _ (z : Setup) where
  -- numbers as they were, and writes of the open number of the view alone that changed
  numbers_rest : (g h : Ghost) (c d : State) (id : ℕ) (v w : View) → NumbersKept z g c → get_elem? c.views id ≡ some v → h.place ≡ g.place → d.clock ≡ c.clock → d.boxes ≡ c.boxes → d.records ≡ c.records → d.persisted ≡ c.persisted → d.views ≡ set c.views id w
      → w.tx.hand.number ≡ v.tx.hand.number → ((n : ℕ) → g.claims.pending n ≡ [] → h.claims.pending n ≡ []) → ((n : ℕ) → (g.place n ≡ in_view id → ⊥) → h.claims.hist n ≡ g.claims.hist n)
      → DrawnPlaced z c.boxes (numbers_of c.persisted) w → NumbersKept z h d
  numbers_rest g h c d id v w k at place clock boxes records persisted views same quiet firm mine =
      let numbers : map number_of d.views ≡ map number_of c.views = ap (map number_of) views ∙ unmoved number_of c.views id v w at same in
      record {
        placed = rw (numbers, place, clock, boxes, persisted) k.placed;
        records = rw (boxes, records, persisted) record {
          as_many = k.records.as_many;
          boxed = λ n b e pos. let old = k.records.boxed n b e pos in
              let is : h.claims.hist n ≡ g.claims.hist n = firm n (λ f. let o : in_view id ≡ in_box b = sym f ∙ (k.placed.of_boxes n b e pos).0 in cc) in
              (rw is old.0, quiet n old.1);
          kept = λ j r lt. let n : ℕ = (get_or c.persisted j r).number in let old = k.records.kept j r lt in
              (old.0 ∙ sym (firm n (λ f. let o : in_view id ≡ behind_boxes = sym f ∙ (k.placed.of_persisted n (has_at c.persisted j r lt)).0 in cc)), quiet n old.1);
        };
        drawn = λ j u e. rw (boxes, persisted) (each_set (λ j u. DrawnPlaced z c.boxes (numbers_of c.persisted) u) c.views id w mine (λ j u other at2. k.drawn j u at2) j u (rw (← views) e));
      }

  drawn_again : (boxes persisted : List ℕ) (v w : View) → w.drawn ≡ v.drawn → w.part.thread ≡ v.part.thread → w.tx.hand.number ≡ v.tx.hand.number → DrawnPlaced z boxes persisted v → DrawnPlaced z boxes persisted w
  drawn_again boxes persisted v w drawn thread same m = record { each = λ n e. rw (thread, same) (m.each n (ap (λ (l : List ℕ). has l n) (sym drawn) ∙ e)) }

  -- the same where boxes that are full stay, or their numbers are persisted
  drawn_on : (boxes boxes2 persisted persisted2 : List ℕ) (v : View) → ((n : ℕ) → has persisted n ≡ true → has persisted2 n ≡ true) → ((n b : ℕ) → get_elem? boxes b ≡ some n → 0 < n → (get_elem? boxes2 b ≡ some n) ⊎ (has persisted2 n ≡ true))
      → DrawnPlaced z boxes persisted v → DrawnPlaced z boxes2 persisted2 v
  drawn_on boxes boxes2 persisted persisted2 v more stays m = record {
    each = λ n e. let old = m.each n e in (
      old.0,
      ⊎_elim (λ t. inl t) (λ t. inr (⊎_elim
          (λ u. ⊎_elim (λ y. inl (u.0, u.1, u.2, u.3, y)) (λ y. inr y) (stays n (box_of z u.0 u.1) u.4 old.0))
          (λ u. inr (more n u)) t)) old.1,
    );
  }

  voids_quiet : (o : Option (ℕ × ℕ)) (s : Option ℕ) (b : Bool) (m : ℕ) (pending : History) (n : ℕ) → pending n ≡ [] → voids o s b m pending n ≡ []
  voids_quiet (Some p) s b m pending n e = e
  voids_quiet None (Some s) b m pending n e = e
  voids_quiet None None true m pending n e = e
  voids_quiet None None false m pending n e = ⊎_elim (λ t. t.1) (λ t. t.1 ∙ e) (at_change pending m [] n)

  -- the record of a number that is posted has the writes of its entry, or none
  posted_record : (g : Ghost) (h : Hand) → (h.decided ≡ true → g.claims.hist h.number ≡ h.writes) → (h.decided ≡ false → g.claims.hist h.number ≡ []) → record_of h ≡ record { number = h.number; writes = g.claims.hist h.number }
  posted_record g h decided none_yet = ap (λ (ws : List Write). record { number = h.number; writes = ws }) (by_case h.decided refl)
    where
      by_case : (b : Bool) → h.decided ≡ b → (if h.decided then h.writes else []) ≡ g.claims.hist h.number
      by_case true e = rw e (sym (decided e))
      by_case false e = rw e (sym (none_yet e))

  pub numbers_keep : (e : Event) (c : State) (id : ℕ) (v : View) (g : Ghost) → ThreadsIn z g c → LocksIn z g c → TurnKept z c → NumbersKept z g c → IsAllowed z c id e v → NumbersKept z (ghost_after z g c id v e) (after z c id v e)
  numbers_keep number c id v g s l t k a =
      numbers_rest g (ghost_after z g c id v number) c (after z c id v number) id v (view_after z number v c.threads) k a.is_there refl refl refl refl refl refl refl (λ n e. e) (λ n e. refl)
      record {
        each = λ n e. let old = (k.drawn id v a.is_there).each n e in (
          old.0,
          ⊎_elim (λ y. inl y) (λ y. inr (⊎_elim (λ u. let none_yet : v.part.thread ≡ None = a.may.can in let f : None ≡ Some u.0 = sym none_yet ∙ u.2 in absurd cc) (λ u. inr u) y)) old.1,
        );
      }
  numbers_keep extend c id v g s l t k a =
      let same = reaching_number (all_checked z [] v.tx.reads) c.clock (record v.tx { checked = []; loaded = None }) in
      numbers_rest g (ghost_after z g c id v extend) c (after z c id v extend) id v (view_after z extend v c.clock) k a.is_there refl refl refl refl refl refl same (λ n e. e) (λ n e. refl)
      (drawn_again c.boxes (numbers_of c.persisted) v (view_after z extend v c.clock) refl refl same (k.drawn id v a.is_there))
  numbers_keep (check i) c id v g s l t k a =
      let n : ℕ = get_or c.locks i 0 in let same = checking_number z v.tx.loaded v.tx.extension v.part.thread i n v.tx in
      numbers_rest g (ghost_after z g c id v (check i)) c (after z c id v (check i)) id v (view_after z (check i) v n) k a.is_there refl refl refl refl refl refl same (λ m e. voids_quiet v.tx.loaded v.tx.extension _ v.tx.hand.number g.claims.pending m e) (λ m e. refl)
      (drawn_again c.boxes (numbers_of c.persisted) v (view_after z (check i) v n) refl refl same (k.drawn id v a.is_there))
  numbers_keep (take i) c id v g s l t k a =
      let n : ℕ = get_or c.locks i 0 in let same = taking_number (n == looked_word v.tx.look) i n v.tx in
      numbers_rest g (ghost_after z g c id v (take i)) c (after z c id v (take i)) id v (view_after z (take i) v n) k a.is_there refl refl refl refl refl refl same (λ m e. e) (λ m e. refl)
      (drawn_again c.boxes (numbers_of c.persisted) v (view_after z (take i) v n) refl refl same (k.drawn id v a.is_there))
  numbers_keep decide c id v g s l t k a =
      let w : View = view_after z decide v (found c (name z decide v)) in let und = a.may.can.0 in
      let mine = (k.placed.of_views v.tx.hand.number id (at_map number_of c.views id v a.is_there) und.number).0 in
      numbers_rest g (ghost_after z g c id v decide) c (after z c id v decide) id v w k a.is_there refl refl refl refl refl refl refl
      (λ m e. ⊎_elim (λ y. y.1) (λ y. y.1 ∙ e) (at_change g.claims.pending v.tx.hand.number [] m))
      (λ m e. ⊎_elim (λ y. absurd (e (ap g.place y.0 ∙ mine))) (λ y. y.1) (at_change g.claims.hist v.tx.hand.number v.tx.hand.writes m))
      (drawn_again c.boxes (numbers_of c.persisted) v w refl refl refl (k.drawn id v a.is_there))
  numbers_keep see_box c id v g s l t k a =
      let b : ℕ = next_box z v in let w : View = view_after z see_box v (get_or c.boxes b 0) in
      numbers_rest g (ghost_after z g c id v see_box) c (after z c id v see_box) id v w k a.is_there refl refl (set-get_or c.boxes b 0) refl refl refl refl (λ n e. e) (λ n e. refl)
      (drawn_again c.boxes (numbers_of c.persisted) v w refl refl refl (k.drawn id v a.is_there))
  numbers_keep (see_full th j) c id v g s l t k a =
      let b : ℕ = box_of z th j in let w : View = view_after z (see_full th j) v (get_or c.boxes b 0) in
      numbers_rest g (ghost_after z g c id v (see_full th j)) c (after z c id v (see_full th j)) id v w k a.is_there refl refl (set-get_or c.boxes b 0) refl refl refl refl (λ n e. e) (λ n e. refl)
      (drawn_again c.boxes (numbers_of c.persisted) v w refl refl refl (k.drawn id v a.is_there))
  numbers_keep (draw b ws) c id v g s l t k a =
      let w : View = view_after z (draw b ws) v c.clock in let n = c.clock + 1 in let none_drawn = a.may.can.steady.undrawn.no_number in
      let mine : get_elem? (map number_of c.views) id ≡ some 0 = at_map number_of c.views id v a.is_there ∙ ap some none_drawn in
      let old = k.drawn id v a.is_there in
      record {
        placed = rw (map-set number_of c.views id w) (placed_draw z.first g.place c.clock (map number_of c.views) c.boxes (numbers_of c.persisted) k.placed id mine l.numbers.from);
        records = record {
          as_many = k.records.as_many;
          boxed = λ m x e pos. let o = k.records.boxed m x e pos in let le = (k.placed.of_boxes m x e pos).2 in (o.0, ⊎_elim (λ y. absurd (let f = y.0 in omega arith)) (λ y. y.1 ∙ o.1) (at_change g.claims.pending n ws m));
          kept = λ j r lt. let m : ℕ = (get_or c.persisted j r).number in let o = k.records.kept j r lt in let le = (k.placed.of_persisted m (has_at c.persisted j r lt)).2 in
              (o.0, ⊎_elim (λ y. absurd (let f = y.0 in omega arith)) (λ y. y.1 ∙ o.1) (at_change g.claims.pending n ws m));
        };
        drawn = each_set (λ j u. DrawnPlaced z c.boxes (numbers_of c.persisted) u) c.views id w (record {
          each = λ m e. ⊎_elim
              (λ h. let o = old.each m h in (o.0, ⊎_elim (λ y. absurd (let p = o.0 in omega arith)) (λ y. inr y) o.1))
              (λ h. let same : n ≡ m = ⊎_elim (λ y. eq_of n m y) (λ y. absurd (true≢false (sym y))) (or_cases (n == m) false h) in ((let p = same in omega arith), inl same))
              (has_append v.drawn (n ∷ []) m e);
        }) (λ j u other at2. k.drawn j u at2);
      }
  numbers_keep post c id v g s l t k a =
      let w : View = view_after z post v (found c (name z post v)) in let n : ℕ = v.tx.hand.number in let b : ℕ = next_box z v in let m = t.each id v a.is_there in let th = a.may.threaded in
      let num = (l.each id v a.is_there).number in
      let pos : 0 < n = ⊎_elim (λ y. (num.decided y).0) (λ y. (num.voided y).0) a.may.can.0 in
      let seen = m.seen.empty (m.seen.drawn pos) in
      let t_is : seen.0 ≡ th.0 = (let f : Some seen.0 ≡ Some th.0 = sym seen.1 ∙ th.1 in cc) in
      let b_is : b ≡ box_of z th.0 v.box.next = ap (λ (o : Option ℕ). box_of z (or_else o 0) v.box.next) th.1 in
      let below : th.0 < z.threads = (let mine = s.mine id th.0 v.part (at_map (λ (y : View). y.part) c.views id v a.is_there) th.1 in let lt = mine.2 in let sum = s.counted in omega arith) in
      let inside : b < length c.boxes = rw (b_is, t.sized) (box_inside z.boxes th.0 z.threads v.box.next below m.seen.place) in
      let was_zero : get_or c.boxes b 0 ≡ 0 = ap (λ (y : ℕ). get_or c.boxes y 0) (b_is ∙ ap (λ (y : ℕ). box_of z y v.box.next) (sym t_is)) ∙ seen.2 in
      let empty : get_elem? c.boxes b ≡ some 0 = there_read c.boxes b inside ∙ ap some was_zero in
      let is : record_of v.tx.hand ≡ record { number = n; writes = g.claims.hist n } = posted_record g v.tx.hand (λ y. (num.decided y).2) (λ y. ⊎_elim (λ x. absurd (true≢false (sym x ∙ y))) (λ x. (num.voided x).2) a.may.can.0) in
      let quiet : g.claims.pending n ≡ [] = ⊎_elim (λ y. (num.decided y).4) (λ y. (num.voided y).4) a.may.can.0 in
      let stays : (x y : ℕ) → get_elem? c.boxes y ≡ some x → 0 < x → get_elem? (set c.boxes b n) y ≡ some x = λ x y e p.
      set_else c.boxes b y n (λ f. absurd (let o : x ≡ 0 = some-injective x 0 (sym e ∙ (ap (get_elem? c.boxes) f ∙ empty)) in omega arith)) ∙ e in
      let on : (u : View) → DrawnPlaced z c.boxes (numbers_of c.persisted) u → DrawnPlaced z (set c.boxes b n) (numbers_of c.persisted) u = λ u h. drawn_on c.boxes (set c.boxes b n) (numbers_of c.persisted) (numbers_of c.persisted) u (λ x e. e) (λ x y e p. inl (stays x y e p)) h in
      let mine = on v (k.drawn id v a.is_there) in
      record {
        placed = rw (map-set number_of c.views id w) (placed_post z.first g.place c.clock (map number_of c.views) c.boxes (numbers_of c.persisted) k.placed id n b (at_map number_of c.views id v a.is_there) pos empty);
        records = record {
          as_many = length-set c.records b (record_of v.tx.hand) ∙ (k.records.as_many ∙ sym (length-set c.boxes b n));
          boxed = λ x y e p. ⊎_elim
              (λ o. (rw (o.0, ← o.1) (set_here c.records b (record_of v.tx.hand) (let size = k.records.as_many in omega arith) ∙ ap some is), rw (← o.1) quiet))
              (λ o. let old = k.records.boxed x y o.1 p in (set_else c.records b y (record_of v.tx.hand) o.0 ∙ old.0, old.1))
              (at_set c.boxes b y n x e);
          kept = k.records.kept;
        };
        drawn = each_set (λ j u. DrawnPlaced z (set c.boxes b n) (numbers_of c.persisted) u) c.views id w (record {
          each = λ x e. let old = mine.each x e in (
            old.0,
            ⊎_elim (λ y. inr (inl (th.0, v.box.next, th.1, m.seen.place, rw (← b_is, ← y) (set_here c.boxes b n inside)))) (λ y. inr y) old.1,
          );
        }) (λ j u other at2. on u (k.drawn j u at2));
      }
  numbers_keep (empty_box th j) c id v g s l t k a =
      let b : ℕ = box_of z th j in let n : ℕ = get_or c.boxes b 0 in let w : View = view_after z (empty_box th j) v n in let r : RedoRecord = get_or c.records b no_record in
      let inside : b < length c.boxes = rw t.sized (box_inside z.boxes th z.threads j a.may.named.0 a.may.named.1) in
      let full : get_elem? c.boxes b ≡ some n = there_read c.boxes b inside in
      let old = k.records.boxed n b full a.fits in
      let r_is : r ≡ record { number = n; writes = g.claims.hist n } = read_record c.records b no_record _ old.0 in
      let number_is : r.number ≡ n = ap (λ (y : RedoRecord). y.number) r_is in
      let on : (u : View) → DrawnPlaced z c.boxes (numbers_of c.persisted) u → DrawnPlaced z (set c.boxes b 0) (numbers_of (r ∷ c.persisted)) u = λ u h.
      drawn_on c.boxes (set c.boxes b 0) (numbers_of c.persisted) (numbers_of (r ∷ c.persisted)) u (λ x e. or_right (r.number == x) _ e)
      (λ x y e p. dite (ℕ_discrete y b)
      (λ same. inr (let o : x ≡ n = some-injective x n (sym e ∙ (ap (get_elem? c.boxes) same ∙ full)) in rw (number_is, o, eq-eqb n n refl) refl))
      (λ other. inl (set_else c.boxes b y 0 other ∙ e))) h in
      record {
        placed = rw (number_is, unmoved number_of c.views id v w a.is_there refl) (placed_empty z.first g.place c.clock (map number_of c.views) c.boxes (numbers_of c.persisted) k.placed n b full a.fits);
        records = record {
          as_many = length-set c.records b no_record ∙ (k.records.as_many ∙ sym (length-set c.boxes b 0));
          boxed = λ x y e p. ⊎_elim
              (λ o. absurd (let f = o.1 in omega arith))
              (λ o. let q = k.records.boxed x y o.1 p in (set_else c.records b y no_record o.0 ∙ q.0, q.1))
              (at_set c.boxes b y 0 x e);
          kept = all_cons (λ (y : RedoRecord). (y.writes ≡ g.claims.hist y.number) × (g.claims.pending y.number ≡ [])) r c.persisted (rw r_is (refl, old.1)) k.records.kept;
        };
        drawn = each_set (λ i u. DrawnPlaced z (set c.boxes b 0) (numbers_of (r ∷ c.persisted)) u) c.views id w
            (drawn_again (set c.boxes b 0) (numbers_of (r ∷ c.persisted)) v w refl refl refl (on v (k.drawn id v a.is_there))) (λ i u other at2. on u (k.drawn i u at2));
      }
  numbers_keep e c id v g s l t k a =
      let w : View = view_after z e v (found c (name z e v)) in
      numbers_rest g (ghost_after z g c id v e) c (after z c id v e) id v w k a.is_there refl refl refl refl refl refl refl (λ n h. h) (λ n h. refl)
      (drawn_again c.boxes (numbers_of c.persisted) v w refl refl refl (k.drawn id v a.is_there))

  map_snoc : (l : List View) (a : View) → map number_of (l ++ a ∷ []) ≡ map number_of l ++ number_of a ∷ []
  map_snoc [] a = refl
  map_snoc (x ∷ xs) a = ap (λ (h : List ℕ). number_of x ∷ h) (map_snoc xs a)

  nothing_drawn : (boxes persisted : List ℕ) (u : View) → u.drawn ≡ [] → DrawnPlaced z boxes persisted u
  nothing_drawn boxes persisted u none_drawn = record { each = λ n e. absurd (true≢false (sym (let f : has [] n ≡ true = rw none_drawn at e in f))) }

  -- one more view, without a number
  placed_more : (place : ℕ → Place) (clock : ℕ) (numbers boxes persisted : List ℕ) → NumbersPlaced z.first place clock numbers boxes persisted → NumbersPlaced z.first place clock (numbers ++ 0 ∷ []) boxes persisted
  placed_more place clock numbers boxes persisted k = record {
    in_views = λ n j lt le e. at_longer numbers (0 ∷ []) j n (k.in_views n j lt le e);
    of_views = λ n j e pos. ⊎_elim (λ t. k.of_views n j t pos) (λ t. absurd (let f = t.0 in omega arith)) (at_snoc numbers 0 n j e);
    in_boxes = k.in_boxes;
    of_boxes = k.of_boxes;
    behind = k.behind;
    of_persisted = k.of_persisted;
    once = k.once;
  }

  pub numbers_split_keep : (c : State) (id draws : ℕ) (v : View) (g : Ghost) → NumbersKept z g c → MaySplit c id v draws → NumbersKept z g (split z c id v draws)
  numbers_split_keep c id draws v g k may =
      let w = left_of draws v in let n = newcomer z 0 draws in let vs : List View = set c.views id w in
      let numbers : map number_of (vs ++ n ∷ []) ≡ map number_of c.views ++ 0 ∷ [] = map_snoc vs n ∙ ap (λ (l : List ℕ). l ++ 0 ∷ []) (unmoved number_of c.views id v w may.is_there refl) in
      record {
        placed = rw numbers (placed_more g.place c.clock (map number_of c.views) c.boxes (numbers_of c.persisted) k.placed);
        records = k.records;
        drawn = λ j u e. ⊎_elim
            (λ t. each_set (λ i y. DrawnPlaced z c.boxes (numbers_of c.persisted) y) c.views id w (drawn_again c.boxes (numbers_of c.persisted) v w refl refl refl (k.drawn id v may.is_there)) (λ i y other at2. k.drawn i y at2) j u t)
            (λ t. subst (λ (y : View). DrawnPlaced z c.boxes (numbers_of c.persisted) y) t.0 (nothing_drawn c.boxes (numbers_of c.persisted) n refl))
            (at_snoc vs n u j e);
      }

  pub numbers_join_keep : (c : State) (id other : ℕ) (v w : View) (g : Ghost) → NumbersKept z g c → MayJoin c id v other w → NumbersKept z (ghost_joined g id other) (join z c id v other w)
  numbers_join_keep c id other v w g k may =
      let both = both_of v w in let gone = spent z in let vs : List View = set c.views id both in
      let numbers : map number_of (set vs other gone) ≡ map number_of c.views = map-set number_of vs other gone ∙ (ap (λ (l : List ℕ). set l other 0) (unmoved number_of c.views id v both may.is_there refl)
      ∙ (sym (map-set number_of c.views other gone) ∙ unmoved number_of c.views other w gone may.other_there (sym may.other_idle.no_number))) in
      record {
        placed = rw numbers k.placed;
        records = k.records;
        drawn = each_set (λ i y. DrawnPlaced z c.boxes (numbers_of c.persisted) y) vs other gone (nothing_drawn c.boxes (numbers_of c.persisted) gone refl)
            (λ j u apart at2. each_set (λ i y. DrawnPlaced z c.boxes (numbers_of c.persisted) y) c.views id both (drawn_again c.boxes (numbers_of c.persisted) v both refl refl refl (k.drawn id v may.is_there)) (λ i y o at3. k.drawn i y at3) j u at2);
      }
