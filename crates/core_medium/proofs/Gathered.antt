-- What a bundle that is made of records in boxes is.
use Rattle.std.proofs.Common.{◌≡◌, ◌≢◌, ◌==◌, ℕ, zero, suc, ◌+◌, ◌*◌, ◌<◌, ◌≤◌, List, [], ◌∷◌, length, get_or, map, refl, sym, ap, ◌∙◌, subst, inl, inr, eq-eqb, ne_eqb, arith, All, if◌then◌else◌}
use Rattle.std.specs.Prelude.{Option, Some, None, is_some}
use Rattle.std.specs.Option.{option_or}
use Rattle.std.proofs.lemmas.Bool.{cases_eq, cases_Bool}
use Rattle.std.proofs.lemmas.List.{length-map}
use Rattle.std.proofs.lemmas.List.Quantifiers.{all_pairs_push}
use mathlib.Core.Option.{some}
use mathlib.Core.Logic.{dite}
use native.Mathlib.Decide.{dec_lt}
use lib.ListN.{get_elem?}
use Rattle.dude_base.specs.declared.limits.TheConstants.{PAGE, MAX_SPAN, MAX_BUNDLE_WRITES}
use Rattle.dude_base.specs.declared.write.Write.{Write}
use Rattle.dude_base.specs.Records.{RedoRecord, RedoBundle, first_of, Covers, bundle_of, with_next}
use Rattle.dude_base.specs.Joins.{CanJoin}
use Rattle.dude_base.specs.Writes.{written, put_write, put_all, HasDistinctPlaces, AreWrites}
use Rattle.dude_base.proofs.Joining.{joining_law}
use Rattle.dude_base.proofs.WriteLists.{None-from_is_some, absent_written}
use Rattle.redo_record.specs.LogState.{LogState}
use Rattle.core_events.specs.Setups.{Setup, box_of}
use Rattle.core_events.specs.Words.{State}
use Rattle.core_events.specs.Entries.{History}
use Rattle.core_events.specs.Ghosts.{Ghost}
use Rattle.core_events.specs.Kept.{LayersKept}
use Rattle.core_medium.specs.KeptLog.{last_write, IsOnMedium}
use Rattle.core_medium.specs.BoxBundles.{boxed, IsUnpersisted, joined, AllJoin, bundle_in, MayGather}
use Rattle.core_medium.proofs.Posted.{full_box, full_record, posted_upto}

-- ---- writes of different words, with one more or with many
at_renewed : (w : Write) (ws : List Write) (k : ℕ) (d : Write) → k < length ws → (get_or (map (λ v. if v.at == w.at then w else v) ws) k d).at ≡ (get_or ws k d).at
at_renewed w [] k d lt = absurd (omega arith)
at_renewed w (v ∷ vs) zero d lt = elim (cases_eq v.at w.at) [ inl same ↦ rw (eq-eqb v.at w.at same) (sym same) | inr other ↦ rw (ne_eqb v.at w.at other) refl ]
at_renewed w (v ∷ vs) (suc k) d lt = at_renewed w vs k d (omega arith)

distinct_put : (ws : List Write) (w : Write) → HasDistinctPlaces ws → HasDistinctPlaces (put_write ws w)
distinct_put ws w distinct = elim (cases_Bool (is_some (written ws w.at))) [
  | inl there ↦ rw there (λ i j d ij jl.
      let long = length-map ws (λ (v : Write). if v.at == w.at then w else v) in
      let lj : j < length ws = omega arith in
      λ same. distinct i j d ij lj (sym (at_renewed w ws i d (omega arith)) ∙ same ∙ at_renewed w ws j d lj))
  | inr new ↦ rw new (all_pairs_push (λ (v u : Write). v.at ≢ u.at) ws w distinct (absent_written ws w.at (None-from_is_some _ new)))
]

distinct_put_all : (ws vs : List Write) → HasDistinctPlaces ws → HasDistinctPlaces (put_all ws vs)
distinct_put_all ws [] distinct = distinct
distinct_put_all ws (v ∷ vs) distinct = distinct_put_all (put_write ws v) vs (distinct_put ws v distinct)

-- each write is one of a written word
pub inside_all : (words : ℕ) (ws : List Write) → ((i x : ℕ) → written ws i ≡ Some x → i < words) → All (λ w. w.at < words) ws
inside_all words ws inside n e lt = at_word ws n e lt
  where
    at_head : (w : Write) (ws : List Write) → (x : ℕ) × (written (w ∷ ws) w.at ≡ Some x)
    at_head w ws = (w.value, rw (eq-eqb w.at w.at refl) refl)

    somewhere : (ws : List Write) (n : ℕ) (e : Write) → n < length ws → (x : ℕ) × (written ws (get_or ws n e).at ≡ Some x)
    somewhere [] n e lt = absurd (omega arith)
    somewhere (w ∷ ws) zero e lt = at_head w ws
    somewhere (w ∷ ws) (suc n) e lt =
        let rest = somewhere ws n e (omega arith) in
        elim (cases_eq w.at (get_or ws n e).at) [
          | inl same ↦ (w.value, rw (eq-eqb w.at (get_or ws n e).at same) refl)
          | inr other ↦ (rest.0, rw (ne_eqb w.at (get_or ws n e).at other) rest.1)
        ]

    at_word : (ws2 : List Write) (n : ℕ) (e : Write) → n < length ws → (get_or ws n e).at < words
    at_word ws2 n e lt = let s = somewhere ws n e lt in inside (get_or ws n e).at s.0 s.1

-- one number more
last_next : (hist : History) (first more i : ℕ) → last_write hist first (more + 1) i ≡ option_or (written (hist (first + (more + 1))) i) (last_write hist first more i)
last_next hist first more i = let e : more + 1 ≡ suc more = omega arith in rw e refl

-- the words that the last of some numbers wrote are words that one of them wrote
last_inside : (hist : History) (words : ℕ) → ((n i x : ℕ) → written (hist n) i ≡ Some x → i < words) → (first more i x : ℕ) → last_write hist first more i ≡ Some x → i < words
last_inside hist words inside first zero i x e = inside first i x e
last_inside hist words inside first (suc more) i x e = by (last_inside hist words inside first more i x) (written (hist (first + suc more)) i) refl e
  where
    by : (last_write hist first more i ≡ Some x → i < words) → (o : Option ℕ) → written (hist (first + suc more)) i ≡ o → option_or o (last_write hist first more i) ≡ Some x → i < words
    by before None is later = before later
    by before (Some y) is later = inside (first + suc more) i y is

-- What is known of a bundle that is made of records in boxes: its numbers are in boxes, none is on the medium, and it has their last writes
pub record Gathered (hist : History) (boxes : List ℕ) (l : LogState) (b : RedoBundle) : Type 0 where
  pub whole : b.span < b.last
  pub short : b.span ≤ MAX_SPAN
  pub list : AreWrites MAX_BUNDLE_WRITES b.writes
  pub in_box : (n : ℕ) → Covers b n → (k : ℕ) × (get_elem? boxes k ≡ some n)
  pub absent : (n : ℕ) → Covers b n → IsOnMedium l n → ⊥
  pub last_writes : (i : ℕ) → written b.writes i ≡ last_write hist (first_of b) b.span i

module _ (z : Setup) (g : Ghost) (c : State) (k : LayersKept z g c) (l : LogState) where
  -- the record in a box, by its number
  module _ (t j : ℕ) (u : IsUnpersisted z c.boxes l t j) where
    abbrev number : ℕ
    number = get_or c.boxes (box_of z t j) 0

    pub record_is : boxed z c.records t j ≡ record { number = number; writes = g.claims.hist number }
    record_is = full_record z g c k t j u.thread u.place u.full

    pub number_is : (boxed z c.records t j).number ≡ number
    number_is = ap (λ (r : RedoRecord). r.number) record_is

    pub writes_are : (boxed z c.records t j).writes ≡ g.claims.hist number
    writes_are = ap (λ (r : RedoRecord). r.writes) record_is

    pub box_there : get_elem? c.boxes (box_of z t j) ≡ some number
    box_there = full_box z g c k t j u.thread u.place

    one_gathered : Gathered g.claims.hist c.boxes l (bundle_of (boxed z c.records t j))
    one_gathered =
        let same = number_is in let full = u.full in let lists = (k.locks.numbers.lists number).0 in let few = lists.few in record {
          whole = omega arith;
          short = omega arith;
          list = rw writes_are (record { few = omega arith; distinct = lists.distinct });
          in_box = λ n cov. let low = cov.low in let high = cov.high in let is : number ≡ n = omega arith in (box_of z t j, rw (← is) box_there);
          absent = λ n cov. let low = cov.low in let high = cov.high in let is : number ≡ n = omega arith in subst (λ (m : ℕ). IsOnMedium l m → ⊥) is u.absent;
          last_writes = λ i. ap (λ (ws : List Write). written ws i) writes_are ∙ ap (λ (m : ℕ). written (g.claims.hist m) i) (let is : number ≡ first_of (bundle_of (boxed z c.records t j)) = omega arith in is);
        }

    -- the record joins a bundle
    more_gathered : (b : RedoBundle) → Gathered g.claims.hist c.boxes l b → CanJoin b (boxed z c.records t j) → Gathered g.claims.hist c.boxes l (with_next b (boxed z c.records t j))
    more_gathered b gb can =
        let same = number_is in let whole = gb.whole in let next = can.next in let lists = (k.locks.numbers.lists number).0 in
        let is : number ≡ b.last + 1 = omega arith in
        let first : first_of (with_next b (boxed z c.records t j)) ≡ first_of b = omega arith in
        let at : first_of b + (b.span + 1) ≡ number = omega arith in
        record {
          whole = omega arith;
          short = (let short = can.short in omega arith);
          list = record { few = can.narrow; distinct = distinct_put_all b.writes (boxed z c.records t j).writes gb.list.distinct };
          in_box = λ n cov. let low = cov.low in let high = cov.high in dite (dec_lt b.last n)
              (λ over. let here : number ≡ n = omega arith in (box_of z t j, rw (← here) box_there))
              (λ under. gb.in_box n (record { low = omega arith; high = omega arith }));
          absent = λ n cov. let low = cov.low in let high = cov.high in dite (dec_lt b.last n)
              (λ over. let here : number ≡ n = omega arith in subst (λ (m : ℕ). IsOnMedium l m → ⊥) here u.absent)
              (λ under. gb.absent n (record { low = omega arith; high = omega arith }));
          last_writes = λ i.
              joining_law.writes b (boxed z c.records t j) i (rw writes_are lists.distinct)
              ∙ (ap (λ (o : Option ℕ). option_or (written (boxed z c.records t j).writes i) o) (gb.last_writes i)
              ∙ (ap (λ (ws : List Write). option_or (written ws i) (last_write g.claims.hist (first_of b) b.span i)) writes_are
              ∙ (ap (λ (m : ℕ). option_or (written (g.claims.hist m) i) (last_write g.claims.hist (first_of b) b.span i)) (sym at)
              ∙ (sym (last_next g.claims.hist (first_of b) b.span i) ∙ ap (λ (m : ℕ). last_write g.claims.hist m (b.span + 1) i) (sym first)))));
        }

  all_gathered : (more : List (ℕ × ℕ)) (b : RedoBundle) → Gathered g.claims.hist c.boxes l b → AllJoin z c.boxes c.records l b more → Gathered g.claims.hist c.boxes l (joined z c.records b more) × (first_of (joined z c.records b more) ≡ first_of b)
  all_gathered [] b gb all = (gb, refl)
  all_gathered (p ∷ ps) b gb all =
      let next = (all.1).next in let whole = gb.whole in
      let rest = all_gathered ps (with_next b (boxed z c.records p.0 p.1)) (more_gathered p.0 p.1 all.0 b gb all.1) all.2 in
      (rest.0, rest.1 ∙ (let e : first_of (with_next b (boxed z c.records p.0 p.1)) ≡ first_of b = omega arith in e))

  module _ (t j : ℕ) (more : List (ℕ × ℕ)) (m : MayGather z c.boxes c.records l t j more) where
    pub gathered : Gathered g.claims.hist c.boxes l (bundle_in z c.records t j more)
    gathered = (all_gathered more (bundle_of (boxed z c.records t j)) (one_gathered t j m.first) m.join).0

    -- its first number is that in the box
    pub first_is : first_of (bundle_in z c.records t j more) ≡ get_or c.boxes (box_of z t j) 0
    first_is =
        let same = number_is t j m.first in
        (all_gathered more (bundle_of (boxed z c.records t j)) (one_gathered t j m.first) m.join).1 ∙ (let e : first_of (bundle_of (boxed z c.records t j)) ≡ get_or c.boxes (box_of z t j) 0 = omega arith in e)

    -- its writes are of home words
    pub inside_home : All (λ w. w.at < z.pages * PAGE) (bundle_in z c.records t j more).writes
    inside_home = inside_all (z.pages * PAGE) (bundle_in z c.records t j more).writes (λ i x e.
        last_inside g.claims.hist (z.pages * PAGE) (λ n i y is. k.locks.numbers.inside n i y (inl is)) (first_of (bundle_in z c.records t j more)) (bundle_in z c.records t j more).span i x (sym (gathered.last_writes i) ∙ e))

    -- its last number was drawn
    pub last_upto : (bundle_in z c.records t j more).last ≤ c.clock
    last_upto =
        let b = gathered.in_box (bundle_in z c.records t j more).last (record { low = omega arith; high = omega arith }) in
        posted_upto z g c k (bundle_in z c.records t j more).last (inl b)
