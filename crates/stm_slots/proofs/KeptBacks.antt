-- A back at home in its slot is kept: what its lists say, in terms of words, views and entries.
use Rattle.std.proofs.Common.{◌≡◌, ℕ, suc, ◌+◌, ◌-◌, ◌<◌, ◌≤◌, ◌⊎◌, false, List, [], ◌∷◌, All, length, get_or, refl, sym, ap, ◌∙◌, subst, inl, inr, ⊎_elim, arith}
use Rattle.std.specs.List.{Contains}
use Rattle.std.proofs.lemmas.Bool.{false≢true}
use Rattle.std.proofs.lemmas.List.Elements.{All-head, All-tail}
use mathlib.Core.Option.{Option as Maybe, some, some-injective}
use mathlib.Core.Logic.{dite}
use native.Mathlib.Decide.{dec_lt}
use lib.ListN.{get_elem?}
use Rattle.dude_base.specs.Records.{RedoRecord}
use Rattle.dude_base.specs.declared.write.Write.{Write}
use Rattle.pmem_trait.specs.Sights.{Sight, state_now}
use Rattle.pmem_trait.specs.declared.medium.Medium.{Ghosts}
use Rattle.pmem_trait.proofs.Laws.{every_moment_weaker}
use Rattle.back_store.specs.Back.{home_now, waiting_now}
use Rattle.back_store.specs.BackView.{medium_of, state_of}
use Rattle.core_events.specs.Setups.{Setup, box_of}
use Rattle.core_events.specs.Words.{State}
use Rattle.core_events.specs.Entries.{value, value_at, writes_of, all_entries}
use Rattle.core_events.specs.Ghosts.{Place, in_view, in_box, behind_boxes, Ghost}
use Rattle.core_events.specs.KeptNumbers.{number_of}
use Rattle.core_events.specs.Kept.{Kept}
use Rattle.core_events.proofs.Lists.{at_map, of_map}
use Rattle.core_events.proofs.EntriesAll.{writes_are}
use Rattle.core_events.proofs.Values.{value_agree}
use Rattle.stm_slots.specs.KnownLists.{BackLists, lists}
use Rattle.stm_slots.specs.Records.{HasRecord, LacksRecord, IsReached, HasValues, writes_in}
use Rattle.stm_slots.specs.Known.{Since, RecoversIn, IsKnown}
use Rattle.stm_slots.proofs.JoinedRecords.{has_either, writes_more, lacks_from, last_agree}
use Rattle.stm_slots.specs.Stage.{owner_of, stage_of}
use Rattle.stm_slots.specs.Lists.{ListsKept, IsSettled}
use Rattle.stm_slots.specs.Beside.{Hands, Beside}
use Rattle.stm_slots.specs.Queues.{back_slot}
use Rattle.stm_slots.specs.Opening.{setup_of, since_of}
use Rattle.stm_slots.specs.Rule.{IsHome, SlotsKept}
use Rattle.stm_slots.specs.declared.home.Home.{Home as TheHome}
use Rattle.stm_slots.specs.declared.slot.Slot.{Slot}
use Rattle.stm_slots.specs.declared.slot.Slot.TheVariants.{Home}
use Rattle.stm_slots.proofs.Taken.{contains_none}
use Rattle.stm_slots.proofs.Lawful.{waits_over}
use Rattle.redo_record.specs.Waiting.{Waiting}
use Rattle.dude_base.specs.Records.{first_of}
use Rattle.stm_slots.specs.KeptBack.{InView, InBox, IsWaiting, IsArrayOf, RecoversTo, LiveBack, KeptBack}
use Rattle.stm_slots.specs.declared.opening.Opening.{Opening}

-- the number of a record that is listed
all_over : (first : ℕ) (rs : List RedoRecord) (n : ℕ) → All (λ r. first < r.number) rs → HasRecord rs n → first < n
all_over first [] n all has = absurd (false≢true has)
all_over first (r ∷ rs) n all has = ⊎_elim
    (λ e. let lt = All-head (λ (q : RedoRecord). first < q.number) r rs all in omega arith)
    (λ more. all_over first rs n (All-tail (λ (q : RedoRecord). first < q.number) r rs all) more)
    (has_either r rs n has)

none_written : (rs : List RedoRecord) (first n : ℕ) → All (λ r. first < r.number) rs → n ≤ first → writes_in rs n ≡ []
none_written [] first n all le = refl
none_written (r ∷ rs) first n all le = let lt = All-head (λ (q : RedoRecord). first < q.number) r rs all in
    writes_more r rs n (λ e. absurd (omega arith)) ∙ none_written rs first n (All-tail (λ (q : RedoRecord). first < q.number) r rs all) le

-- two lists of what records write agree
both_write : (rs ps : List RedoRecord) (hist : ℕ → List Write) (n : ℕ) → All (λ r. HasRecord rs r.number × (writes_in rs r.number ≡ r.writes)) ps → ((j : ℕ) (d : RedoRecord) → j < length ps → (get_or ps j d).writes ≡ hist (get_or ps j d).number) → HasRecord ps n → writes_in rs n ≡ hist n
both_write rs [] hist n all each has = absurd (false≢true has)
both_write rs (p ∷ ps) hist n all each has = ⊎_elim
    (λ e. subst (λ (m : ℕ). writes_in rs m ≡ hist m) e ((All-head (λ r. HasRecord rs r.number × (writes_in rs r.number ≡ r.writes)) p ps all).1 ∙ each 0 p (omega arith)))
    (λ more. both_write rs ps hist n (All-tail (λ r. HasRecord rs r.number × (writes_in rs r.number ≡ r.writes)) p ps all) (λ j d lt. each (suc j) d (omega arith)) more)
    (has_either p ps n has)

-- what has all records of another list has each number of it
pub both_have : (rs ps : List RedoRecord) (n : ℕ) → All (λ r. HasRecord rs r.number × (writes_in rs r.number ≡ r.writes)) ps → HasRecord ps n → HasRecord rs n
both_have rs [] n all has = absurd (false≢true has)
both_have rs (p ∷ ps) n all has = ⊎_elim
    (λ e. subst (HasRecord rs) e (All-head (λ r. HasRecord rs r.number × (writes_in rs r.number ≡ r.writes)) p ps all).0)
    (λ more. both_have rs ps n (All-tail (λ r. HasRecord rs r.number × (writes_in rs r.number ≡ r.writes)) p ps all) more)
    (has_either p ps n has)

module _ (z : Setup) (c : State) (k : Kept z c) (l : BackLists) (ls : ListsKept z (stage_of c) l []) where
  abbrev g : Ghost
  g = k.ghost_is

  -- a record that was handed over: its number is in a box or behind all boxes, and it has the writes of the entry
  pub record Listed (n : ℕ) : Type 0 where
    pub over : z.first < n
    pub upto : n ≤ c.clock
    pub in_no_view : InView c n → ⊥
    pub writes : writes_in l.records n ≡ writes_of (all_entries c.views) n

  not_viewed : (n : ℕ) (p : Place) → g.place n ≡ p → ((j : ℕ) → p ≡ in_view j → ⊥) → 0 < n → InView c n → ⊥
  not_viewed n p is other pos v = other v.0 (sym is ∙ (k.layers.numbers.placed.of_views n v.0 (at_map number_of c.views v.0 v.1 v.2 ∙ ap some v.3) pos).0)

  pub listed : (n : ℕ) → HasRecord l.records n → Listed n
  listed n has =
      let over = all_over z.first l.records n ls.lawful.over has in
      let entry : g.claims.hist n ≡ writes_of (all_entries c.views) n = sym (writes_are z g c k.layers.entries n) in
      ⊎_elim
      (λ p. let at = k.layers.numbers.placed.of_persisted n p in record {
        over = over;
        upto = at.2;
        in_no_view = not_viewed n behind_boxes at.0 (λ j e. cc) (omega arith);
        writes = both_write l.records c.persisted g.claims.hist n ls.persisted (λ j d lt. (k.layers.numbers.records.kept j d lt).0) p ∙ entry;
      })
      (λ b. let at = k.layers.numbers.placed.of_boxes n b.0 b.1.0 (omega arith) in record {
        over = over;
        upto = at.2;
        in_no_view = not_viewed n (in_box b.0) at.0 (λ j e. cc) (omega arith);
        writes = ap (λ (r : RedoRecord). r.writes) (some-injective (record { number = n; writes = writes_in l.records n }) (record { number = n; writes = g.claims.hist n }) (sym b.1.1 ∙ (k.layers.numbers.records.boxed n b.0 b.1.0 (omega arith)).0)) ∙ entry;
      })
      (ls.handed n has)

  -- the values by records are those by entries
  pub same_values : (n i : ℕ) → IsReached z.first l.records n → value z.opening (writes_in l.records) n i ≡ value_at z.opening (all_entries c.views) n i
  same_values n i reached = sym (value_agree z.opening (writes_in l.records) (writes_of (all_entries c.views)) n i (λ m le. dite (dec_lt z.first m)
      (λ lt. sym (listed m (reached m lt le)).writes)
      (λ ge. writes_are z g c k.layers.entries m ∙ ((k.layers.locks.numbers.before m (omega arith)).0 ∙ sym (none_written l.records z.first m ls.lawful.over (omega arith))))))

  clock_reached : (n : ℕ) → z.first ≤ n → IsReached z.first l.records n → n ≤ c.clock
  clock_reached n from reached = dite (dec_lt z.first n) (λ lt. (listed n (reached n lt (omega arith))).upto) (λ ge. let low = k.layers.locks.numbers.from in omega arith)

  array_of : (n : ℕ) (array : List ℕ) → IsReached z.first l.records n → HasValues z.opening (writes_in l.records) n array → IsArrayOf z c n array
  array_of n array reached v = record { size = v.size; words = λ i lt. v.words i lt ∙ same_values n i reached }

  recovers_to : (b : Since) → b.opening ≡ z.opening → b.first ≡ z.first → (told image : List ℕ) → RecoversIn b l.records l.state.log.sizes told image → RecoversTo z c l.state.log.sizes (length (state_now b.start).told) told image
  recovers_to b opening first told image r =
      let reached : IsReached z.first l.records r.number = subst (λ f. IsReached f l.records r.number) first r.reached in record {
        number = r.number;
        array = r.array;
        recovered = r.recovered;
        same_sizes = r.same_sizes;
        array_is = array_of r.number r.array reached (subst (λ o. HasValues o (writes_in l.records) r.number r.array) opening r.values);
        in_no_view = λ n lt le. (listed n (reached n lt le)).in_no_view;
        from = (let f = r.from in omega arith);
        upto = clock_reached r.number (let f = r.from in omega arith) reached;
        floor = r.floor;
      }

  module _ (settled : IsSettled l.state) (alive : l.state.dead ≡ false) where
    live_back : LiveBack z c l.state
    live_back =
        let live = ls.lawful.live alive in let same = settled.numbers alive in let d : ℕ = l.state.log.durable in
        let waiting_has : (n : ℕ) → IsWaiting l.state n → (d < n) × HasRecord l.records n = (λ n w. let low = over_reproduced w.0 w.1 in let covers = w.2.low in ((omega arith), (live.waits w.0 w.1).has n w.2)) in
        let no_box : (n : ℕ) → HasRecord l.records n → InBox c n → ⊥ = (λ n has b. let over = (listed n has).over in let e = ls.in_hand alive b.0 n b.1 (omega arith) has in contains_none (b.0, e.0) e.1) in record {
          reproduced = same;
          end = settled.next alive;
          from = (let a = ls.lawful.from in omega arith);
          upto = clock_reached d (let a = ls.lawful.from in omega arith) live.reached;
          gone = λ n lt le. let has = live.reached n lt le in ((listed n has).in_no_view, no_box n has, (λ w. let up = (waiting_has n w).0 in absurd (omega arith)));
          placed = λ n lt le. by_place n (g.place n) refl lt le;
          waits = λ n w. let h = waiting_has n w in let x = listed n h.1 in (h.0, x.upto, x.in_no_view, no_box n h.1);
          writes = λ w among i. let x = live.waits w among in
              x.same i ∙ last_agree (writes_of (all_entries c.views)) (writes_in l.records) (first_of w.redo) (w.redo.last + 1 - first_of w.redo) i (λ m low high. (listed m (x.has m (record { low = low; high = omega arith }))).writes);
          boxed = λ t j n q lt lj at pos among. (ls.ordered alive).boxed t j n q lt lj at pos (lacks n (box_of z t j) at pos) among;
          opened = λ j t w q at of_t pos among. (ls.ordered alive).opened j t (owner_of w) q (at_map owner_of c.views j w at) of_t pos among;
        }
      where
        over_reproduced : (w : Waiting) → Contains (waiting_now l.state) w → l.state.log.reproduced < first_of w.redo
        over_reproduced w among = waits_over l.state.log ls.lawful.log w among

        lacks : (n b : ℕ) → get_elem? c.boxes b ≡ some n → 0 < n → LacksRecord l.records n
        lacks n b at pos = lacks_from l.records n (λ has. let e = ls.in_hand alive b n at pos has in contains_none (b, e.0) e.1)

        first_under : (n : ℕ) → l.state.log.durable < n → z.first < n
        first_under n lt = let a = ls.lawful.from in let same = settled.numbers alive in omega arith

        by_place : (n : ℕ) (p : Place) → g.place n ≡ p → l.state.log.durable < n → n ≤ c.clock → InView c n ⊎ (InBox c n ⊎ IsWaiting l.state n)
        by_place n (in_view j) is lt le = let u = of_map number_of c.views j n (k.layers.numbers.placed.in_views n j (first_under n lt) le is) in inl (j, u.0, u.1, u.2)
        by_place n (in_box b) is lt le = inr (inl (b, k.layers.numbers.placed.in_boxes n b (first_under n lt) le is))
        by_place n behind_boxes is lt le =
            let p = k.layers.numbers.placed.behind n (first_under n lt) le is in
            let w = (ls.lawful.live alive).logged n (both_have l.records c.persisted n ls.persisted p) (let same = settled.numbers alive in omega arith) in
            inr (inr (w.0, w.1, w.2))

-- the back is at home in its slot
module _ {M : Type 0} {ghosts : Ghosts M} (sight : M → Sight) (o : Opening M ghosts) (c : State) (k : Kept (setup_of sight o) c) where
  -- the lists are those of the back
  pub home_lists : (h : TheHome M ghosts) (hands : Hands) → IsHome sight o h hands → ListsKept (setup_of sight o) (stage_of c) hands.lists hands.boxes → ListsKept (setup_of sight o) (stage_of c) (lists (state_of h.back) hands.lists.records) []
  home_lists h hands is kept = subst (λ s. ListsKept (setup_of sight o) (stage_of c) (lists s hands.lists.records) []) (sym is.state) (subst (ListsKept (setup_of sight o) (stage_of c) hands.lists) is.boxes kept)

  pub home_known : (h : TheHome M ghosts) (hands : Hands) → IsHome sight o h hands → IsKnown (since_of sight o) (lists (state_of h.back) hands.lists.records) (sight (medium_of h.back))
  home_known h hands is = subst (λ s. IsKnown (since_of sight o) (lists s hands.lists.records) (sight (medium_of h.back))) (sym is.state) is.known

  pub kept_by : (h : TheHome M ghosts) (hands : Hands) → IsHome sight o h hands → ListsKept (setup_of sight o) (stage_of c) hands.lists hands.boxes → KeptBack sight o c h.back
  kept_by h hands is kept =
      let z : Setup = setup_of sight o in
      let l : BackLists = lists (state_of h.back) hands.lists.records in
      let ls : ListsKept z (stage_of c) l [] = home_lists h hands is kept in
      let known : IsKnown (since_of sight o) l (sight (medium_of h.back)) = home_known h hands is in
      let settled : IsSettled l.state = subst IsSettled (sym is.state) is.settled in record {
        images = every_moment_weaker (λ told image len r. recovers_to z c k l ls (since_of sight o) refl refl told image r) known.moments;
        durable = ls.durable;
        reproduced = ls.reproduced;
        raised = λ j v at. let up = (k.layers.turn.each j v at).raised in let d = ls.durable in omega arith;
        fault = λ j v at met. ls.fault j (owner_of v) (at_map owner_of c.views j v at) met;
        ran = known.ran;
        told = known.tells;
        live = λ alive. live_back z c k l ls settled alive;
        home = λ alive seen. array_of z c k l ls l.state.log.reproduced (home_now l.state.log.sizes (sight (medium_of h.back))) (λ m lt le. (ls.lawful.live alive).reached m lt (let same2 = settled.numbers alive in omega arith)) (known.home alive seen);
      }

  -- whenever nobody has the turn
  pub kept_back : (xs : List Beside) (homes : List (Maybe (Slot M ghosts))) → SlotsKept sight o (stage_of c) xs homes → c.turn ≡ 0
      → (h : TheHome M ghosts) × (get_elem? homes (back_slot (setup_of sight o)) ≡ some (some (Home h))) × KeptBack sight o c h.back
  kept_back xs homes f at_home = let at = f.kept.home at_home in (at.0, at.2, kept_by at.0 f.hands at.1 f.kept.lists)
