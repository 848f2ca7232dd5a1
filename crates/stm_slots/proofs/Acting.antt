-- The steps of the turn keep the rule of the slots.
use Rattle.std.proofs.Common.{◌≡◌, ◌≢◌, ◌==◌, ℕ, zero, suc, ◌+◌, ◌<◌, ◌≤◌, ◌⊎◌, Bool, true, false, List, [], ◌∷◌, ◌||◌, length, map, All, get_or, set, refl, sym, ap, ◌∙◌, subst, inl, inr, ⊎_elim, eq-eqb, ne_eqb, arith}
use Rattle.std.specs.Prelude.{Some, None, MatchBool}
use Rattle.std.specs.List.{Contains}
use Rattle.std.proofs.lemmas.List.{map-set, set-set, set-get_or, get_or_default}
use Rattle.dude_base.proofs.WriteLists.{written_at}
use Rattle.std.proofs.lemmas.Bool.{true≢false}
use mathlib.Core.Option.{Option as Maybe, none, some, some-injective, some-ne-none}
use mathlib.Core.Logic.{dite}
use native.Mathlib.Decide.{ℕ_discrete}
use lib.ListN.{get_elem?}
use prog.Atomic.{either}
use Rattle.dude_base.specs.Records.{RedoRecord}
use Rattle.pmem_trait.specs.Sights.{Sight}
use Rattle.pmem_trait.specs.declared.medium.Medium.{Ghosts}
use Rattle.atomic_table.specs.Table.{Me, Act, keeps, takes, gives, Valid, homes_after, carried_after}
use Rattle.core_events.specs.Setups.{Setup, box_of}
use Rattle.core_events.specs.Views.{View}
use Rattle.core_events.specs.Words.{State}
use Rattle.core_events.specs.Events.{take_turn, give_turn, see_full, empty_box, raise_durable, raise_reproduced, view_after, thread_of}
use Rattle.core_events.specs.Conditions.{IsAllowed, after, no_record}
use Rattle.core_events.specs.Kept.{Kept}
use Rattle.core_events.specs.Telling.{IsTold}
use Rattle.core_events.proofs.Lists.{at_map, set_again, set_here, there, unmoved}
use Rattle.core_table.specs.Known.{Known, known_after}
use Rattle.core_table.specs.Rules.{Acts}
use Rattle.core_events.proofs.Boxes.{box_inside, read_there, there_read}
use Rattle.back_store.specs.Back.{waiting_of_ring}
use Rattle.stm_slots.specs.KnownLists.{BackLists}
use Rattle.stm_slots.specs.Records.{HasRecord, LacksRecord, writes_in}
use Rattle.stm_slots.proofs.JoinedRecords.{lacks_from}
use Rattle.dude_base.specs.Records.{RedoBundle}
use Rattle.stm_slots.specs.Beside.{Hands, Beside}
use Rattle.stm_slots.specs.Stage.{Owner, Stage, owner_of, stage_of}
use Rattle.stm_slots.specs.Queues.{back_slot, place_at}
use Rattle.stm_slots.specs.Lists.{ListsKept}
use Rattle.stm_slots.specs.Opening.{setup_of}
use Rattle.stm_slots.specs.Rule.{IsHome, SlotsKept, SlotsKeptBy}
use Rattle.stm_slots.specs.Turns.{TookTurn, Took, GaveTurn, SawFull, SawNumber, WentOn, Follows, Leaves}
use Rattle.stm_slots.specs.declared.home.Home.{Home as TheHome}
use Rattle.stm_slots.specs.declared.slot.Slot.{Slot}
use Rattle.stm_slots.specs.declared.slot.Slot.TheVariants.{Empty, Record, Home}
use Rattle.stm_slots.specs.declared.opening.Opening.{Opening}
use Rattle.stm_slots.proofs.Staged.{boxes_sized, nobody, some_turn, alone, of_thread, once, open_apart, box_told}
use Rattle.stm_slots.proofs.Turning.{taken, given, raised_durable, raised_reproduced}
use Rattle.stm_slots.proofs.Boxing.{followed, followed_lists, seen, put_back, emptied}

-- the hands of equal turns are equal
pub same_hands : (a b : Hands) → Some a ≡ Some b → a ≡ b
same_hands a b e = cc

module _ {M : Type 0} {ghosts : Ghosts M} (sight : M → Sight) (o : Opening M ghosts) where
  abbrev z : Setup
  z = setup_of sight o

  abbrev Seated : Type 0
  Seated = Me (Slot M ghosts) (Known Beside)

  abbrev fact : State → List Beside → List (Maybe (Slot M ghosts)) → Type 0
  fact c xs homes = SlotsKept sight o (stage_of c) xs homes

  -- what a seat keeps last decides, and a stage that is the same keeps the rule
  pub kept_last : {s now : Stage} (xs : List Beside) (id : ℕ) (y1 y2 : Beside) (homes : List (Maybe (Slot M ghosts))) (hands : Hands) → now ≡ s → SlotsKeptBy sight o s (set (set xs id y1) id y2) homes hands → SlotsKept sight o now (set xs id y2) homes
  kept_last {s} xs id y1 y2 homes hands same kept = record {
    hands = hands;
    kept = subst (λ st. SlotsKeptBy sight o st (set xs id y2) homes hands) (sym same) (subst (λ ys. SlotsKeptBy sight o s ys homes hands) (set-set xs id y1 y2) kept);
  }

  -- ---- the turn is taken
  module _ (c : State) (id : ℕ) (v : View) where
    abbrev staged : ℕ → List Owner → Stage
    staged t os = record (stage_of c) { turn = t; owners = os }

    took_stage : c.turn ≡ 0 → stage_of (after z c id v take_turn) ≡ staged (thread_of v + 1) (set (map owner_of c.views) id (record (owner_of v) { has_turn = true }))
    took_stage e =
        let word : either (c.turn == 0) (thread_of v + 1) c.turn ≡ thread_of v + 1 = rw (eq-eqb c.turn 0 e) refl in
        let owner : owner_of (view_after z take_turn v c.turn) ≡ record (owner_of v) { has_turn = true } = rw (eq-eqb c.turn 0 e) refl in
        ap (λ t. staged t (map owner_of (set c.views id (view_after z take_turn v c.turn)))) word
        ∙ ap (staged (thread_of v + 1)) (map-set owner_of c.views id (view_after z take_turn v c.turn) ∙ ap (set (map owner_of c.views) id) owner)

    missed_stage : get_elem? c.views id ≡ some v → c.turn ≢ 0 → stage_of (after z c id v take_turn) ≡ stage_of c
    missed_stage at n =
        let word : either (c.turn == 0) (thread_of v + 1) c.turn ≡ c.turn = rw (ne_eqb c.turn 0 n) refl in
        let owner : owner_of (view_after z take_turn v c.turn) ≡ owner_of v = rw (ne_eqb c.turn 0 n) refl in
        ap (λ t. staged t (map owner_of (set c.views id (view_after z take_turn v c.turn)))) word ∙ ap (staged c.turn) (unmoved owner_of c.views id v (view_after z take_turn v c.turn) at owner)

  module _ (id : ℕ) (me : Seated) (c : State) (xs : List Beside) (homes : List (Maybe (Slot M ghosts))) (k : Kept z c) (allowed : IsAllowed z c id take_turn me.0.view) (at : get_elem? xs id ≡ some me.0.beside) (f : fact c xs homes) where
    abbrev Taking : Type 0
    Taking = (a : Act (Slot M ghosts)) × (x : Beside) × Valid homes me.1 a × fact (after z c id me.0.view take_turn) (set xs id x) (homes_after homes me.1 a)
        × (IsTold z take_turn me.0.view c.turn → TookTurn sight o me c.turn (record { view = view_after z take_turn me.0.view c.turn; beside = x; made = take_turn ∷ me.0.made }, carried_after me.1 a))

    take_hit : c.turn ≡ 0 → Taking
    take_hit e =
        let v : View = me.0.view in let n : ℕ = c.turn in
        let home = f.kept.home e in let h = home.0 in let x : Beside = record me.0.beside { turn = Some f.hands } in (
          takes (back_slot z) (Home h),
          x,
          home.2,
          record { hands = f.hands; kept = subst (λ st. SlotsKeptBy sight o st (set xs id x) (set homes (back_slot z) none) f.hands) (sym (took_stage c id v e)) (taken sight o (stage_of c) xs homes f.hands f.kept (boxes_sized z c k) id (owner_of v) me.0.beside (at_map owner_of c.views id v allowed.is_there) at (thread_of v + 1) (omega arith) (nobody z c k e)) },
          (λ told. (
            told,
            subst (λ (d : Bool). MatchBool d (Took sight o me (took_seat f.hands h)) (took_seat f.hands h ≡ (known_after z take_turn me.0 n, me.1))) (sym (eq-eqb n 0 e)) (record {
              hands = f.hands;
              home = h;
              is = home.1;
              lawful = f.kept.lists.lawful;
              rings = f.kept.lists.rings;
              pages = f.kept.lists.pages;
              places = λ u lt. (f.kept.queues.each u lt).start;
              wide = f.kept.queues.wide;
              view = ap (view_after z take_turn v) e;
              beside = refl;
              slots = refl;
            }),
          )),
        )
      where
        took_seat : Hands → TheHome M ghosts → Seated
        took_seat hands h = (record { view = view_after z take_turn me.0.view c.turn; beside = record me.0.beside { turn = Some hands }; made = take_turn ∷ me.0.made }, (back_slot z, Home h) ∷ me.1)

    take_miss : c.turn ≢ 0 → Taking
    take_miss e =
        let v : View = me.0.view in let n : ℕ = c.turn in (
          keeps,
          me.0.beside,
          tt,
          record { hands = f.hands; kept = subst (λ ys. SlotsKeptBy sight o (stage_of (after z c id v take_turn)) ys homes f.hands) (sym (set_again xs id me.0.beside at)) (subst (λ st. SlotsKeptBy sight o st xs homes f.hands) (sym (missed_stage c id v allowed.is_there e)) f.kept) },
          (λ told. (told, rw (ne_eqb n 0 e) refl)),
        )

  pub take_acts : (id : ℕ) (me : Seated) → Acts fact z take_turn id me (TookTurn sight o me)
  take_acts id me c xs homes k allowed at f = dite (ℕ_discrete c.turn 0) (take_hit id me c xs homes k allowed at f) (take_miss id me c xs homes k allowed at f)

  -- ---- the turn is given
  or_true : (a b : Bool) → (a || b) ≡ true → (a ≡ true) ⊎ (b ≡ true)
  or_true true b e = inl refl
  or_true false b e = inr e

  -- the hands of the view with the turn, and the rule with them
  module _ (c : State) (xs : List Beside) (homes : List (Maybe (Slot M ghosts))) (k : Kept z c) (f : fact c xs homes) (id : ℕ) (v : View) (x : Beside) (is_there : get_elem? c.views id ≡ some v) (at : get_elem? xs id ≡ some x) (has : v.turn.has_it ≡ true)
      (hands : Hands) (is : x.turn ≡ Some hands) (m : BackLists) (follows : Follows z hands.next hands.boxes hands.lists m) where
    at_owner : get_elem? (map owner_of c.views) id ≡ some (owner_of v)
    at_owner = at_map owner_of c.views id v is_there

    pub kept_by : SlotsKeptBy sight o (stage_of c) xs homes hands
    kept_by = subst (SlotsKeptBy sight o (stage_of c) xs homes) (same_hands f.hands hands (sym (f.kept.held id (owner_of v) x at_owner at has) ∙ is)) f.kept

    pub now_lists : ListsKept z (stage_of c) m hands.boxes
    now_lists = followed_lists sight o (stage_of c) xs homes hands kept_by (boxes_sized z c k) id (owner_of v) x at_owner at (alone z c k id v is_there has) (some_turn z c k id v is_there has) (of_thread z c k) (once z c k) (open_apart z c k) m follows

    abbrev now_beside : Beside
    now_beside = record x { turn = Some (record hands { lists = m }) }

    pub now_kept : SlotsKeptBy sight o (stage_of c) (set xs id now_beside) homes (record hands { lists = m })
    now_kept = followed sight o (stage_of c) xs homes hands kept_by (boxes_sized z c k) id (owner_of v) x at_owner at (alone z c k id v is_there has) (some_turn z c k id v is_there has) (of_thread z c k) (once z c k) (open_apart z c k) m follows

    pub now_at : get_elem? (set xs id now_beside) id ≡ some now_beside
    now_at = set_here xs id now_beside (there xs id x at)

  module _ (id : ℕ) (me : Seated) (has : me.0.view.turn.has_it ≡ true) (hands : Hands) (is : me.0.beside.turn ≡ Some hands) (m : BackLists) (follows : Follows z hands.next hands.boxes hands.lists m) where
    pub give_acts : (failed : Bool) (h : TheHome M ghosts) → me.1 ≡ (back_slot z, Home h) ∷ [] → IsHome sight o h (record hands { lists = m }) → (failed ≡ true → m.state.dead ≡ true) → Acts fact z (give_turn failed) id me (GaveTurn sight o failed me)
    give_acts failed h slots home fault c xs homes k allowed at f =
        let v : View = me.0.view in let x : Beside = me.0.beside in let there_v = allowed.is_there in
        let met : Bool = v.turn.met_fault || failed in
        let gone : Beside = record x { turn = None } in
        let kept = kept_by c xs homes k f id v x there_v at has hands is m follows in
        let lists = now_lists c xs homes k f id v x there_v at has hands is m follows in
        let at_v = at_map owner_of c.views id v there_v in
        let same : stage_of (after z c id v (give_turn failed)) ≡ staged c id v 0 (set (map owner_of c.views) id (record (owner_of v) { has_turn = false; met_fault = met })) = ap (staged c id v 0) (map-set owner_of c.views id (view_after z (give_turn failed) v c.turn)) in (
          gives,
          gone,
          tt,
          record {
            hands = record hands { lists = m };
            kept = subst (λ st. SlotsKeptBy sight o st (set xs id gone) (homes_after homes me.1 gives) (record hands { lists = m })) (sym same)
                (subst (λ cs. SlotsKeptBy sight o (staged c id v 0 (set (map owner_of c.views) id (record (owner_of v) { has_turn = false; met_fault = met }))) (set xs id gone) (homes_after homes cs gives) (record hands { lists = m })) (sym slots)
                (given sight o (stage_of c) xs homes hands kept (boxes_sized z c k) id (owner_of v) x at_v at (record hands { lists = m }) h failed met lists refl refl refl refl home
                (λ e. ⊎_elim (λ was. follows.dead (kept.lists.fault id (owner_of v) at_v was)) fault (or_true v.turn.met_fault failed e)) (alone z c k id v there_v has)));
          },
          (λ told. record { seated = told.after; view = refl; beside = refl; slots = ap (λ (cs : List (ℕ × Slot M ghosts)). carried_after cs gives) slots }),
        )

    -- ---- a box is looked at
    abbrev now : Hands
    now = record hands { lists = m }

    look_stage : (c : State) (t j : ℕ) → get_elem? c.views id ≡ some me.0.view → stage_of (after z c id me.0.view (see_full t j)) ≡ stage_of c
    look_stage c t j there_v =
        ap (λ bs. record (stage_of c) { boxes = bs; owners = map owner_of (set c.views id (view_after z (see_full t j) me.0.view (get_or c.boxes (box_of z t j) 0))) }) (set-get_or c.boxes (box_of z t j) 0)
        ∙ ap (λ os. record (stage_of c) { owners = os }) (unmoved owner_of c.views id me.0.view (view_after z (see_full t j) me.0.view (get_or c.boxes (box_of z t j) 0)) there_v refl)

    none_newer : (qs : List RedoBundle) (n : ℕ) → ((q : RedoBundle) → Contains qs q → q.last < n) → All (λ q. q.last < n) qs
    none_newer qs n each q d lt = each (get_or qs q d) (q, lt, get_or_default qs q (get_or qs q d) d lt)

    module _ (t j : ℕ) (lt : t < z.threads) (lj : j < z.boxes) (no_box : (q : RedoRecord) → Contains hands.boxes (box_of z t j, q) → ⊥) (c : State) (xs : List Beside) (homes : List (Maybe (Slot M ghosts))) (k : Kept z c) (allowed : IsAllowed z c id (see_full t j) me.0.view) (at : get_elem? xs id ≡ some me.0.beside) (f : fact c xs homes) where
      abbrev i : ℕ
      i = box_of z t j

      abbrev v : View
      v = me.0.view

      abbrev x : Beside
      x = me.0.beside

      abbrev n : ℕ
      n = get_or c.boxes i 0

      abbrev Seeing : Type 0
      Seeing = (a : Act (Slot M ghosts)) × (y : Beside) × Valid homes me.1 a × fact (after z c id v (see_full t j)) (set xs id y) (homes_after homes me.1 a)
          × (IsTold z (see_full t j) v n → SawFull sight o t j now me n (record { view = view_after z (see_full t j) v n; beside = y; made = see_full t j ∷ me.0.made }, carried_after me.1 a))

      there_v : get_elem? c.views id ≡ some v
      there_v = allowed.is_there

      at_v : get_elem? (map owner_of c.views) id ≡ some (owner_of v)
      at_v = at_map owner_of c.views id v there_v

      abbrev y1 : Beside
      y1 = record x { turn = Some now }

      kept : SlotsKeptBy sight o (stage_of c) (set xs id y1) homes now
      kept = now_kept c xs homes k f id v x there_v at has hands is m follows

      see_none : n ≡ 0 → Seeing
      see_none e = (
        keeps,
        y1,
        tt,
        record { hands = now; kept = subst (λ st. SlotsKeptBy sight o st (set xs id y1) homes now) (sym (look_stage c t j there_v)) kept },
        (λ told. record { told = told; view = refl; what = rw (eq-eqb n 0 e) (refl, refl) }),
      )

      see_some : n ≢ 0 → Seeing
      see_some e =
          let inside : i < length c.boxes = (let all = boxes_sized z c k in let l = box_inside z.boxes t z.threads j lt lj in omega arith) in
          let here : get_elem? c.boxes i ≡ some n = there_read c.boxes i inside in
          let s = seen sight o (stage_of c) (set xs id y1) homes now kept (boxes_sized z c k) id (owner_of v) y1 at_v (now_at c xs homes k f id v x there_v at has hands is m follows) (alone z c k id v there_v has) (some_turn z c k id v there_v has) n i no_box here (omega arith) in
          let r = s.0 in let n_is = s.1 in
          let b = box_told z c k i r s.2.0 s.2.1 (omega arith) in
          let y2 : Beside = record x { turn = Some (record now { boxes = (i, r) ∷ hands.boxes }) } in
          let lacks : m.state.dead ≡ false → LacksRecord m.records r.number = (λ alive. lacks_from m.records r.number (λ h. let q = kept.lists.in_hand alive i n here (omega arith) (subst (HasRecord m.records) n_is h) in no_box q.0 q.1)) in (
            takes i (Record r),
            y2,
            s.3,
            kept_last xs id y1 y2 (set homes i none) (record now { boxes = (i, r) ∷ hands.boxes }) (look_stage c t j there_v) s.4,
            (λ told. record {
              told = told;
              view = refl;
              what = rw (ne_eqb n 0 e) (record {
                redo = r;
                number = sym n_is;
                may = record {
                  list = b.list;
                  home = λ q d below. b.home (get_or r.writes q d).at (get_or r.writes q d).value (written_at r.writes (get_or r.writes q d).at q d b.list.distinct below refl);
                  over = b.over;
                  small = b.small;
                  lacks = lacks;
                  newest = λ alive. none_newer (waiting_of_ring m.state t) r.number (λ q among. let w = kept.lists.ordered alive in let up = w.boxed t j n q lt lj here (omega arith) (subst (LacksRecord m.records) n_is (lacks alive)) among in omega arith);
                };
                beside = refl;
                slots = refl;
              });
            }),
          )

    pub see_acts : (t j : ℕ) → t < z.threads → j < z.boxes → ((q : RedoRecord) → Contains hands.boxes (box_of z t j, q) → ⊥) → Acts fact z (see_full t j) id me (SawFull sight o t j now me)
    see_acts t j lt lj no_box c xs homes k allowed at f = dite (ℕ_discrete (get_or c.boxes (box_of z t j) 0) 0) (see_none t j lt lj no_box c xs homes k allowed at f) (see_some t j lt lj no_box c xs homes k allowed at f)

    -- a look that takes nothing
    pub peek_acts : (t j : ℕ) → Acts fact z (see_full t j) id me (WentOn sight o (see_full t j) now me.1 me)
    peek_acts t j c xs homes k allowed at f =
        let y1 : Beside = record me.0.beside { turn = Some now } in (
          keeps,
          y1,
          tt,
          record { hands = now; kept = subst (λ st. SlotsKeptBy sight o st (set xs id y1) homes now) (sym (look_stage c t j allowed.is_there)) (now_kept c xs homes k f id me.0.view me.0.beside allowed.is_there at has hands is m follows) },
          (λ told. record { told = told; view = refl; beside = refl; slots = refl }),
        )

    otherwise : (A B : Type 0) (b : Bool) → b ≡ false → MatchBool b A B → B
    otherwise A B true e what = absurd (true≢false e)
    otherwise A B false e what = what

    -- a look that takes the record only of this number, which none of those has that were taken
    module _ (t j number : ℕ) (lt : t < z.threads) (lj : j < z.boxes) (some_number : 0 < number) (others : (b : ℕ) (q : RedoRecord) → Contains hands.boxes (b, q) → q.number ≢ number) (c : State) (xs : List Beside) (homes : List (Maybe (Slot M ghosts))) (k : Kept z c) (allowed : IsAllowed z c id (see_full t j) me.0.view) (at : get_elem? xs id ≡ some me.0.beside) (f : fact c xs homes) where
      abbrev word : ℕ
      word = get_or c.boxes (box_of z t j) 0

      abbrev Looking : Type 0
      Looking = (a : Act (Slot M ghosts)) × (y : Beside) × Valid homes me.1 a × fact (after z c id me.0.view (see_full t j)) (set xs id y) (homes_after homes me.1 a)
          × (IsTold z (see_full t j) me.0.view word → SawNumber sight o t j number now me word (record { view = view_after z (see_full t j) me.0.view word; beside = y; made = see_full t j ∷ me.0.made }, carried_after me.1 a))

      -- the box isn't one of those, where it has the number
      not_taken : word ≡ number → (q : RedoRecord) → Contains hands.boxes (box_of z t j, q) → ⊥
      not_taken e q among = others (box_of z t j) q among (sym (read_there c.boxes (box_of z t j) q.number ((kept_by c xs homes k f id me.0.view me.0.beside allowed.is_there at has hands is m follows).boxes.hand (box_of z t j) q among).0.0) ∙ e)

      look_hit : word ≡ number → Looking
      look_hit e =
          let some_word : word ≢ 0 = (λ zero_is. let pos = some_number in absurd (omega arith)) in
          let a = see_some t j lt lj (not_taken e) c xs homes k allowed at f some_word in (
            a.0,
            a.1,
            a.2,
            a.3,
            (λ told. let s = a.4 told in record {
              told = s.told;
              view = s.view;
              what = rw (eq-eqb word number e) (otherwise _ _ (word == 0) (ne_eqb word 0 some_word) s.what, not_taken e);
            }),
          )

      look_miss : word ≢ number → Looking
      look_miss e =
          let a = peek_acts t j c xs homes k allowed at f in (
            a.0,
            a.1,
            a.2,
            a.3,
            (λ told. let s = a.4 told in record { told = s.told; view = s.view; what = rw (ne_eqb word number e) (s.beside, s.slots) }),
          )

    pub look_acts : (t j number : ℕ) → t < z.threads → j < z.boxes → 0 < number → ((b : ℕ) (q : RedoRecord) → Contains hands.boxes (b, q) → q.number ≢ number) → Acts fact z (see_full t j) id me (SawNumber sight o t j number now me)
    look_acts t j number lt lj some_number others c xs homes k allowed at f = dite (ℕ_discrete (get_or c.boxes (box_of z t j) 0) number) (look_hit t j number lt lj some_number others c xs homes k allowed at f) (look_miss t j number lt lj some_number others c xs homes k allowed at f)

    -- ---- the record is put back, or its box emptied
    pub put_back_acts : (t j : ℕ) (r : RedoRecord) (left : List (ℕ × RedoRecord)) (rest_slots : List (ℕ × Slot M ghosts)) → Contains hands.boxes (box_of z t j, r) → Leaves hands.boxes (box_of z t j) left → me.1 ≡ (box_of z t j, Record r) ∷ rest_slots
        → (m.state.dead ≡ false → LacksRecord m.records r.number) → Acts fact z (see_full t j) id me (WentOn sight o (see_full t j) (record now { boxes = left }) rest_slots me)
    put_back_acts t j r left rest_slots among leaves slots lacks c xs homes k allowed at f =
        let i : ℕ = box_of z t j in let v : View = me.0.view in let x : Beside = me.0.beside in let there_v = allowed.is_there in
        let at_v = at_map owner_of c.views id v there_v in
        let y1 : Beside = record x { turn = Some now } in let y2 : Beside = record x { turn = Some (record now { boxes = left }) } in
        let kept = now_kept c xs homes k f id v x there_v at has hands is m follows in
        let put = put_back sight o (stage_of c) (set xs id y1) homes now kept (boxes_sized z c k) id (owner_of v) y1 at_v (now_at c xs homes k f id v x there_v at has hands is m follows) (alone z c k id v there_v has) (some_turn z c k id v there_v has) i r left among leaves lacks in (
          gives,
          y2,
          tt,
          subst (λ cs. fact (after z c id v (see_full t j)) (set xs id y2) (homes_after homes cs gives)) (sym slots)
              (kept_last xs id y1 y2 (set homes i (some (Record r))) (record now { boxes = left }) (look_stage c t j there_v) put),
          (λ told. record { told = told; view = refl; beside = refl; slots = ap (λ (cs : List (ℕ × Slot M ghosts)). carried_after cs gives) slots }),
        )

    get_there : (l : List RedoRecord) (i : ℕ) (d a : RedoRecord) → get_elem? l i ≡ some a → get_or l i d ≡ a
    get_there [] i d a e = absurd (some-ne-none a (sym e))
    get_there (y ∷ ys) zero d a e = some-injective y a e
    get_there (y ∷ ys) (suc i) d a e = get_there ys i d a e

    pub empty_acts : (t : ℕ) (r : RedoRecord) (left : List (ℕ × RedoRecord)) (rest_slots : List (ℕ × Slot M ghosts)) → t < z.threads → Contains hands.boxes (box_of z t (get_or hands.next t 0), r) → Leaves hands.boxes (box_of z t (get_or hands.next t 0)) left → me.1 ≡ (box_of z t (get_or hands.next t 0), Empty) ∷ rest_slots → HasRecord m.records r.number → writes_in m.records r.number ≡ r.writes
        → Acts fact z (empty_box t (get_or hands.next t 0)) id me (WentOn sight o (empty_box t (get_or hands.next t 0)) (record now { next = set hands.next t (place_at z (get_or hands.next t 0) 1); boxes = left }) rest_slots me)
    empty_acts t r left rest_slots inside among leaves slots handed writes c xs homes k allowed at f =
        let j : ℕ = get_or hands.next t 0 in let i : ℕ = box_of z t j in let v : View = me.0.view in let x : Beside = me.0.beside in let there_v = allowed.is_there in
        let at_v = at_map owner_of c.views id v there_v in
        let last : Hands = record now { next = set hands.next t (place_at z j 1); boxes = left } in
        let y1 : Beside = record x { turn = Some now } in let y2 : Beside = record x { turn = Some last } in
        let kept = now_kept c xs homes k f id v x there_v at has hands is m follows in
        let done = emptied sight o (stage_of c) (set xs id y1) homes now kept (boxes_sized z c k) id (owner_of v) y1 at_v (now_at c xs homes k f id v x there_v at has hands is m follows) (alone z c k id v there_v has) (some_turn z c k id v there_v has)
        t r inside (of_thread z c k) (once z c k) left among leaves handed writes in
        let there_r : get_or c.records i no_record ≡ r = get_there c.records i no_record r (kept.boxes.hand i r among).0.1 in
        let gone : Stage = record (stage_of c) { boxes = set c.boxes i 0; records = set c.records i no_record; persisted = r ∷ c.persisted } in
        let same : stage_of (after z c id v (empty_box t j)) ≡ gone =
        ap (λ p. record (stage_of c) { boxes = set c.boxes i 0; records = set c.records i no_record; persisted = p ∷ c.persisted; owners = map owner_of (set c.views id (view_after z (empty_box t j) v (get_or c.boxes i 0))) }) there_r
        ∙ ap (λ os. record gone { owners = os }) (unmoved owner_of c.views id v (view_after z (empty_box t j) v (get_or c.boxes i 0)) there_v refl) in (
          gives,
          y2,
          tt,
          subst (λ cs. fact (after z c id v (empty_box t j)) (set xs id y2) (homes_after homes cs gives)) (sym slots)
              (kept_last xs id y1 y2 (set homes i (some Empty)) last same done),
          (λ told. record { told = told; view = refl; beside = refl; slots = ap (λ (cs : List (ℕ × Slot M ghosts)). carried_after cs gives) slots }),
        )

    -- ---- the words of the numbers are raised
    pub durable_acts : (d : ℕ) → d ≤ m.state.log.durable → Acts fact z (raise_durable d) id me (WentOn sight o (raise_durable d) now me.1 me)
    durable_acts d le c xs homes k allowed at f =
        let v : View = me.0.view in let x : Beside = me.0.beside in let there_v = allowed.is_there in
        let at_v = at_map owner_of c.views id v there_v in let y1 : Beside = record x { turn = Some now } in
        let kept = now_kept c xs homes k f id v x there_v at has hands is m follows in
        let same : stage_of (after z c id v (raise_durable d)) ≡ record (stage_of c) { durable = d } = ap (λ os. record (stage_of c) { durable = d; owners = os }) (unmoved owner_of c.views id v (view_after z (raise_durable d) v c.durable) there_v refl) in (
          keeps,
          y1,
          tt,
          record { hands = now; kept = subst (λ st. SlotsKeptBy sight o st (set xs id y1) homes now) (sym same) (raised_durable sight o (stage_of c) (set xs id y1) homes now kept (boxes_sized z c k) id (owner_of v) y1 at_v (now_at c xs homes k f id v x there_v at has hands is m follows) d le) },
          (λ told. record { told = told; view = refl; beside = refl; slots = refl }),
        )

    pub reproduced_acts : (d : ℕ) → d ≤ m.state.log.reproduced → Acts fact z (raise_reproduced d) id me (WentOn sight o (raise_reproduced d) (record now { shown = d }) me.1 me)
    reproduced_acts d le c xs homes k allowed at f =
        let v : View = me.0.view in let x : Beside = me.0.beside in let there_v = allowed.is_there in
        let at_v = at_map owner_of c.views id v there_v in let y1 : Beside = record x { turn = Some now } in let y2 : Beside = record x { turn = Some (record now { shown = d }) } in
        let kept = now_kept c xs homes k f id v x there_v at has hands is m follows in
        let same : stage_of (after z c id v (raise_reproduced d)) ≡ record (stage_of c) { reproduced = d } = ap (λ os. record (stage_of c) { reproduced = d; owners = os }) (unmoved owner_of c.views id v (view_after z (raise_reproduced d) v c.reproduced) there_v refl) in (
          keeps,
          y2,
          tt,
          kept_last xs id y1 y2 homes (record now { shown = d }) same
              (raised_reproduced sight o (stage_of c) (set xs id y1) homes now kept (boxes_sized z c k) id (owner_of v) y1 at_v (now_at c xs homes k f id v x there_v at has hands is m follows) d le (some_turn z c k id v there_v has) (alone z c k id v there_v has)),
          (λ told. record { told = told; view = refl; beside = refl; slots = refl }),
        )
