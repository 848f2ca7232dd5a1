-- What the holder of the turn has from one of its steps to the next.
use Rattle.std.proofs.Common.{◌≡◌, ◌≢◌, ℕ, ◌<◌, ◌≤◌, ◌⊎◌, Bool, true, false, List, [], ◌∷◌, map, length, get_or, set, refl, sym, ap, ◌∙◌, subst, inl, inr, ⊎_elim, arith}
use Rattle.std.specs.Prelude.{Some}
use mathlib.Core.Option.{Option as Maybe, some}
use lib.ListN.{get_elem?}
use Rattle.dude_base.specs.Records.{RedoRecord}
use Rattle.pmem_trait.specs.Sights.{Sight}
use Rattle.pmem_trait.specs.declared.medium.Medium.{Ghosts}
use Rattle.atomic_table.specs.Table.{State as TableState, Me, rest, carried_after}
use Rattle.back_store.specs.BackView.{medium_of, state_of}
use Rattle.core_events.specs.Setups.{Setup, box_of}
use Rattle.core_events.specs.Views.{View, Part}
use Rattle.core_events.specs.Words.{State, found}
use Rattle.core_events.specs.Events.{Event, give_turn, see_full, empty_box, raise_durable, raise_reproduced, name, view_after}
use Rattle.core_events.specs.Conditions.{HasThread, IsAllowed}
use Rattle.core_events.specs.Kept.{Kept}
use Rattle.core_events.specs.Telling.{IsSeated}
use Rattle.stm_slots.specs.Known.{Known as KnownBy, IsKnown}
use Rattle.core_table.specs.Known.{Known, view_of, beside_of}
use Rattle.core_table.specs.Rules.{Acts, Holds, Foreseen}
use Rattle.stm_slots.specs.KnownLists.{BackLists, LawfulLists, lists}
use Rattle.stm_slots.specs.Records.{HasRecord, LacksRecord, IsReached, writes_in}
use Rattle.stm_slots.proofs.JoinedRecords.{has_behind}
use Rattle.stm_slots.proofs.KeptBacks.{both_have}
use mathlib.Core.Logic.{dite}
use native.Mathlib.Decide.{dec_lt}
use Rattle.stm_slots.proofs.Queueing.{way_to, place_here}
use Rattle.stm_slots.specs.Beside.{Hands, Beside}
use Rattle.stm_slots.specs.Stage.{Stage, stage_of}
use Rattle.stm_slots.specs.Queues.{back_slot, place_at, word_at, IsQueue}
use Rattle.core_events.specs.Keyed.{has as has_number}
use Rattle.core_events.specs.KeptNumbers.{numbers_of}
use Rattle.core_events.proofs.Lists.{at_map}
use Rattle.core_events.proofs.Boxes.{read_there}
use Rattle.stm_slots.specs.Opening.{setup_of, since_of}
use Rattle.stm_slots.specs.QuietSteps.{fact_of}
use Rattle.stm_slots.specs.Rule.{IsHome, BoxSlots}
use Rattle.stm_slots.specs.Lists.{ListsKept, IsSettled}
use Rattle.stm_slots.specs.Turns.{Follows, Leaves, Took, GaveTurn, SawFull, SawNumber, WentOn, Seated}
use Rattle.stm_slots.proofs.Taken.{contains_none}
use Rattle.std.specs.List.{Contains}
use Rattle.stm_turns.specs.Holding.{Held, box_held, boxes_held, hands_of, Holding}
use Rattle.stm_turns.proofs.HeldRecords.{box_in}
use Rattle.stm_turns.specs.Told.{HasGrown, IsRaisedTo, RisesFrom, Went, WentHanded, WentLacking, Raised, SawFront, SawNext, boxes_in}
use Rattle.stm_slots.specs.declared.home.Home.{Home as TheHome}
use Rattle.stm_slots.specs.declared.slot.Slot.{Slot}
use Rattle.stm_slots.specs.declared.slot.Slot.TheVariants.{Empty, Record, Home}
use Rattle.stm_slots.specs.declared.opening.Opening.{Opening}
use Rattle.stm_slots.proofs.Following.{follows_same}
use Rattle.stm_slots.proofs.Acting.{give_acts, look_acts, peek_acts, see_acts, put_back_acts, empty_acts, durable_acts, reproduced_acts, kept_by, now_lists, same_hands}

pub front_of : {S : Type 0} (c l : List (ℕ × S)) (k : ℕ) (x : S) → c ≡ (k, x) ∷ l → c ≡ (k, x) ∷ rest c
front_of c l k x e = e ∙ ap (λ ys. (k, x) ∷ ys) (sym (ap rest e))

-- the slot that a seat took last has another value
pub laid_in : {S V : Type 0} (m w : Me S V) (k j : ℕ) (x y : S) (l : List (ℕ × S)) → w ≡ (m.0, (k, x) ∷ rest m.1) → m.1 ≡ (j, y) ∷ l → k ≡ j → w.1 ≡ (j, x) ∷ l
laid_in {S} {V} m w k j x y l is was same = ap (λ (a : Me S V). a.1) is ∙ (ap (λ (ys : List (ℕ × S)). (k, x) ∷ rest ys) was ∙ ap (λ (i : ℕ). (i, x) ∷ l) same)

module _ {M : Type 0} {ghosts : Ghosts M} (sight : M → Sight) (o : Opening M ghosts) where
  abbrev z : Setup
  z = setup_of sight o

  -- less may be told
  pub told_less : (e : Event) (id : ℕ) (me : Seated M ghosts) (then less : ℕ → Seated M ghosts → Type 0) → Acts (fact_of sight o) z e id me then → ((n : ℕ) (w : Seated M ghosts) → then n w → less n w) → Acts (fact_of sight o) z e id me less
  told_less e id me then less acts more c xs homes k allowed at f = let a = acts c xs homes k allowed at f in (a.0, a.1, a.2, a.3, (λ told. more (found c (name z e me.0.view)) (record { view = view_after z e me.0.view (found c (name z e me.0.view)); beside = a.1; made = e ∷ me.0.made }, carried_after me.1 a.0) (a.4 told)))

  -- more may be told, by the state
  pub told_with : (e : Event) (id : ℕ) (me : Seated M ghosts) (then more : ℕ → Seated M ghosts → Type 0) → Acts (fact_of sight o) z e id me then
      → ((c : State) (xs : List Beside) (homes : List (Maybe (Slot M ghosts))) → Kept z c → IsAllowed z c id e me.0.view → get_elem? xs id ≡ some me.0.beside → fact_of sight o c xs homes → (w : Seated M ghosts) → then (found c (name z e me.0.view)) w → more (found c (name z e me.0.view)) w)
      → Acts (fact_of sight o) z e id me more
  told_with e id me then more acts by c xs homes k allowed at f = let a = acts c xs homes k allowed at f in (a.0, a.1, a.2, a.3, (λ told. by c xs homes k allowed at f (record { view = view_after z e me.0.view (found c (name z e me.0.view)); beside = a.1; made = e ∷ me.0.made }, carried_after me.1 a.0) (a.4 told)))

  -- a full box of a thread has no less a number than the one in front
  in_front : (boxes : List ℕ) (t j count : ℕ) → IsQueue z boxes t j count → (i n : ℕ) → i < z.boxes → get_elem? boxes (box_of z t i) ≡ some n → 0 < n → (0 < get_or boxes (box_of z t j) 0) × (get_or boxes (box_of z t j) 0 ≤ n)
  in_front boxes t j count queue i n lt at pos =
      let way = way_to z j i queue.start lt in let k = way.0 in
      let word : word_at z boxes t j k ≡ n = ap (λ p. get_or boxes (box_of z t p) 0) way.2 ∙ read_there boxes (box_of z t i) n at in
      let first : word_at z boxes t j 0 ≡ get_or boxes (box_of z t j) 0 = ap (λ p. get_or boxes (box_of z t p) 0) (place_here z j queue.start) in
      dite (dec_lt k count)
      (λ below. let full = queue.full 0 (omega arith) in dite (dec_lt 0 k)
      (λ far. let up = queue.rising 0 k far below in ((omega arith), (omega arith)))
      (λ here. let same : word_at z boxes t j k ≡ word_at z boxes t j 0 = ap (word_at z boxes t j) (let e : k ≡ 0 = omega arith in e) in ((omega arith), (omega arith))))
      (λ over. absurd (let none = queue.free k (omega arith) way.1 in omega arith))

  -- a number that a view without an open number drew was handed over, or stands in a box of its thread
  drawn_or_found : (s : Stage) (l : BackLists) (box : List (ℕ × RedoRecord)) → ListsKept z s l box → (t j count : ℕ) → IsQueue z s.boxes t j count → (v : View) → v.part.thread ≡ Some t → v.tx.hand.number ≡ 0
      → (n : ℕ) → ((0 < n) × ((v.tx.hand.number ≡ n) ⊎ (((u i : ℕ) × (v.part.thread ≡ Some u) × (i < z.boxes) × (get_elem? s.boxes (box_of z u i) ≡ some n)) ⊎ (has_number (numbers_of s.persisted) n ≡ true))))
      → HasRecord l.records n ⊎ ((0 < get_or s.boxes (box_of z t j) 0) × (get_or s.boxes (box_of z t j) 0 ≤ n))
  drawn_or_found s l box ls t j count queue v mine idle n d = let pos = d.0 in ⊎_elim
      (λ open_one. absurd (omega arith))
      (⊎_elim
      (λ b. inr (let e : Some b.0 ≡ Some t = sym b.2 ∙ mine in let u_is : b.0 ≡ t = cc in in_front s.boxes t j count queue b.1 n b.3 (subst (λ (u : ℕ). get_elem? s.boxes (box_of z u b.1) ≡ some n) u_is b.4) pos))
      (λ p. inl (both_have l.records s.persisted n ls.persisted p)))
      d.1

  -- the same is known of an equal seat
  abbrev pub holding_on : (k k2 : Known Beside) (h : TheHome M ghosts) (hand : List Held) → k2 ≡ k → Holding sight o k h hand → Holding sight o k2 h hand
  holding_on k k2 h hand e i = record {
    live = ap (λ (a : Known Beside). a.view.part.is_spent) e ∙ i.live;
    thread = (i.thread.0, ap (λ (a : Known Beside). a.view.part.thread) e ∙ i.thread.1);
    turn = ap (λ (a : Known Beside). a.view.turn.has_it) e ∙ i.turn;
    places = i.places;
    wide = i.wide;
    records = i.records;
    shown = i.shown;
    stale = i.stale;
    hands = ap (λ (a : Known Beside). a.beside.turn) e ∙ i.hands;
    follows = i.follows;
    known = i.known;
    rings = i.rings;
    pages = i.pages;
  }

  module _ (me : Seated M ghosts) (h : TheHome M ghosts) (hand : List Held) (i : Holding sight o me.0 h hand) where
    abbrev box : List (ℕ × RedoRecord)
    box = boxes_held z hand

    abbrev old : Hands
    old = record (hands_of sight h i.records i.shown box) { lists = i.stale }

    abbrev now : Hands
    now = hands_of sight h i.records i.shown box

    -- what was handed over before
    pub grown : HasGrown me.0.beside.turn i.records
    grown hs e n has =
        let same : hs ≡ old = same_hands hs old (sym e ∙ i.hands) in
        let before : HasRecord i.stale.records n = subst (λ (a : Hands). HasRecord a.lists.records n) same has in
        subst (λ rs. HasRecord rs n) (sym i.follows.records) (has_behind i.follows.more i.stale.records n before)

    -- a step that leaves the lists as they are now
    abbrev went_on : (e : Event) (left : List (ℕ × Slot M ghosts)) (h2 : TheHome M ghosts) (next : List ℕ) (box2 : List (ℕ × RedoRecord)) (shown : ℕ) → h.back ≡ h2.back → h.pager ≡ h2.pager → next ≡ h2.next
        → (n n2 : ℕ) (w : Seated M ghosts) → view_after z e me.0.view n ≡ view_after z e me.0.view n2 → WentOn sight o e (record now { next = next; shown = shown; boxes = box2 }) left me n w → Went sight o e h2 box2 left me n2 w
    went_on e left h2 next box2 shown back pager nexts n n2 w blind t = record {
      records = i.records;
      shown = shown;
      seated = subst (IsSeated z) (sym t.view) t.told.after;
      view = t.view ∙ blind;
      beside = ap (λ (b : Beside). b.turn) t.beside ∙ ap (λ (a : TheHome M ghosts). Some (hands_of sight a i.records shown box2)) same;
      slots = t.slots;
      known = subst (λ b. KnownBy (since_of sight o) (lists (state_of b) i.records) (sight (medium_of b))) back i.known;
      grown = grown;
    }
      where
        same : record h { next = next } ≡ h2
        same = rw (back, pager, nexts) refl

    -- ---- the steps
    pub saw_acts : (id t : ℕ) → hand ≡ [] → t < z.threads → Acts (fact_of sight o) z (see_full t (get_or h.next t 0)) id me (SawFront sight o t h me)
    saw_acts id t none lt =
        let j : ℕ = get_or h.next t 0 in
        told_with (see_full t j) id me (SawFull sight o t j now me) (SawFront sight o t h me)
        (see_acts sight o id me i.turn old i.hands (lists (state_of h.back) i.records) i.follows t j lt (i.places t lt) (λ q among. contains_none (box_of z t j, q) (subst (λ bs. Contains bs (box_of z t j, q)) (ap (boxes_held z) none) among)))
        (λ c xs homes k allowed at f w s. record {
          records = i.records;
          shown = i.shown;
          known = i.known;
          grown = grown;
          saw = subst (λ b. SawFull sight o t j (hands_of sight h i.records i.shown b) me (get_or c.boxes (box_of z t j) 0) w) (ap (boxes_held z) none) s;
          drawn = λ mine idle n has. drawn_or_found (stage_of c) (lists (state_of h.back) i.records) box (now_lists sight o c xs homes k f id me.0.view me.0.beside allowed.is_there at i.turn old i.hands (lists (state_of h.back) i.records) i.follows)
              t j ((kept_by sight o c xs homes k f id me.0.view me.0.beside allowed.is_there at i.turn old i.hands (lists (state_of h.back) i.records) i.follows).count t)
              ((kept_by sight o c xs homes k f id me.0.view me.0.beside allowed.is_there at i.turn old i.hands (lists (state_of h.back) i.records) i.follows).queues.each t lt) me.0.view mine idle n ((k.layers.numbers.drawn id me.0.view allowed.is_there).each n has);
        })

    -- the boxes in hand are those of the hands that are kept
    pub box_kept : boxes_in me.0.beside.turn ≡ box
    box_kept = ap boxes_in i.hands

    -- a look that takes nothing
    raised : (e : Event) (shown n n2 : ℕ) (w : Seated M ghosts) → view_after z e me.0.view n ≡ view_after z e me.0.view n2 → i.stale.records ≡ i.records → IsRaisedTo e shown → RisesFrom e me.0.view → WentOn sight o e (record now { shown = shown }) me.1 me n w → Raised sight o e h me n2 w
    raised e shown n n2 w blind same is rises s = record {
      went = went_on e me.1 h h.next (boxes_in me.0.beside.turn) shown refl refl refl n n2 w blind (subst (λ b. WentOn sight o e (record now { shown = shown; boxes = b }) me.1 me n w) (sym box_kept) s);
      same = λ hs is. let hands_is : hs ≡ old = same_hands hs old (sym is ∙ i.hands) in ap (λ (a : Hands). a.lists.records) hands_is ∙ same;
      raised = is;
      rises = rises;
    }

    pub peek_acts_on : (id t j : ℕ) → i.stale.records ≡ i.records → Acts (fact_of sight o) z (see_full t j) id me (Raised sight o (see_full t j) h me)
    peek_acts_on id t j same =
        told_less (see_full t j) id me (WentOn sight o (see_full t j) now me.1 me) (Raised sight o (see_full t j) h me)
        (peek_acts sight o id me i.turn old i.hands (lists (state_of h.back) i.records) i.follows t j)
        (λ n w s. raised (see_full t j) i.shown n n w refl same tt tt s)

    -- a look that takes the record of one number alone
    pub look_acts_on : (id t j number : ℕ) → i.stale.records ≡ i.records → t < z.threads → j < z.boxes → 0 < number → ((b : ℕ) (q : RedoRecord) → Contains box (b, q) → q.number ≢ number)
        → Acts (fact_of sight o) z (see_full t j) id me (SawNext sight o t j number h me)
    look_acts_on id t j number same lt lj some_number others =
        told_less (see_full t j) id me (SawNumber sight o t j number now me) (SawNext sight o t j number h me)
        (look_acts sight o id me i.turn old i.hands (lists (state_of h.back) i.records) i.follows t j number lt lj some_number others)
        (λ n w s. record {
          records = i.records;
          shown = i.shown;
          known = i.known;
          grown = grown;
          same = λ hs is. let hands_is : hs ≡ old = same_hands hs old (sym is ∙ i.hands) in ap (λ (a : Hands). a.lists.records) hands_is ∙ same;
          saw = subst (λ b. SawNumber sight o t j number (hands_of sight h i.records i.shown b) me n w) (sym box_kept) s;
        })

    -- ---- the record of a box goes back into it, or the box is emptied
    module _ (p : Held) (left : List (ℕ × RedoRecord)) (among : Contains box (box_held z p, p.redo)) (leaves : Leaves box (box_held z p) left) where
      pub put_acts : (id : ℕ) (rest_slots : List (ℕ × Slot M ghosts)) → me.1 ≡ (box_held z p, Record p.redo) ∷ rest_slots → ((state_of h.back).dead ≡ false → (k : ℕ) (r : RedoRecord) → Contains box (k, r) → LacksRecord i.records r.number)
          → Acts (fact_of sight o) z (see_full p.thread p.place) id me (WentLacking sight o (see_full p.thread p.place) h left rest_slots me)
      put_acts id rest_slots slots lacks =
          told_less (see_full p.thread p.place) id me (WentOn sight o (see_full p.thread p.place) (record now { boxes = left }) rest_slots me) (WentLacking sight o (see_full p.thread p.place) h left rest_slots me)
          (put_back_acts sight o id me i.turn old i.hands (lists (state_of h.back) i.records) i.follows p.thread p.place p.redo left rest_slots among leaves slots (λ alive. lacks alive (box_held z p) p.redo among))
          (λ n w s. record { went = went_on (see_full p.thread p.place) rest_slots h h.next left i.shown refl refl refl n n w refl s; lacks = λ alive k r more. lacks alive k r (leaves.was k r more).0 })

      pub empty_acts_on : (id : ℕ) (rest_slots : List (ℕ × Slot M ghosts)) (h2 : TheHome M ghosts) → p.thread < z.threads → p.place ≡ get_or h.next p.thread 0 → h.back ≡ h2.back → h.pager ≡ h2.pager → set h.next p.thread (place_at z (get_or h.next p.thread 0) 1) ≡ h2.next
          → me.1 ≡ (box_of z p.thread (get_or h.next p.thread 0), Empty) ∷ rest_slots → ((k : ℕ) (r : RedoRecord) → Contains box (k, r) → HasRecord i.records r.number × (writes_in i.records r.number ≡ r.writes))
          → Acts (fact_of sight o) z (empty_box p.thread (get_or h.next p.thread 0)) id me (λ n. WentHanded sight o (empty_box p.thread (get_or h.next p.thread 0)) h2 left rest_slots me 0)
      empty_acts_on id rest_slots h2 lt front back pager nexts slots handed =
          let place : ℕ = get_or h.next p.thread 0 in let mine = handed (box_held z p) p.redo among in
          told_less (empty_box p.thread place) id me (WentOn sight o (empty_box p.thread place) (record now { next = set h.next p.thread (place_at z place 1); boxes = left }) rest_slots me) (λ n. WentHanded sight o (empty_box p.thread place) h2 left rest_slots me 0)
          (empty_acts sight o id me i.turn old i.hands (lists (state_of h.back) i.records) i.follows p.thread p.redo left rest_slots lt (subst (λ (d : ℕ). Contains box (box_of z p.thread d, p.redo)) front among) (subst (λ (d : ℕ). Leaves box (box_of z p.thread d) left) front leaves) slots mine.0 mine.1)
          (λ n w s. record { went = went_on (empty_box p.thread place) rest_slots h2 (set h.next p.thread (place_at z place 1)) left i.shown back pager nexts n 0 w refl s; handed = λ k r more. handed k r (leaves.was k r more).0 })

    pub durable_acts_on : (id d : ℕ) → i.stale.records ≡ i.records → d ≤ (state_of h.back).log.durable → Acts (fact_of sight o) z (raise_durable d) id me (λ n. Raised sight o (raise_durable d) h me 0)
    durable_acts_on id d same le =
        told_less (raise_durable d) id me (WentOn sight o (raise_durable d) now me.1 me) (λ n. Raised sight o (raise_durable d) h me 0)
        (durable_acts sight o id me i.turn old i.hands (lists (state_of h.back) i.records) i.follows d le)
        (λ n w s. raised (raise_durable d) i.shown n 0 w refl same tt (let a = s.told.word.0 in let b = s.told.word.1 in omega arith) s)

    pub reproduced_acts_on : (id d : ℕ) → i.stale.records ≡ i.records → d ≤ (state_of h.back).log.reproduced → Acts (fact_of sight o) z (raise_reproduced d) id me (λ n. Raised sight o (raise_reproduced d) h me 0)
    reproduced_acts_on id d same le =
        told_less (raise_reproduced d) id me (WentOn sight o (raise_reproduced d) (record now { shown = d }) me.1 me) (λ n. Raised sight o (raise_reproduced d) h me 0)
        (reproduced_acts sight o id me i.turn old i.hands (lists (state_of h.back) i.records) i.follows d le)
        (λ n w s. raised (raise_reproduced d) d n 0 w refl same refl tt s)

    pub give_acts_on : (id : ℕ) (failed : Bool) → hand ≡ [] → me.1 ≡ (back_slot z, Home h) ∷ [] → IsSettled (state_of h.back) → (failed ≡ true → (state_of h.back).dead ≡ true) → Acts (fact_of sight o) z (give_turn failed) id me (λ n. GaveTurn sight o failed me 0)
    give_acts_on id failed none slots settled fault =
        told_less (give_turn failed) id me (GaveTurn sight o failed me) (λ n. GaveTurn sight o failed me 0)
        (give_acts sight o id me i.turn old i.hands (lists (state_of h.back) i.records) i.follows failed h slots
        (record { state = refl; next = refl; map = refl; known = i.known.is; settled = settled; boxes = ap (boxes_held z) none }) fault)
        (λ n w g. record { seated = g.seated; view = g.view; beside = g.beside; slots = g.slots })

    -- ---- what the steps ask of the rest
    module _ (id : ℕ) (s : TableState (Slot M ghosts) (Known Beside)) (hs : Holds (fact_of sight o) z s) (at : get_elem? s.views id ≡ some me.0) where
      view_there : get_elem? hs.core.views id ≡ some me.0.view
      view_there = rw (← hs.views) (at_map view_of s.views id me.0 at)

      lists_now : ListsKept z (stage_of hs.core) (lists (state_of h.back) i.records) box
      lists_now = now_lists sight o hs.core (map beside_of s.views) s.homes hs.kept hs.slots id me.0.view me.0.beside view_there (at_map beside_of s.views id me.0 at) i.turn old i.hands (lists (state_of h.back) i.records) i.follows

      boxes_now : BoxSlots sight z (stage_of hs.core) box s.homes
      boxes_now = (kept_by sight o hs.core (map beside_of s.views) s.homes hs.kept hs.slots id me.0.view me.0.beside view_there (at_map beside_of s.views id me.0 at) i.turn old i.hands (lists (state_of h.back) i.records) i.follows).boxes

      hand_number : (k : ℕ) (r : RedoRecord) → Contains box (k, r) → get_or hs.core.boxes k 0 ≡ r.number
      hand_number k r e = read_there hs.core.boxes k r.number (boxes_now.hand k r e).0.0

      -- the durable number of the back is at most the clock
      upto_clock : (d : ℕ) → IsReached z.first i.records d → d ≤ hs.core.clock
      upto_clock d reached = dite (dec_lt z.first d)
          (λ lt. ⊎_elim
          (λ old. (hs.kept.layers.numbers.placed.of_persisted d old).2)
          (λ b. (hs.kept.layers.numbers.placed.of_boxes d b.0 b.1.0 (omega arith)).2)
          (lists_now.handed d (reached d lt (omega arith))))
          (λ ge. let low = hs.kept.layers.locks.numbers.from in omega arith)

    pub empty_fits : (id : ℕ) (p : Held) → Contains hand p → p.place ≡ get_or h.next p.thread 0 → Foreseen (fact_of sight o) z (empty_box p.thread (get_or h.next p.thread 0)) id me.0
    empty_fits id p among front s hs at =
        let k : ℕ = box_of z p.thread (get_or h.next p.thread 0) in let b : Contains box (k, p.redo) = subst (λ (d : ℕ). Contains box (box_of z p.thread d, p.redo)) front (box_in z hand p among) in
        let n = hand_number id s hs at k p.redo b in let pos = (boxes_now id s hs at).hand k p.redo b in let some_number = pos.1 in omega arith

    pub durable_fits : (id d : ℕ) → IsReached z.first i.records d → (state_of h.back).log.durable ≤ d → Foreseen (fact_of sight o) z (raise_durable d) id me.0
    durable_fits id d reached le s hs at = let a = (lists_now id s hs at).durable in ((omega arith), upto_clock id s hs at d reached)

    pub reproduced_fits : (id d : ℕ) → d ≡ me.0.view.turn.durable → d ≡ (state_of h.back).log.reproduced → Foreseen (fact_of sight o) z (raise_reproduced d) id me.0
    reproduced_fits id d told is s hs at =
        let a = (lists_now id s hs at).reproduced in let turn = hs.kept.layers.turn in let b = turn.durable.drawn in let e = (turn.each id me.0.view (view_there id s hs at)).raised in
        ((omega arith), (omega arith))

    -- ---- what it has after a step, and after a call of the back
    abbrev pub went_holding : (h2 : TheHome M ghosts) (hand2 : List Held) (e : Event) (left : List (ℕ × Slot M ghosts)) (n : ℕ) (w : Seated M ghosts) → Went sight o e h2 (boxes_held z hand2) left me n w → h2.back ≡ h.back
        → (view_after z e me.0.view n).part ≡ me.0.view.part → (view_after z e me.0.view n).turn.has_it ≡ me.0.view.turn.has_it → ((u : ℕ) → u < z.threads → get_or h2.next u 0 < z.boxes) → z.threads ≤ length h2.next → Holding sight o w.0 h2 hand2
    went_holding h2 hand2 e left n w t back part has places wide =
        let part2 : w.0.view.part ≡ me.0.view.part = ap (λ (v : View). v.part) t.view ∙ part in record {
          live = ap (λ (p : Part). p.is_spent) part2 ∙ i.live;
          thread = (i.thread.0, ap (λ (p : Part). p.thread) part2 ∙ i.thread.1);
          turn = ap (λ (v : View). v.turn.has_it) t.view ∙ (has ∙ i.turn);
          places = places;
          wide = wide;
          records = t.records;
          shown = t.shown;
          stale = lists (state_of h2.back) t.records;
          hands = t.beside;
          follows = follows_same z h2.next (boxes_held z hand2) (lists (state_of h2.back) t.records) t.known.lawful;
          known = t.known;
          rings = subst (λ b. z.threads ≤ (state_of b).log.sizes.rings) (sym back) i.rings;
          pages = subst (λ b. (state_of b).log.sizes.pages ≡ z.pages) (sym back) i.pages;
        }

    abbrev pub called_holding : (h2 : TheHome M ghosts) (records : List RedoRecord) → h2.next ≡ h.next → h2.pager ≡ h.pager → Follows z h.next box i.stale (lists (state_of h2.back) records) → KnownBy (since_of sight o) (lists (state_of h2.back) records) (sight (medium_of h2.back)) → Holding sight o me.0 h2 hand
    called_holding h2 records next pager follows known = record {
      live = i.live;
      thread = i.thread;
      turn = i.turn;
      places = rw next i.places;
      wide = rw next i.wide;
      records = records;
      shown = i.shown;
      stale = i.stale;
      hands = rw (next, pager) i.hands;
      follows = rw next follows;
      known = known;
      rings = (let e = ap (λ s. s.rings) (follows.sizes ∙ sym i.follows.sizes) in let a = i.rings in omega arith);
      pages = ap (λ s. s.pages) (follows.sizes ∙ sym i.follows.sizes) ∙ i.pages;
    }

  -- the turn was taken, and what its slot has with it
  pub took_hands : (hands : Hands) (home : TheHome M ghosts) → IsHome sight o home hands → hands ≡ hands_of sight home hands.lists.records hands.shown []
  took_hands hands home is = rw (is.state, is.next, is.map, is.boxes) refl

  abbrev pub took_holding : (m w : Seated M ghosts) (t : Took sight o m w) → m.0.view.part.is_spent ≡ false → HasThread m.0.view → Holding sight o w.0 t.home []
  took_holding m w t live thread =
      let part : w.0.view.part ≡ m.0.view.part = ap (λ (v : View). v.part) t.view in let is = t.is in
      let same : lists (state_of t.home.back) t.hands.lists.records ≡ t.hands.lists = ap (λ s. lists s t.hands.lists.records) is.state in
      let lawful : LawfulLists z.first (lists (state_of t.home.back) t.hands.lists.records) = subst (LawfulLists z.first) (sym same) t.lawful in record {
        live = ap (λ (p : Part). p.is_spent) part ∙ live;
        thread = (thread.0, ap (λ (p : Part). p.thread) part ∙ thread.1);
        turn = ap (λ (v : View). v.turn.has_it) t.view;
        places = λ u lt. subst (λ (l : List ℕ). get_or l u 0 < z.boxes) (sym is.next) (t.places u lt);
        wide = subst (λ (l : List ℕ). z.threads ≤ length l) (sym is.next) t.wide;
        records = t.hands.lists.records;
        shown = t.hands.shown;
        stale = lists (state_of t.home.back) t.hands.lists.records;
        hands = ap (λ (b : Beside). b.turn) t.beside ∙ ap (λ (a : Hands). Some a) (took_hands t.hands t.home is);
        follows = follows_same z t.home.next [] (lists (state_of t.home.back) t.hands.lists.records) lawful;
        known = record { lawful = lawful; is = subst (λ l. IsKnown (since_of sight o) l (sight (medium_of t.home.back))) (sym same) is.known };
        rings = subst (λ s. z.threads ≤ s.log.sizes.rings) (sym is.state) t.rings;
        pages = subst (λ s. s.log.sizes.pages ≡ z.pages) (sym is.state) t.pages;
      }
