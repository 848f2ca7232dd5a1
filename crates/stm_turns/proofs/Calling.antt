-- What the thread with the turn has behind a call of the back.
use Rattle.std.proofs.Common.{◌≡◌, ◌≢◌, ◌↔◌, ℕ, ◌+◌, ◌*◌, ◌<◌, ◌≤◌, ◌⊎◌, Bool, true, false, List, ◌++◌, All, length, get_or, refl, sym, ap, ◌∙◌, subst, inl, inr, ⊎_elim, eq-eqb, ne_eqb, arith}
use Rattle.std.specs.Prelude.{Result, Ok, Err, IfOk, IsErrOf}
use Rattle.std.specs.List.{Contains}
use Rattle.std.proofs.lemmas.Bool.{true≢false}
use Rattle.std.proofs.lemmas.List.{get_or_default}
use Rattle.std.proofs.lemmas.List.Elements.{All-contains}
use mathlib.Core.Logic.{dite}
use native.Mathlib.Decide.{ℕ_discrete}
use Rattle.dude_base.specs.Records.{RedoBundle, RedoRecord, first_of}
use Rattle.dude_base.specs.declared.limits.TheConstants.{PAGE}
use Rattle.pmem_trait.specs.Sights.{Sight}
use Rattle.pmem_trait.specs.declared.medium.Medium.{Ghosts}
use Rattle.redo_record.specs.Waiting.{IsEnd as IsAnyEnd}
use Rattle.redo_record.proofs.WaitingRecords.{consecutive_up}
use Rattle.back_store.specs.Backlog.{StopsAfter}
use Rattle.back_store.proofs.ReleasedRecords.{released_waiting}
use Rattle.back_store.specs.declared.back.Back.{Back}
use Rattle.back_store.specs.declared.back_fault.BackFault.{BackFault}
use Rattle.back_store.specs.declared.back_fault.BackFault.TheVariants.{RingFull, Device, Dead}
use Rattle.back_store.specs.Back.{BackState, IsEnd, MayPersist, waiting_now, waiting_of_ring}
use Rattle.back_store.specs.BackView.{medium_of, state_of}
use Rattle.back_store.specs.Answers.{after_announce, after_persist, after_reproduce, announced, reproduced, with_record}
use Rattle.atomic_table.specs.declared.shared.Seat.{Seat}
use Rattle.core_events.specs.Setups.{Setup, box_of}
use Rattle.core_table.specs.Known.{Known}
use Rattle.core_table.specs.Layout.{TableSight}
use Rattle.stm_slots.specs.KnownLists.{LawfulLists, lists}
use Rattle.stm_slots.specs.Records.{AreNew, JoinsJust, LacksRecord, IsReached}
use Rattle.stm_slots.specs.Known.{Known as KnownBy, Since}
use Rattle.stm_slots.specs.Calls.{handed}
use Rattle.stm_slots.proofs.JoinedRecords.{has_front, over_reached, writes_front}
use Rattle.stm_slots.proofs.Lawful.{end_of, may_persist}
use Rattle.stm_slots.specs.Beside.{Beside}
use Rattle.stm_slots.specs.Opening.{setup_of, since_of}
use Rattle.stm_slots.specs.Lists.{IsSettled}
use Rattle.stm_slots.specs.Turns.{BeginsHanded, IsTaken}
use Rattle.stm_slots.specs.declared.home.Home.{Home as TheHome}
use Rattle.stm_slots.specs.declared.slot.Slot.{Slot}
use Rattle.stm_slots.specs.declared.opening.Opening.{Opening}
use Rattle.stm_slots.proofs.Following.{follows_on, follows_handed, waits_reproduced, waits_with_record}
use Rattle.stm_slots.proofs.Queueing.{place_here}
use Rattle.stm_slots.proofs.Taken.{contains_here}
use Rattle.stm_turns.specs.Holding.{Held, IsHeld, IsInHand, Holding, box_held, boxes_held}
use Rattle.stm_turns.specs.Turns.{AdvancedOn, IsAnnounced, InTurn, KeepsPlaces}
use Rattle.stm_turns.specs.Bundles.{InTurnWith, MayEmptyAll, MayPutAllBack, SteppedWith}
use Rattle.stm_turns.specs.Gathered.{AreFronts, IsGathered}
use Rattle.stm_turns.specs.declared.gathering.Gathering.{Gathering}
use Rattle.stm_slots.specs.Queues.{place_at}
use Rattle.stm_turns.proofs.HeldRecords.{box_in}
use Rattle.stm_turns.proofs.Gatherings.{gathered_new}
use Rattle.stm_turns.proofs.Seats.{same_turn}
use Rattle.stm_turns.proofs.Holdings.{called_holding}

-- what a call that hands over nothing leaves of a back
pub record GoesOn (threads : ℕ) (v w : BackState) : Type 0 where
  pub sizes : w.log.sizes ≡ v.log.sizes
  pub durable : v.log.durable ≤ w.log.durable
  pub reproduced : v.log.reproduced ≤ w.log.reproduced
  pub dead : v.dead ≡ true → w.dead ≡ true
  pub alive : w.dead ≡ false → v.dead ≡ false
  pub waits : w.dead ≡ false → (t : ℕ) (q : RedoBundle) → t < threads → Contains (waiting_of_ring w t) q → Contains (waiting_of_ring v t) q

ok_or_err : {X : Type 0} (r : Result X BackFault) (x : X) (e : BackFault) → r ≡ Ok x → r ≡ Err e → ⊥
ok_or_err r x e ok err = cc

pub not_true : (b : Bool) → (b ≡ true → ⊥) → b ≡ false
not_true true none = absurd (none refl)
not_true false none = refl

pub alive_unless : {X : Type 0} (v : BackState) (r : Result X BackFault) (x : X) → r ≡ Ok x → (IsErrOf r Dead ↔ (v.dead ≡ true)) → v.dead ≡ false
alive_unless v r x ok dead = not_true v.dead (λ e. ok_or_err r x Dead ok (dead.1 e))

module _ (threads first : ℕ) (v : BackState) (rs : List RedoRecord) (lawful : LawfulLists first (lists v rs)) where
  goes_same : GoesOn threads v v
  goes_same = record { sizes = refl; durable = omega arith; reproduced = omega arith; dead = λ e. e; alive = λ e. e; waits = λ alive t q lt among. among }

  goes_dead : GoesOn threads v (record v { dead = true })
  goes_dead = record { sizes = refl; durable = omega arith; reproduced = omega arith; dead = λ e. refl; alive = λ e. absurd (true≢false e); waits = λ alive t q lt among. absurd (true≢false alive) }

  pub announce_goes : (w : BackState) (result : Result ℕ BackFault) → IfOk result (IsEnd v) → w ≡ after_announce result v → (IsErrOf result Dead ↔ (v.dead ≡ true)) → GoesOn threads v w
  announce_goes w (Ok n) end is dead =
      let up = (end_of first (lists v rs) lawful (alive_unless v (Ok n) n refl dead) n end).up in
      subst (GoesOn threads v) (sym is) (record { sizes = refl; durable = up; reproduced = omega arith; dead = λ e. e; alive = λ e. e; waits = λ alive t q lt among. among })
  announce_goes w (Err (RingFull used need)) end is dead = subst (GoesOn threads v) (sym is) goes_same
  announce_goes w (Err Device) end is dead = subst (GoesOn threads v) (sym is) goes_dead
  announce_goes w (Err Dead) end is dead = subst (GoesOn threads v) (sym is) goes_same

  -- where a number was announced
  pub record Announced (n : ℕ) (w : BackState) : Type 0 where
    pub is : IsAnnounced w n
    pub reached : IsReached first rs n
    pub lacks : LacksRecord rs (n + 1)

  pub announced_ok : (w : BackState) (n : ℕ) (r : Result ℕ BackFault) → r ≡ Ok n → IsEnd v n → w ≡ announced v n → (IsErrOf r Dead ↔ (v.dead ≡ true)) → Announced n w
  announced_ok w n r ok end is dead =
      let alive = alive_unless v r n ok dead in let e = end_of first (lists v rs) lawful alive n end in
      subst (Announced n) (sym is) (record { is = record { alive = alive; durable = refl; next = end.greatest }; reached = e.reached; lacks = e.next })

  -- a reproduction stops at no lesser number
  stop_over : (most n : ℕ) → StopsAfter v.log most n → v.log.reproduced ≤ n
  stop_over most n (inl near) = consecutive_up v.log.reproduced n near.0.end.records near.0.end.lead.consecutive
  stop_over most n (inr next) = let over = next.3.over in omega arith

  pub reproduce_goes : (w : BackState) (most : ℕ) (result : Result ℕ BackFault) → IfOk result (StopsAfter v.log most) → w ≡ after_reproduce result v → threads ≤ length v.log.lanes → GoesOn threads v w
  reproduce_goes w most (Ok n) stop is wide = subst (GoesOn threads v) (sym is) (record {
    sizes = dite (ℕ_discrete n v.log.reproduced) (λ e. rw (eq-eqb n v.log.reproduced e) refl) (λ o. rw (ne_eqb n v.log.reproduced o) refl);
    durable = (let same : (reproduced v n).log.durable ≡ v.log.durable = dite (ℕ_discrete n v.log.reproduced) (λ e. rw (eq-eqb n v.log.reproduced e) refl) (λ o. rw (ne_eqb n v.log.reproduced o) refl) in omega arith);
    reproduced = (let over = stop_over most n stop in let there : (reproduced v n).log.reproduced ≡ n = dite (ℕ_discrete n v.log.reproduced) (λ e. rw (eq-eqb n v.log.reproduced e) (sym e)) (λ o. rw (ne_eqb n v.log.reproduced o) refl) in omega arith);
    dead = λ e. same_dead n ∙ e;
    alive = λ e. sym (same_dead n) ∙ e;
    waits = λ alive t q lt among. waits_reproduced v n t q (omega arith) among;
  })
    where
      same_dead : (n : ℕ) → (reproduced v n).dead ≡ v.dead
      same_dead n = dite (ℕ_discrete n v.log.reproduced) (λ e. rw (eq-eqb n v.log.reproduced e) refl) (λ o. rw (ne_eqb n v.log.reproduced o) refl)
  reproduce_goes w most (Err (RingFull used need)) stop is wide = subst (GoesOn threads v) (sym is) goes_same
  reproduce_goes w most (Err Device) stop is wide = subst (GoesOn threads v) (sym is) goes_dead
  reproduce_goes w most (Err Dead) stop is wide = subst (GoesOn threads v) (sym is) goes_same

  -- what waits leads to the durable number
  here : IsAnyEnd (waiting_now v) v.log.reproduced v.log.durable
  here = record { records = lawful.log.led.records; lead = lawful.log.led.lead }

  -- a reproduction of as many numbers as the durable one stops there
  pub stops_at_durable : (n : ℕ) → StopsAfter v.log v.log.durable n → n ≡ v.log.durable
  stops_at_durable n (inl near) = let a = near.0.announced in let b = near.0.last v.log.durable here (omega arith) (omega arith) in omega arith
  stops_at_durable n (inr next) = let a = next.1 in let b = next.2.last v.log.durable here (omega arith) (omega arith) in absurd (omega arith)

  -- where all that is durable was reproduced
  pub record Reproduced (n : ℕ) (w : BackState) : Type 0 where
    pub is : IsAnnounced w n
    pub reproduced : w.log.reproduced ≡ n

  pub reproduced_ok : (w : BackState) (d n : ℕ) → IsAnnounced v d → StopsAfter v.log v.log.durable n → w ≡ reproduced v n → Reproduced n w
  reproduced_ok w d n a stop is =
      let n_is : n ≡ v.log.durable = stops_at_durable n stop in let d_is = a.durable in
      subst (Reproduced n) (sym is) (dite (ℕ_discrete n v.log.reproduced)
      (λ e. rw (eq-eqb n v.log.reproduced e) (record { is = record { alive = a.alive; durable = sym n_is; next = λ u among. subst (λ m. first_of u.redo ≢ m + 1) (sym d_is ∙ sym n_is) (a.next u among) }; reproduced = sym e }))
      (λ o. rw (ne_eqb n v.log.reproduced o) (record {
        is = record { alive = a.alive; durable = sym n_is; next = λ u among. subst (λ m. first_of u.redo ≢ m + 1) (sym d_is ∙ sym n_is) (a.next u ((released_waiting n v.log.lanes).only u among).0) };
        reproduced = refl;
      })))

  -- a call that persists a record
  pub persist_goes : (w : BackState) (result : Result (Unit {0}) BackFault) (ring : ℕ) (b : RedoBundle) → ((d : Unit {0}) → result ≡ Ok d → ⊥) → w ≡ after_persist result ring b v → GoesOn threads v w
  persist_goes w (Ok d) ring b not_ok is = absurd (not_ok d refl)
  persist_goes w (Err (RingFull used need)) ring b not_ok is = subst (GoesOn threads v) (sym is) goes_same
  persist_goes w (Err Device) ring b not_ok is = subst (GoesOn threads v) (sym is) goes_dead
  persist_goes w (Err Dead) ring b not_ok is = subst (GoesOn threads v) (sym is) goes_same

none_newer : (xs : List RedoBundle) (n : ℕ) → ((q : RedoBundle) → Contains xs q → q.last < n) → All (λ q. q.last < n) xs
none_newer xs n each q d lt = each (get_or xs q d) (q, lt, get_or_default xs q (get_or xs q d) d lt)

module _ {M : Type 0} {ghosts : Ghosts M} (sight : M → Sight) (t : TableSight (Opening M ghosts)) where
  abbrev z : Setup
  z = setup_of sight t.key

  abbrev TurnSeat : Type 0
  TurnSeat = Seat (Slot M ghosts) (Known Beside)

  pub in_hand_on : (v w : BackState) (rs : List RedoRecord) (hand : List Held) → GoesOn z.threads v w → IsInHand z (lists v rs) hand → IsInHand z (lists w rs) hand
  in_hand_on v w rs hand goes held p among = let h = held p among in let may = h.may in record {
    inside = h.inside;
    near = h.near;
    may = record {
      list = may.list;
      home = may.home;
      over = may.over;
      small = may.small;
      lacks = λ alive. may.lacks (goes.alive alive);
      newest = λ alive. none_newer (waiting_of_ring w p.thread) p.redo.number (λ q in_ring. All-contains (λ (b : RedoBundle). b.last < p.redo.number) (waiting_of_ring v p.thread) q (may.newest (goes.alive alive)) (goes.waits alive p.thread q h.inside in_ring));
    };
  }

  module _ (seat : TurnSeat) (h : TheHome M ghosts) (hand : List Held) (i : InTurn sight t seat h hand) where
    -- a call that hands over nothing
    abbrev pub called_turn : (b : Back M ghosts) → KnownBy (since_of sight t.key) (lists (state_of b) i.holding.records) (sight (medium_of b)) → GoesOn z.threads (state_of h.back) (state_of b) → InTurn sight t seat (record h { back = b }) hand
    called_turn b known goes = record {
      belongs = i.belongs;
      setup = i.setup;
      holding = called_holding sight t.key seat.me h hand i.holding (record h { back = b }) i.holding.records refl refl
          (follows_on z h.next (boxes_held z hand) i.holding.stale (state_of h.back) i.holding.records i.holding.follows (state_of b) goes.sizes goes.durable goes.reproduced goes.dead goes.alive known.lawful goes.waits) known;
      slots = i.slots;
      same = i.same;
      in_hand = in_hand_on (state_of h.back) (state_of b) i.holding.records hand goes i.in_hand;
    }

  -- each thread has a lane
  pub lanes_of_threads : (seat : TurnSeat) (h : TheHome M ghosts) (hand : List Held) → InTurn sight t seat h hand → z.threads ≤ length (state_of h.back).log.lanes
  lanes_of_threads seat h hand i = let rings = i.holding.rings in let count = i.holding.known.lawful.log.lanes.count in omega arith

  -- ---- a bundle is persisted
  module _ (seat : TurnSeat) (h : TheHome M ghosts) (g : Gathering) (w : InTurnWith sight t seat h g) where
    abbrev v : BackState
    v = state_of h.back

    abbrev rs : List RedoRecord
    rs = w.turn.holding.records

    abbrev bundle : RedoBundle
    bundle = g.bundle

    abbrev boxes : List (ℕ × RedoRecord)
    boxes = boxes_held z w.hand

    abbrev first : Held
    first = w.gathered.joined.first

    abbrev more : List RedoRecord
    more = w.gathered.joined.records

    first_in : Contains w.hand first
    first_in = subst (λ (l : List Held). Contains l first) (sym w.gathered.joined.hand_is) (contains_here first w.gathered.joined.others)

    first_held : IsHeld z (lists v rs) first
    first_held = w.turn.in_hand first first_in

    pub ring_inside : g.ring < z.threads
    ring_inside = subst (λ (u : ℕ). u < z.threads) w.gathered.joined.ring_is first_held.inside

    pub ring_lane : g.ring < length v.log.lanes
    ring_lane = let a = ring_inside in let b = lanes_of_threads seat h w.hand w.turn in omega arith

    pub newest_with : v.dead ≡ false → All (λ q. q.last < first_of bundle) (waiting_of_ring v g.ring)
    newest_with alive = subst (λ (u : ℕ). All (λ q. q.last < first_of bundle) (waiting_of_ring v u)) w.gathered.joined.ring_is
        (subst (λ (m : ℕ). All (λ q. q.last < m) (waiting_of_ring v first.thread)) w.gathered.joined.first_is (first_held.may.newest alive))

    pub new_with : v.dead ≡ false → AreNew z.first rs more
    new_with alive = gathered_new z (lists v rs) w.hand g.ring bundle w.gathered.joined w.turn.in_hand alive

    pub first_over : v.dead ≡ false → v.log.durable < first_of bundle
    first_over alive = let j = w.gathered.joined in let f = j.first_is in
        let over = over_reached z.first v.log.durable first.redo.number rs first_held.may.over (first_held.may.lacks alive) (w.turn.holding.known.lawful.live alive).reached in omega arith

    pub may_persist_with : v.dead ≡ false → MayPersist v g.ring bundle
    may_persist_with alive = let j = w.gathered.joined in
        may_persist z.first (lists v rs) w.turn.holding.known.lawful alive bundle more j.joins (new_with alive) g.ring (let a = ring_inside in let b = w.turn.holding.rings in omega arith)
        (record { low = (let o = first_held.may.over in let f = j.first_is in omega arith); high = j.small }) (newest_with alive) (subst (λ (p : ℕ). All (λ w. w.at < p * PAGE) bundle.writes) (sym w.turn.holding.pages) j.home)

    -- its first record was taken from the front of its thread's boxes
    pub begins_with : BeginsHanded z h.next boxes (more ++ rs) g.ring bundle
    begins_with = let j = w.gathered.joined in
        let front = subst (λ (l : List Held). AreFronts z h.next l g.ahead) j.hand_is w.gathered.fronts in
        let start : get_or h.next g.ring 0 < z.boxes = w.turn.holding.places g.ring ring_inside in
        let there : place_at z (get_or h.next g.ring 0) 0 ≡ first.place = place_here z (get_or h.next g.ring 0) start ∙ (ap (λ (u : ℕ). get_or h.next u 0) (sym j.ring_is) ∙ sym front.1) in
        let box_is : box_held z first ≡ box_of z g.ring (place_at z (get_or h.next g.ring 0) 0) = ap (λ (u : ℕ). box_of z u first.place) j.ring_is ∙ ap (box_of z g.ring) (sym there) in
        let taken : IsTaken z h.next boxes g.ring 0 first.redo = record { inside = ring_inside; near = (omega arith); among = subst (λ (k : ℕ). Contains boxes (k, first.redo)) box_is (box_in z w.hand first first_in) } in
        record {
          begins = record {
            i = 0;
            r = first.redo;
            number = j.first_is;
            taken_is = taken;
            upto = λ i le. (first.redo, subst (λ (d : ℕ). IsTaken z h.next boxes g.ring d first.redo) (let e : 0 ≡ i = omega arith in e) taken, has_front more rs first.redo.number (j.has first first_in).0);
          };
          covered = λ n c. has_front more rs n (j.joins.joins.has n c);
        }

    -- what the seat knows where the records were handed over, or perhaps were
    abbrev pub handed_holding : v.dead ≡ false → (b : Back M ghosts) → KnownBy (since_of sight t.key) (lists (state_of b) (more ++ rs)) (sight (medium_of b)) → (state_of b).log.sizes ≡ v.log.sizes → v.log.durable ≤ (state_of b).log.durable → v.log.reproduced ≤ (state_of b).log.reproduced
        → ((state_of b).dead ≡ false → (u : ℕ) (q : RedoBundle) → u < z.threads → Contains (waiting_of_ring (state_of b) u) q → Contains (waiting_of_ring v u) q ⊎ ((u ≡ g.ring) × (q ≡ bundle))) → Holding sight t.key seat.me.0 (record h { back = b }) w.hand
    handed_holding alive b known sizes durable reproduced waits = called_holding sight t.key seat.me h w.hand w.turn.holding (record h { back = b }) (more ++ rs) refl refl
        (follows_handed z h.next boxes w.turn.holding.stale v rs w.turn.holding.follows (state_of b) sizes durable reproduced (λ e. absurd (true≢false (sym e ∙ alive))) (λ e. alive) more known.lawful (new_with alive)
        (λ n has. let o = w.gathered.joined.only n has in (box_held z o.0, subst (λ (r : RedoRecord). Contains boxes (box_held z o.0, r)) o.2 (box_in z w.hand o.0 o.1)))
        (λ e u q lt in_ring. ⊎_elim inl (λ new. inr (rw (new.0, new.1) begins_with)) (waits e u q lt in_ring))) known

    pub persisted_with : v.dead ≡ false → (b : Back M ghosts) → KnownBy (since_of sight t.key) (lists (state_of b) (more ++ rs)) (sight (medium_of b)) → state_of b ≡ with_record g.ring bundle v → MayEmptyAll sight t seat (record h { back = b }) g
    persisted_with alive b known is = record {
      hand = w.hand;
      may = record {
        letting = record {
          belongs = w.turn.belongs;
          setup = w.turn.setup;
          holding = handed_holding alive b known (ap (λ (s : BackState). s.log.sizes) is) (let e = ap (λ (s : BackState). s.log.durable) is in omega arith) (let e = ap (λ (s : BackState). s.log.reproduced) is in omega arith)
              (λ e u q lt among. waits_with_record v g.ring bundle ring_lane u q (subst (λ (s : BackState). Contains (waiting_of_ring s u) q) is among));
          slots_are = w.turn.slots;
          near = λ p among. (w.turn.in_hand p among).near;
          apart = w.gathered.apart;
        };
        ahead = g.ahead;
        fronts = w.gathered.fronts;
        handed = λ p among. let q = w.gathered.joined.has p among in (has_front more rs p.redo.number q.0, writes_front more rs p.redo.number q.0 ∙ q.1);
      };
      threads = w.gathered.threads;
      some = w.gathered.some;
    }

    pub died_with : v.dead ≡ false → (b : Back M ghosts) → KnownBy (since_of sight t.key) (lists (state_of b) (more ++ rs)) (sight (medium_of b)) → state_of b ≡ record v { dead = true } → MayPutAllBack sight t seat (record h { back = b }) g
    died_with alive b known is = let dead : (state_of b).dead ≡ true = ap (λ (s : BackState). s.dead) is in record {
      hand = w.hand;
      may = record {
        letting = record {
          belongs = w.turn.belongs;
          setup = w.turn.setup;
          holding = handed_holding alive b known (ap (λ (s : BackState). s.log.sizes) is) (let e = ap (λ (s : BackState). s.log.durable) is in omega arith) (let e = ap (λ (s : BackState). s.log.reproduced) is in omega arith) (λ e u q lt among. absurd (true≢false (sym dead ∙ e)));
          slots_are = w.turn.slots;
          near = λ p among. (w.turn.in_hand p among).near;
          apart = w.gathered.apart;
        };
        ahead = g.ahead;
        fronts = w.gathered.fronts;
        lacks = λ e. absurd (true≢false (sym dead ∙ e));
      };
      threads = w.gathered.threads;
      some = w.gathered.some;
    }

    -- what is known behind a persist of the bundle
    pub known_with : v.dead ≡ false → (b : Back M ghosts) (result : Result (Unit {0}) BackFault)
        → ((since : Since) (before others : List RedoRecord) → JoinsJust others bundle → AreNew since.first before others → KnownBy since (lists v before) (sight (medium_of h.back)) → KnownBy since (lists (state_of b) (handed result others before)) (sight (medium_of b)))
        → KnownBy (since_of sight t.key) (lists (state_of b) (handed result more rs)) (sight (medium_of b))
    known_with alive b result takes = takes (since_of sight t.key) rs more w.gathered.joined.joins (new_with alive) w.turn.holding.known

    -- where its ring was full
    pub full_with : (b : Back M ghosts) → KnownBy (since_of sight t.key) (lists (state_of b) rs) (sight (medium_of b)) → state_of b ≡ v → SteppedWith sight t seat seat (record h { back = b }) g
    full_with b known is = record {
      hand = w.hand;
      step = same_turn sight t seat (record h { back = b }) w.hand (called_turn seat h w.hand w.turn b known (subst (GoesOn z.threads v) (sym is) (goes_same z.threads z.first v rs w.turn.holding.known.lawful)));
      gathered = subst (λ (s : BackState). IsGathered z h.next s.log.sizes.cells w.hand g) (sym is) w.gathered;
    }

    -- they may be put back, as they weren't handed over
    pub may_put_all : MayPutAllBack sight t seat h g
    may_put_all = record {
      hand = w.hand;
      may = record {
        letting = record { belongs = w.turn.belongs; setup = w.turn.setup; holding = w.turn.holding; slots_are = w.turn.slots; near = λ p among. (w.turn.in_hand p among).near; apart = w.gathered.apart };
        ahead = g.ahead;
        fronts = w.gathered.fronts;
        lacks = λ alive p among. (w.turn.in_hand p among).may.lacks alive;
      };
      threads = w.gathered.threads;
      some = w.gathered.some;
    }

    -- steps that leave the records in hand
    pub with_on : (before after : ℕ) (new : TurnSeat) (h2 : TheHome M ghosts) → AdvancedOn sight t before after seat new h h2 → KeepsPlaces h h2 → InTurnWith sight t new h2 g
    with_on before after new h2 step keeps = record {
      hand = w.hand;
      turn = (step w.hand w.turn).turn;
      gathered = rw (keeps.next, keeps.sizes) w.gathered;
    }

-- ---- at the end of a turn
pub settled_at : (v : BackState) (n : ℕ) → IsAnnounced v n → v.log.reproduced ≡ n → IsSettled v
settled_at v n a reproduced = record { numbers = λ alive. reproduced ∙ sym a.durable; next = λ alive w among. subst (λ m. first_of w.redo ≢ m + 1) (sym a.durable) (a.next w among) }

pub settled_dead : (v : BackState) → v.dead ≡ true → IsSettled v
settled_dead v dead = record { numbers = λ alive. absurd (true≢false (sym dead ∙ alive)); next = λ alive. absurd (true≢false (sym dead ∙ alive)) }
