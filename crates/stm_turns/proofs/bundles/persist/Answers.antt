use Rattle.std.proofs.Common.{◌≡◌, sym, ap, ◌∙◌, subst}
use Rattle.std.specs.Prelude.{Ok, Err, Result}
use Rattle.dude_base.specs.Records.{first_of}
use Rattle.back_store.specs.Back.{BackState}
use Rattle.back_store.specs.Answers.{after_persist}
use Rattle.back_store.specs.BackView.{medium_of, state_of}
use Rattle.back_store.specs.declared.back.Back.{Back}
use Rattle.back_store.specs.declared.back_fault.BackFault.{BackFault}
use Rattle.stm_slots.specs.Calls.{handed}
use Rattle.stm_slots.specs.Known.{Known}
use Rattle.stm_slots.specs.KnownLists.{lists}
use Rattle.stm_slots.specs.Opening.{setup_of, since_of}
use Rattle.stm_turns.specs.Turns.{RisesTo}
use Rattle.stm_turns.proofs.Calling.{died_with, first_over, full_with, known_with, may_persist_with, newest_with, persisted_with, ring_lane}
use Rattle.stm_turns.proofs.Past.{full_late, rises_with}
use Rattle.stm_turns.proofs.bundles.persist.Goals as goal

pub persist-requires : goal.persist-requires
persist-requires g c =
    record { may = may_persist_with g.M.Medium.sight c.args.events.now c.args.seat.now c.args.home.now c.args.gathering.now c.requires.with c.requires.alive }

pub empty_all-requires-clause-may : goal.empty_all-requires-clause-may
empty_all-requires-clause-may g c =
    let t = c.args.events.now in let sight = g.M.Medium.sight in let seat = c.args.seat.now in let h = c.args.home.now in let q = c.args.gathering.now in let w = c.requires.with in let e = c.in-Ok.ensures in
    persisted_with sight t seat h q w c.requires.alive c.persist.new.back (known_with sight t seat h q w c.requires.alive c.persist.new.back (Ok tt) e.known) e.state

pub empty_all-requires-clause-few : goal.empty_all-requires-clause-few
empty_all-requires-clause-few g c = c.requires.with.gathered.few

pub put_all_back-requires-clause-may : goal.put_all_back-requires-clause-may
put_all_back-requires-clause-may g c =
    let t = c.args.events.now in let sight = g.M.Medium.sight in let seat = c.args.seat.now in let h = c.args.home.now in let q = c.args.gathering.now in let w = c.requires.with in let e = c.persist.ensures in let b = c.persist.new.back in
    let failed = c.in-Err-Device.is ∙ ap (λ f. Err f) c.in-Err-Device.field-0-is in let known = known_with sight t seat h q w c.requires.alive b c.persist.result e.known in
    died_with sight t seat h q w c.requires.alive b
    (subst (λ (r : Result (Unit {0}) BackFault). Known (since_of sight t.key) (lists (state_of b) (handed r w.gathered.joined.records w.turn.holding.records)) (sight (medium_of b))) failed known)
    (subst (λ (r : Result (Unit {0}) BackFault). state_of b ≡ after_persist r q.ring q.bundle (state_of h.back)) failed e.state)

pub put_all_back-requires-clause-few : goal.put_all_back-requires-clause-few
put_all_back-requires-clause-few g c = c.requires.with.gathered.few

pub returns-in-Err-RingFull-clause-step : goal.returns-in-Err-RingFull-clause-step
returns-in-Err-RingFull-clause-step g c =
    let t = c.args.events.now in let sight = g.M.Medium.sight in let seat = c.args.seat.now in let h = c.args.home.now in let q = c.args.gathering.now in let w = c.requires.with in let e = c.persist.ensures in let b = c.persist.new.back in
    let arm = c.in-Err-RingFull in let full = arm.is ∙ ap (λ f. Err f) arm.field-0-is in let known = known_with sight t seat h q w c.requires.alive b c.persist.result e.known in
    full_with sight t seat h q w b
    (subst (λ (r : Result (Unit {0}) BackFault). Known (since_of sight t.key) (lists (state_of b) (handed r w.gathered.joined.records w.turn.holding.records)) (sight (medium_of b))) full known)
    (subst (λ (r : Result (Unit {0}) BackFault). state_of b ≡ after_persist r q.ring q.bundle (state_of h.back)) full e.state)

pub returns-in-Ok-clause-rises : goal.returns-in-Ok-clause-rises
returns-in-Ok-clause-rises g c =
    let t = c.args.events.now in let sight = g.M.Medium.sight in let seat = c.args.seat.now in let h = c.args.home.now in let q = c.args.gathering.now in let w = c.requires.with in let z = setup_of sight t.key in let e = c.in-Ok.ensures in
    λ yes. subst (λ (b : Back g.row.M.Denot g.M.Medium). RisesTo (first_of q.bundle) q.ring (state_of h.back) (state_of b)) (sym c.empty_all.ensures.back)
    (rises_with z.first (state_of h.back) w.turn.holding.records w.turn.holding.known.lawful q.ring q.bundle (ring_lane sight t seat h q w) (first_over sight t seat h q w c.requires.alive) (newest_with sight t seat h q w c.requires.alive) (state_of c.persist.new.back) e.state)

pub returns-in-Err-RingFull-clause-full : goal.returns-in-Err-RingFull-clause-full
returns-in-Err-RingFull-clause-full g c =
    let t = c.args.events.now in let sight = g.M.Medium.sight in let seat = c.args.seat.now in let h = c.args.home.now in let q = c.args.gathering.now in let w = c.requires.with in let z = setup_of sight t.key in let e = c.persist.ensures in let arm = c.in-Err-RingFull in let full = arm.is ∙ ap (λ f. Err f) arm.field-0-is in
    λ no. (full_late z.first (state_of h.back) w.turn.holding.records w.turn.holding.known.lawful q.ring q.bundle (ring_lane sight t seat h q w) (first_over sight t seat h q w c.requires.alive) (newest_with sight t seat h q w c.requires.alive) w.gathered.short
    c.persist.result arm.field-0-0 arm.field-0-1 full (state_of c.persist.new.back) e.state e.cause.only e.cause.full).0

pub returns-in-Err-RingFull-clause-late : goal.returns-in-Err-RingFull-clause-late
returns-in-Err-RingFull-clause-late g c =
    let t = c.args.events.now in let sight = g.M.Medium.sight in let seat = c.args.seat.now in let h = c.args.home.now in let q = c.args.gathering.now in let w = c.requires.with in let z = setup_of sight t.key in let e = c.persist.ensures in let arm = c.in-Err-RingFull in let full = arm.is ∙ ap (λ f. Err f) arm.field-0-is in
    λ no. (full_late z.first (state_of h.back) w.turn.holding.records w.turn.holding.known.lawful q.ring q.bundle (ring_lane sight t seat h q w) (first_over sight t seat h q w c.requires.alive) (newest_with sight t seat h q w c.requires.alive) w.gathered.short
    c.persist.result arm.field-0-0 arm.field-0-1 full (state_of c.persist.new.back) e.state e.cause.only e.cause.full).1

pub returns-in-Ok-clause-life : goal.returns-in-Ok-clause-life
returns-in-Ok-clause-life g c =
    (c.requires.alive, ap (λ (b : Back g.row.M.Denot g.M.Medium). (state_of b).dead) c.empty_all.ensures.back ∙ (ap (λ (s : BackState). s.dead) c.in-Ok.ensures.state ∙ c.requires.alive))

pub returns-in-Err-RingFull-clause-life : goal.returns-in-Err-RingFull-clause-life
returns-in-Err-RingFull-clause-life g c =
    let q = c.args.gathering.now in let arm = c.in-Err-RingFull in
    let same = subst (λ (r : Result (Unit {0}) BackFault). state_of c.persist.new.back ≡ after_persist r q.ring q.bundle (state_of c.args.home.now.back)) (arm.is ∙ ap (λ f. Err f) arm.field-0-is) c.persist.ensures.state in
    (c.requires.alive, ap (λ (s : BackState). s.dead) same ∙ c.requires.alive)

pub returns-in-Err-Device-clause-life : goal.returns-in-Err-Device-clause-life
returns-in-Err-Device-clause-life g c =
    let q = c.args.gathering.now in let arm = c.in-Err-Device in
    let died = subst (λ (r : Result (Unit {0}) BackFault). state_of c.persist.new.back ≡ after_persist r q.ring q.bundle (state_of c.args.home.now.back)) (arm.is ∙ ap (λ f. Err f) arm.field-0-is) c.persist.ensures.state in
    ((c.requires.alive, ap (λ (s : BackState). s.dead) died), tt)
