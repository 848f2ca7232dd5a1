use Rattle.std.proofs.Common.{◌∙◌, [], ap, arith}
use Rattle.core_events.specs.Setups.{Setup}
use Rattle.stm_slots.specs.Opening.{setup_of}
use Rattle.stm_turns.proofs.Bundling.{with_of}
use Rattle.stm_turns.proofs.Fronts.{hand_below}
use Rattle.stm_turns.proofs.NextRecords.{looked_with}
use Rattle.stm_turns.proofs.Seats.{advanced}
use Rattle.stm_turns.proofs.Settled.{begun, front_steps}
use Rattle.stm_turns.proofs.settling.persist_from.Goals as goal

pub returns-in_default-clause-step : goal.returns-in_default-clause-step
returns-in_default-clause-step g c =
    advanced g.M.Medium.sight c.args.events.now c.args.durable.now c.args.seat.now c.see_front.new.seat c.args.home.now [] c.in_default.ensures.step

pub look_behind-requires-clause-with : goal.look_behind-requires-clause-with
look_behind-requires-clause-with g c =
    let a = c.see_front in let i = c.in-Some.ensures.step.turn in
    begun g.M.Medium.sight c.args.events.now a.new.seat c.args.home.now c.args.thread c.boxes.result c.in-Some.redo c.begin-gathering.result i (c.boxes.ensures ∙ ap (λ (y : Setup). y.boxes) i.setup) c.begin-gathering.ensures

pub gather-requires : goal.gather-requires
gather-requires g c =
    let t = c.args.events.now in let sight = g.M.Medium.sight in let a = c.see_front in let i = c.in-Some.ensures.step.turn in let h = c.args.home.now in let q = c.begin-gathering.result in let b = c.look_behind in
    let w = begun sight t a.new.seat h c.args.thread c.boxes.result c.in-Some.redo q i (c.boxes.ensures ∙ ap (λ (y : Setup). y.boxes) i.setup) c.begin-gathering.ensures in
    record { with = with_of sight t a.new.seat b.new.seat h q (looked_with sight t a.new.seat h q w b.new.seat b.ensures.step) }

pub persist_bundle-requires-clause-with : goal.persist_bundle-requires-clause-with
persist_bundle-requires-clause-with g c =
    let x = c.gather in with_of g.M.Medium.sight c.args.events.now c.look_behind.new.seat x.new.seat c.args.home.now x.new.gathering x.ensures.step

pub returns-in_err-persist_bundle-clause-step : goal.returns-in_err-persist_bundle-clause-step
returns-in_err-persist_bundle-clause-step g c =
    let a = c.see_front in let s = c.in-Some in let h = c.args.home.now in let b = c.look_behind in let x = c.gather in let y = c.persist_bundle in
    front_steps g.M.Medium.sight c.args.events.now c.args.durable.now y.new.durable c.args.seat.now a.new.seat b.new.seat x.new.seat y.new.seat h y.new.home c.args.thread c.boxes.result s.redo c.begin-gathering.result x.new.gathering
    s.ensures.step c.boxes.ensures c.begin-gathering.ensures b.ensures.step x.ensures.step y.ensures.step

pub returns-then-not-branch-clause-step : goal.returns-then-not-branch-clause-step
returns-then-not-branch-clause-step g c =
    let a = c.see_front in let s = c.in-Some in let h = c.args.home.now in let b = c.look_behind in let x = c.gather in let y = c.persist_bundle in
    front_steps g.M.Medium.sight c.args.events.now c.args.durable.now y.new.durable c.args.seat.now a.new.seat b.new.seat x.new.seat y.new.seat h y.new.home c.args.thread c.boxes.result s.redo c.begin-gathering.result x.new.gathering
    s.ensures.step c.boxes.ensures c.begin-gathering.ensures b.ensures.step x.ensures.step y.ensures.step

pub returns-else-not-branch-clause-step : goal.returns-else-not-branch-clause-step
returns-else-not-branch-clause-step g c =
    let a = c.see_front in let s = c.in-Some in let h = c.args.home.now in let b = c.look_behind in let x = c.gather in let y = c.persist_bundle in
    front_steps g.M.Medium.sight c.args.events.now c.args.durable.now y.new.durable c.args.seat.now a.new.seat b.new.seat x.new.seat y.new.seat h y.new.home c.args.thread c.boxes.result s.redo c.begin-gathering.result x.new.gathering
    s.ensures.step c.boxes.ensures c.begin-gathering.ensures b.ensures.step x.ensures.step y.ensures.step

pub leave-requires-clause-few : goal.leave-requires-clause-few
leave-requires-clause-few g c = c.gather.ensures.step.gathered.few

pub leave-requires-clause-threads : goal.leave-requires-clause-threads
leave-requires-clause-threads g c = λ i low.
    let gathered = c.gather.ensures.step.gathered in
    let wide = c.requires.turn.holding.wide in
    let below = hand_below (setup_of g.M.Medium.sight c.args.events.now.key) c.gather.new.gathering.threads c.gather.new.gathering.count 0 c.args.home.now.next c.gather.new.gathering.ahead c.gather.ensures.step.hand gathered.threads gathered.fronts i (omega arith) low in
    omega (arith, below, wide)
