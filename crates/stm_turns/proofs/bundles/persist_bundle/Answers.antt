use Rattle.std.proofs.Common.{[], subst}
use Rattle.dude_base.specs.Records.{first_of}
use Rattle.back_store.specs.Back.{BackState}
use Rattle.back_store.specs.BackView.{state_of}
use Rattle.stm_turns.specs.Turns.{IsFaultOf, KeepsPast}
use Rattle.stm_turns.proofs.Bundling.{full_still, stepped_done, stepped_full, then_advanced_bare, then_bare, with_of}
use Rattle.stm_turns.proofs.Calling.{may_put_all, with_on}
use Rattle.stm_turns.proofs.Faults.{lives_still}
use Rattle.stm_turns.proofs.Past.{rises_behind}
use Rattle.stm_turns.proofs.Seats.{advanced, then_advanced}
use Rattle.stm_turns.proofs.bundles.persist_bundle.Goals as goal

-- ---- the first try
pub returns-in_err-persist-clause-step : goal.returns-in_err-persist-clause-step
returns-in_err-persist-clause-step g c =
    let x = c.persist in advanced g.M.Medium.sight c.args.events.now c.args.durable.now c.args.seat.now x.new.seat x.new.home [] c.in_err-persist.ensures.step

pub returns-in_err-persist-clause-life : goal.returns-in_err-persist-clause-life
returns-in_err-persist-clause-life g c =
    let x = c.persist in let v = state_of c.args.home.now.back in
    lives_still x.result c.from_residual.result c.in_err-persist.field-0.0 v v (state_of x.new.home.back) c.in_err-persist.was c.from_residual.ensures.1 c.requires.alive c.requires.alive x.ensures.life

pub returns-then-branch-clause-step : goal.returns-then-branch-clause-step
returns-then-branch-clause-step g c =
    let t = c.args.events.now in let sight = g.M.Medium.sight in let seat = c.args.seat.now in let x = c.persist in
    advanced sight t c.args.durable.now seat x.new.seat x.new.home [] (stepped_done sight t seat x.new.seat x.new.home c.args.gathering.now _ c.if-branch.true c.in_ok-persist.ensures.step)

pub returns-then-branch-clause-rises : goal.returns-then-branch-clause-rises
returns-then-branch-clause-rises g c = λ yes. c.in_ok-persist.ensures.rises c.if-branch.true

pub returns-then-branch-clause-life : goal.returns-then-branch-clause-life
returns-then-branch-clause-life g c = c.in_ok-persist.ensures.life

-- ---- all is announced and reproduced
pub catch_up-requires : goal.catch_up-requires
catch_up-requires g c =
    let t = c.args.events.now in let sight = g.M.Medium.sight in let seat = c.args.seat.now in let x = c.persist in
    let s = stepped_full sight t seat x.new.seat x.new.home c.args.gathering.now _ c.if-branch.false c.in_ok-persist.ensures.step in
    record { turn = (s.hand, s.step.turn) }

pub put_all_back-requires-clause-may : goal.put_all_back-requires-clause-may
put_all_back-requires-clause-may g c =
    let t = c.args.events.now in let sight = g.M.Medium.sight in let seat = c.args.seat.now in let x = c.persist in let k = c.catch_up in let q = c.args.gathering.now in
    let w = with_of sight t seat x.new.seat x.new.home q (stepped_full sight t seat x.new.seat x.new.home q _ c.if-branch.false c.in_ok-persist.ensures.step) in
    may_put_all sight t k.new.seat k.new.home q (with_on sight t x.new.seat x.new.home q w c.args.durable.now k.new.durable k.new.seat k.new.home k.ensures.step k.ensures.places)

pub put_all_back-requires-clause-few : goal.put_all_back-requires-clause-few
put_all_back-requires-clause-few g c = c.requires.with.gathered.few

pub returns-in-Err-clause-step : goal.returns-in-Err-clause-step
returns-in-Err-clause-step g c =
    let t = c.args.events.now in let sight = g.M.Medium.sight in let seat = c.args.seat.now in let x = c.persist in let k = c.catch_up in let y = c.put_all_back in let q = c.args.gathering.now in let d = k.new.durable in
    let s = stepped_full sight t seat x.new.seat x.new.home q _ c.if-branch.false c.in_ok-persist.ensures.step in
    then_advanced_bare sight t c.args.durable.now d seat x.new.seat y.new.seat x.new.home k.new.home q s
    (then_advanced sight t c.args.durable.now d d x.new.seat k.new.seat y.new.seat k.new.home k.new.home s.hand [] (k.ensures.step s.hand s.step.turn) (advanced sight t d k.new.seat y.new.seat k.new.home [] y.ensures.step))

pub returns-in-Err-clause-life : goal.returns-in-Err-clause-life
returns-in-Err-clause-life g c =
    let cause = c.in-Err.ensures.cause in
    ((subst (λ (v : BackState). IsFaultOf v c.in-Err.fault) (c.in_ok-persist.ensures.full c.if-branch.false).0 cause.0, cause.1), tt)

-- ---- the second try
pub persist-requires-2 : goal.persist-requires-2
persist-requires-2 g c =
    let t = c.args.events.now in let sight = g.M.Medium.sight in let seat = c.args.seat.now in let x = c.persist in let k = c.catch_up in let q = c.args.gathering.now in
    let w = with_of sight t seat x.new.seat x.new.home q (stepped_full sight t seat x.new.seat x.new.home q _ c.if-branch.false c.in_ok-persist.ensures.step) in
    record {
      with = with_on sight t x.new.seat x.new.home q w c.args.durable.now k.new.durable k.new.seat k.new.home k.ensures.step k.ensures.places;
      alive = c.in_default.ensures.ok.is.alive;
    }

pub returns-in_err-persist-2-clause-step : goal.returns-in_err-persist-2-clause-step
returns-in_err-persist-2-clause-step g c =
    let t = c.args.events.now in let sight = g.M.Medium.sight in let seat = c.args.seat.now in let x = c.persist in let k = c.catch_up in let y = c.persist-2 in let q = c.args.gathering.now in let d = k.new.durable in
    let s = stepped_full sight t seat x.new.seat x.new.home q _ c.if-branch.false c.in_ok-persist.ensures.step in
    then_advanced_bare sight t c.args.durable.now d seat x.new.seat y.new.seat x.new.home y.new.home q s
    (then_advanced sight t c.args.durable.now d d x.new.seat k.new.seat y.new.seat k.new.home y.new.home s.hand [] (k.ensures.step s.hand s.step.turn) (advanced sight t d k.new.seat y.new.seat y.new.home [] c.in_err-persist-2.ensures.step))

pub returns-in_err-persist-2-clause-life : goal.returns-in_err-persist-2-clause-life
returns-in_err-persist-2-clause-life g c =
    let k = c.catch_up in let y = c.persist-2 in let r = c.from_residual-in_err-persist-2 in
    lives_still y.result r.result c.in_err-persist-2.field-0.0 (state_of k.new.home.back) (state_of c.args.home.now.back) (state_of y.new.home.back) c.in_err-persist-2.was r.ensures.1 c.in_default.ensures.ok.is.alive c.requires.alive y.ensures.life

pub returns-then-branch-2-clause-step : goal.returns-then-branch-2-clause-step
returns-then-branch-2-clause-step g c =
    let t = c.args.events.now in let sight = g.M.Medium.sight in let seat = c.args.seat.now in let x = c.persist in let k = c.catch_up in let y = c.persist-2 in let q = c.args.gathering.now in let d = k.new.durable in
    let s = stepped_full sight t seat x.new.seat x.new.home q _ c.if-branch.false c.in_ok-persist.ensures.step in
    let done = stepped_done sight t k.new.seat y.new.seat y.new.home q _ c.if-branch-2.true c.in_ok-persist-2.ensures.step in
    then_advanced_bare sight t c.args.durable.now d seat x.new.seat y.new.seat x.new.home y.new.home q s
    (then_advanced sight t c.args.durable.now d d x.new.seat k.new.seat y.new.seat k.new.home y.new.home s.hand [] (k.ensures.step s.hand s.step.turn) (advanced sight t d k.new.seat y.new.seat y.new.home [] done))

pub returns-then-branch-2-clause-rises : goal.returns-then-branch-2-clause-rises
returns-then-branch-2-clause-rises g c =
    let x = c.persist in let k = c.catch_up in let y = c.persist-2 in let q = c.args.gathering.now in
    let keeps = subst (λ (v : BackState). KeepsPast v (state_of k.new.home.back)) (c.in_ok-persist.ensures.full c.if-branch.false).0 c.in_default.ensures.past in
    λ yes. rises_behind (first_of q.bundle) q.ring (state_of c.args.home.now.back) (state_of k.new.home.back) (state_of y.new.home.back) keeps (c.in_ok-persist-2.ensures.rises c.if-branch-2.true)

pub returns-then-branch-2-clause-life : goal.returns-then-branch-2-clause-life
returns-then-branch-2-clause-life g c = (c.requires.alive, c.in_ok-persist-2.ensures.life.1)

pub put_all_back-requires-2 : goal.put_all_back-requires-2
put_all_back-requires-2 g c =
    let t = c.args.events.now in let sight = g.M.Medium.sight in let k = c.catch_up in let y = c.persist-2 in let q = c.args.gathering.now in
    let s = stepped_full sight t k.new.seat y.new.seat y.new.home q _ c.if-branch-2.false c.in_ok-persist-2.ensures.step in
    record { may = may_put_all sight t y.new.seat y.new.home q (with_of sight t k.new.seat y.new.seat y.new.home q s); few = c.requires.with.gathered.few }

pub returns-clause-step : goal.returns-clause-step
returns-clause-step g c =
    let t = c.args.events.now in let sight = g.M.Medium.sight in let seat = c.args.seat.now in let x = c.persist in let k = c.catch_up in let y = c.persist-2 in let p = c.put_all_back-2 in let q = c.args.gathering.now in let d = k.new.durable in
    let s = stepped_full sight t seat x.new.seat x.new.home q _ c.if-branch.false c.in_ok-persist.ensures.step in
    let full = stepped_full sight t k.new.seat y.new.seat y.new.home q _ c.if-branch-2.false c.in_ok-persist-2.ensures.step in
    then_advanced_bare sight t c.args.durable.now d seat x.new.seat p.new.seat x.new.home y.new.home q s
    (then_advanced sight t c.args.durable.now d d x.new.seat k.new.seat p.new.seat k.new.home y.new.home s.hand [] (k.ensures.step s.hand s.step.turn)
    (advanced sight t d k.new.seat p.new.seat y.new.home [] (then_bare sight t k.new.seat y.new.seat p.new.seat y.new.home y.new.home q full p.ensures.step)))

pub returns-clause-stays : goal.returns-clause-stays
returns-clause-stays g c =
    let k = c.catch_up in let y = c.persist-2 in let q = c.args.gathering.now in let ends = c.in_default.ensures.ok in
    λ no. full_still q.ring q.bundle (state_of k.new.home.back) (state_of y.new.home.back) _ ends.is ends.reproduced (c.in_ok-persist-2.ensures.full c.if-branch-2.false)

pub returns-clause-late : goal.returns-clause-late
returns-clause-late g c = λ no. c.in_ok-persist.ensures.late c.if-branch.false

pub returns-clause-life : goal.returns-clause-life
returns-clause-life g c = (c.requires.alive, c.in_ok-persist-2.ensures.life.1)
