use Rattle.std.proofs.Common.{◌∙◌, [], ap, arith}
use Rattle.core_events.specs.Setups.{Setup}
use Rattle.back_store.specs.BackView.{state_of}
use Rattle.stm_turns.proofs.Faults.{lives_still}
use Rattle.stm_turns.proofs.Seats.{advanced, then_advanced}
use Rattle.stm_turns.proofs.settling.persist_all.Goals as goal

pub loop-init : goal.loop-init
loop-init g c = let x = c.look_at_all-fronts in record { step = advanced g.M.Medium.sight c.args.events.now c.args.durable.now c.args.seat.now x.new.seat c.args.home.now [] (x.ensures.step [] c.requires.turn); alive = c.requires.alive }

pub returns-in_err-persist_from-clause-step : goal.returns-in_err-persist_from-clause-step
returns-in_err-persist_from-clause-step g c = let l = c.loop in let x = c.persist_from in then_advanced g.M.Medium.sight c.args.events.now c.args.durable.now l.durable x.new.durable c.args.seat.now l.seat x.new.seat l.home x.new.home [] [] l.invariant.step x.ensures.step

pub look_again-requires-clause-wide : goal.look_again-requires-clause-wide
look_again-requires-clause-wide g c = let i = c.persist_from.ensures.step.turn in rw i.setup i.holding.wide

pub look_again-requires-clause-places : goal.look_again-requires-clause-places
look_again-requires-clause-places g c = let i = c.persist_from.ensures.step.turn in rw i.setup i.holding.places

pub loop-preserved : goal.loop-preserved
loop-preserved g c =
    let sight = g.M.Medium.sight in let t = c.args.events.now in let l = c.loop in let x = c.persist_from in let y = c.look_again in
    let persisted = then_advanced sight t c.args.durable.now l.durable x.new.durable c.args.seat.now l.seat x.new.seat l.home x.new.home [] [] l.invariant.step x.ensures.step in
    let looked = advanced sight t x.new.durable x.new.seat y.new.seat x.new.home [] (y.ensures.step [] x.ensures.step.turn) in
    record { step = then_advanced sight t c.args.durable.now x.new.durable x.new.durable c.args.seat.now x.new.seat y.new.seat x.new.home x.new.home [] [] persisted looked; alive = c.in_ok-persist_from.ensures.life.1 }

pub least-requires : goal.least-requires
least-requires g c =
    let wide = c.requires.turn.holding.wide in let e = c.threads.ensures ∙ ap (λ (y : Setup). y.threads) c.requires.turn.setup in omega arith

pub returns-in_err-persist_from-clause-life : goal.returns-in_err-persist_from-clause-life
returns-in_err-persist_from-clause-life g c =
    let l = c.loop in let x = c.persist_from in let r = c.from_residual in
    lives_still x.result r.result c.in_err-persist_from.field-0.0 (state_of l.home.back) (state_of c.args.home.now.back) (state_of x.new.home.back) c.in_err-persist_from.was r.ensures.1 l.invariant.alive c.requires.alive x.ensures.life
