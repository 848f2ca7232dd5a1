use Rattle.std.proofs.Common.{[], arith, inl, subst}
use Rattle.back_store.specs.BackView.{state_of}
use Rattle.stm_turns.specs.Bundles.{EndsNext}
use Rattle.stm_turns.proofs.Faults.{err_still}
use Rattle.stm_turns.proofs.Settled.{none_over, own_still, past_more}
use Rattle.stm_turns.proofs.Seats.{then_advanced}
use Rattle.stm_turns.proofs.settling.settle.Goals as goal

pub catch_up-requires : goal.catch_up-requires
catch_up-requires g c = record { turn = ([], c.persist_all.ensures.step.turn) }

pub returns-in_err-number-clause-step : goal.returns-in_err-number-clause-step
returns-in_err-number-clause-step g c =
    let a = c.persist_all in let b = c.catch_up in
    then_advanced g.M.Medium.sight c.args.events.now c.args.durable.now a.new.durable b.new.durable c.args.seat.now a.new.seat b.new.seat a.new.home b.new.home [] [] a.ensures.step (b.ensures.step [] a.ensures.step.turn)

pub returns-in_err-number-clause-cause : goal.returns-in_err-number-clause-cause
returns-in_err-number-clause-cause g c =
    let a = c.persist_all in let b = c.catch_up in
    let r = c.from_residual-in_err-number in err_still b.result r.result c.in_err-number.field-0.0 (state_of a.new.home.back) (state_of c.args.home.now.back) (state_of b.new.home.back) c.in_err-number.was r.ensures.1 c.in_ok-persist_all.ensures.life.1 c.requires.alive b.ensures.cause

pub loop-look-init : goal.loop-look-init
loop-look-init g c =
    let a = c.persist_all in let b = c.catch_up in
    record {
      step = then_advanced g.M.Medium.sight c.args.events.now c.args.durable.now a.new.durable b.new.durable c.args.seat.now a.new.seat b.new.seat a.new.home b.new.home [] [] a.ensures.step (b.ensures.step [] a.ensures.step.turn);
      settled = c.in_ok-number.ensures.ok;
      past = (0, inl (omega arith), (omega arith));
    }

pub persist_next-requires-clause-own : goal.persist_next-requires-clause-own
persist_next-requires-clause-own g c = let l = c.loop-look in own_still c.args.own c.args.seat.now l.seat l.invariant.step.view c.requires.own

pub returns-in_err-next-clause-step : goal.returns-in_err-next-clause-step
returns-in_err-next-clause-step g c = let l = c.loop-look in let x = c.persist_next in then_advanced g.M.Medium.sight c.args.events.now c.args.durable.now l.durable x.new.durable c.args.seat.now l.seat x.new.seat l.home x.new.home [] [] l.invariant.step x.ensures.step

pub returns-in-None-clause-step : goal.returns-in-None-clause-step
returns-in-None-clause-step g c = let l = c.loop-look in let x = c.persist_next in then_advanced g.M.Medium.sight c.args.events.now c.args.durable.now l.durable x.new.durable c.args.seat.now l.seat x.new.seat l.home x.new.home [] [] l.invariant.step x.ensures.step

pub unreachable-requires : goal.unreachable-requires
unreachable-requires g c =
    let l = c.loop-look in
    none_over g.M.Medium.sight c.args.events.now l.seat l.home l.invariant.step.turn c.args.own l._look c.requires.thread (omega arith) l.invariant.past

pub loop-look-preserved : goal.loop-look-preserved
loop-look-preserved g c =
    let l = c.loop-look in let x = c.persist_next in
    let some = subst (EndsNext c.args.own l.number x.new.seat l.home x.new.home) c.in-Some.is c.in_ok-next.ensures.next in
    record {
      step = then_advanced g.M.Medium.sight c.args.events.now c.args.durable.now l.durable x.new.durable c.args.seat.now l.seat x.new.seat l.home x.new.home [] [] l.invariant.step x.ensures.step;
      settled = some.0;
      past = past_more c.args.own l._look (state_of l.home.back) (state_of x.new.home.back) l.invariant.past some.1;
    }

pub returns-in_err-next-clause-cause : goal.returns-in_err-next-clause-cause
returns-in_err-next-clause-cause g c =
    let l = c.loop-look in let x = c.persist_next in
    let r = c.from_residual-in_err-next in err_still x.result r.result c.in_err-next.field-0.0 (state_of l.home.back) (state_of c.args.home.now.back) (state_of x.new.home.back) c.in_err-next.was r.ensures.1 l.invariant.settled.is.alive c.requires.alive x.ensures.cause
