use Rattle.std.proofs.Common.{refl, sym, ◌∙◌, true, false}
use Rattle.std.specs.Prelude.{[]}
use Rattle.back_store.specs.BackView.{state_of}
use Rattle.stm_turns.proofs.Calling.{settled_at, settled_dead}
use Rattle.stm_turns.proofs.WholeTurns.{bare_from, has_pumped, has_failed, none_durable, others_durable, own_taken, turn_durable}
use Rattle.stm_turns.proofs.Seats.{advanced, same_turn}
use Rattle.stm_turns.proofs.pumping.pump.Goals as goal

pub give_turn-requires-clause-turn : goal.give_turn-requires-clause-turn
give_turn-requires-clause-turn g c = c.in-Ok.ensures.ok.in_turn

pub give_turn-requires-clause-settled : goal.give_turn-requires-clause-settled
give_turn-requires-clause-settled g c = c.in-Ok.ensures.ok.settled

pub returns-then-is_dead-clause-left : goal.returns-then-is_dead-clause-left
returns-then-is_dead-clause-left g c = bare_from c.args.events.now c.args.seat.now c.take_turn.new.seat c.give_turn.new.seat c.take_turn.ensures.id c.give_turn.ensures.bare

pub returns-then-is_dead-clause-err : goal.returns-then-is_dead-clause-err
returns-then-is_dead-clause-err g c =
    let t = c.args.events.now in let sight = g.M.Medium.sight in let a = c.take_turn.new.seat in let arm = c.in-Ok in let i = arm.ensures.ok in
    has_failed sight t c.args.durable.now c.args.durable.now c.args.seat.now a a c.give_turn.new.seat arm.home arm.home i (advanced sight t c.args.durable.now a a arm.home [] (same_turn sight t a arm.home [] i.in_turn)) true c.give_turn.ensures.view (sym c.is_dead.ensures ∙ c.if-is_dead.true) (sym c.is_dead.ensures ∙ c.if-is_dead.true)

pub settle-requires-clause-turn : goal.settle-requires-clause-turn
settle-requires-clause-turn g c = c.in-Ok.ensures.ok.in_turn

pub settle-requires-clause-own : goal.settle-requires-clause-own
settle-requires-clause-own g c = own_taken c.args.events.now c.args.own c.args.seat.now c.take_turn.new.seat c.in-Ok.ensures.ok.is_after (c.requires.own, c.requires.idle)

pub settle-requires-clause-thread : goal.settle-requires-clause-thread
settle-requires-clause-thread g c = c.requires.seat.seated.thread c.args.own c.requires.own

pub give_turn-requires-in-Ok-settle-clause-settled : goal.give_turn-requires-in-Ok-settle-clause-settled
give_turn-requires-in-Ok-settle-clause-settled g c = let ok = c.in-Ok-settle.ensures.ok in settled_at (state_of c.settle.new.home.back) c.in-Ok-settle.number ok.is ok.reproduced

pub returns-in-Ok-settle-clause-left : goal.returns-in-Ok-settle-clause-left
returns-in-Ok-settle-clause-left g c =
    let a = c.take_turn.new.seat in let s = c.settle.new.seat in let t = c.args.events.now in
    bare_from t c.args.seat.now s c.give_turn-in-Ok-settle.new.seat (c.settle.ensures.step.id ∙ c.take_turn.ensures.id) c.give_turn-in-Ok-settle.ensures.bare

pub returns-in-Ok-settle-clause-ok : goal.returns-in-Ok-settle-clause-ok
returns-in-Ok-settle-clause-ok g c =
    let t = c.args.events.now in let sight = g.M.Medium.sight in let a = c.take_turn.new.seat in let arm = c.in-Ok in let s = c.settle in let n = c.in-Ok-settle.number in
    has_pumped sight t c.args.durable.now s.new.durable c.args.seat.now a s.new.seat c.give_turn-in-Ok-settle.new.seat arm.home s.new.home arm.ensures.ok s.ensures.step (record { durable = n; reproduced = n }) c.give_turn-in-Ok-settle.ensures.view (sym c.is_dead.ensures ∙ c.if-is_dead.false) c.in-Ok-settle.ensures.ok c.in-Ok-settle.ensures.next refl

pub give_turn-requires-in-Err-settle-clause-settled : goal.give_turn-requires-in-Err-settle-clause-settled
give_turn-requires-in-Err-settle-clause-settled g c = settled_dead (state_of c.settle.new.home.back) c.in-Err-settle.ensures.cause.1

pub returns-in-Err-settle-clause-left : goal.returns-in-Err-settle-clause-left
returns-in-Err-settle-clause-left g c =
    let s = c.settle.new.seat in let t = c.args.events.now in
    bare_from t c.args.seat.now s c.give_turn-in-Err-settle.new.seat (c.settle.ensures.step.id ∙ c.take_turn.ensures.id) c.give_turn-in-Err-settle.ensures.bare

pub returns-in-Err-settle-clause-err : goal.returns-in-Err-settle-clause-err
returns-in-Err-settle-clause-err g c =
    let t = c.args.events.now in let sight = g.M.Medium.sight in let a = c.take_turn.new.seat in let arm = c.in-Ok in let s = c.settle in
    has_failed sight t c.args.durable.now s.new.durable c.args.seat.now a s.new.seat c.give_turn-in-Err-settle.new.seat arm.home s.new.home arm.ensures.ok s.ensures.step false c.give_turn-in-Err-settle.ensures.view (sym c.is_dead.ensures ∙ c.if-is_dead.false) c.in-Err-settle.ensures.cause.1

pub returns-in-Err-clause-durable : goal.returns-in-Err-clause-durable
returns-in-Err-clause-durable g c = others_durable c.args.events.now c.args.durable.now c.in-Err.seen c.args.seat.now c.take_turn.new.seat c.in-Err.ensures.err

pub returns-then-is_dead-clause-durable : goal.returns-then-is_dead-clause-durable
returns-then-is_dead-clause-durable g c =
    let a = c.take_turn.new.seat in let n = c.args.durable.now in
    turn_durable c.args.events.now true n n c.args.seat.now a a c.give_turn.new.seat c.in-Ok.ensures.ok.is_after (none_durable n a) c.give_turn.ensures.view

pub returns-in-Ok-settle-clause-durable : goal.returns-in-Ok-settle-clause-durable
returns-in-Ok-settle-clause-durable g c =
    let s = c.settle in
    turn_durable c.args.events.now false c.args.durable.now s.new.durable c.args.seat.now c.take_turn.new.seat s.new.seat c.give_turn-in-Ok-settle.new.seat c.in-Ok.ensures.ok.is_after s.ensures.step.durable c.give_turn-in-Ok-settle.ensures.view

pub returns-in-Err-settle-clause-durable : goal.returns-in-Err-settle-clause-durable
returns-in-Err-settle-clause-durable g c =
    let s = c.settle in
    turn_durable c.args.events.now true c.args.durable.now s.new.durable c.args.seat.now c.take_turn.new.seat s.new.seat c.give_turn-in-Err-settle.new.seat c.in-Ok.ensures.ok.is_after s.ensures.step.durable c.give_turn-in-Err-settle.ensures.view
