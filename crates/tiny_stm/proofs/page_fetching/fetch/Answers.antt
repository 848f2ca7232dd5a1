use Rattle.std.proofs.Common.{◌∙◌, sym, true}
use Rattle.stm_turns.proofs.WholeTurns.{bare_from, none_durable, others_durable, own_taken, turn_durable}
use Rattle.tiny_stm.proofs.Fetched.{has_failed, has_fetch_fault, has_fetched, turn_same, settled_comes}
use Rattle.tiny_stm.proofs.page_fetching.fetch.Goals as goal

pub give_turn-requires-clause-turn : goal.give_turn-requires-clause-turn
give_turn-requires-clause-turn g c = c.in-Ok.ensures.ok.in_turn

pub give_turn-requires-clause-settled : goal.give_turn-requires-clause-settled
give_turn-requires-clause-settled g c = c.in-Ok.ensures.ok.settled

pub returns-then-is_dead-clause-left : goal.returns-then-is_dead-clause-left
returns-then-is_dead-clause-left g c = bare_from c.args.stm.now.events c.args.seat.now c.take_turn.new.seat c.give_turn.new.seat c.take_turn.ensures.id c.give_turn.ensures.bare

pub returns-then-is_dead-clause-err : goal.returns-then-is_dead-clause-err
returns-then-is_dead-clause-err g c =
    let t = c.args.stm.now.events in let sight = g.M.Medium.sight in let a = c.take_turn.new.seat in let arm = c.in-Ok in let i = arm.ensures.ok in
    has_failed sight t c.args.seat.now a a c.give_turn.new.seat arm.home arm.home i (turn_same sight t a arm.home i.in_turn) true c.give_turn.ensures.view (sym c.is_dead.ensures ∙ c.if-is_dead.true) (sym c.is_dead.ensures ∙ c.if-is_dead.true)

pub bring_in-result-requires-clause-turn : goal.bring_in-result-requires-clause-turn
bring_in-result-requires-clause-turn g c = c.in-Ok.ensures.ok.in_turn

pub bring_in-result-requires-clause-own : goal.bring_in-result-requires-clause-own
bring_in-result-requires-clause-own g c = own_taken c.args.stm.now.events c.args.own c.args.seat.now c.take_turn.new.seat c.in-Ok.ensures.ok.is_after c.requires.own

pub bring_in-result-requires-clause-thread : goal.bring_in-result-requires-clause-thread
bring_in-result-requires-clause-thread g c = c.requires.seat.seated.thread c.args.own c.requires.own.0

pub give_turn-requires-2-clause-settled : goal.give_turn-requires-2-clause-settled
give_turn-requires-2-clause-settled g c =
    let b = c.bring_in-result in settled_comes g.M.Medium.sight c.args.stm.now.events c.args.page b.result b.new.seat b.new.home b.ensures.comes

pub returns-clause-ok : goal.returns-clause-ok
returns-clause-ok g c =
    let t = c.args.stm.now.events in let b = c.bring_in-result in let arm = c.in-Ok in
    has_fetched g.M.Medium.sight t c.args.seat.now c.take_turn.new.seat b.new.seat c.give_turn-2.new.seat arm.home b.new.home arm.ensures.ok b.ensures.steps (sym c.is_dead.ensures ∙ c.if-is_dead.false)
    c.is_dead-failed.result c.is_dead-failed.ensures c.give_turn-2.ensures.view c.args.page b.result b.ensures.comes

pub returns-clause-err : goal.returns-clause-err
returns-clause-err g c =
    let t = c.args.stm.now.events in let b = c.bring_in-result in let arm = c.in-Ok in
    has_fetch_fault g.M.Medium.sight t c.args.seat.now c.take_turn.new.seat b.new.seat c.give_turn-2.new.seat arm.home b.new.home arm.ensures.ok b.ensures.steps (sym c.is_dead.ensures ∙ c.if-is_dead.false)
    c.is_dead-failed.result c.is_dead-failed.ensures c.give_turn-2.ensures.view c.args.page b.result b.ensures.comes

pub returns-in-Err-clause-durable : goal.returns-in-Err-clause-durable
returns-in-Err-clause-durable g c = others_durable c.args.stm.now.events c.args.durable.now c.in-Err.seen c.args.seat.now c.take_turn.new.seat c.in-Err.ensures.err

pub returns-then-is_dead-clause-durable : goal.returns-then-is_dead-clause-durable
returns-then-is_dead-clause-durable g c =
    let a = c.take_turn.new.seat in let n = c.args.durable.now in
    turn_durable c.args.stm.now.events true n n c.args.seat.now a a c.give_turn.new.seat c.in-Ok.ensures.ok.is_after (none_durable n a) c.give_turn.ensures.view

pub returns-clause-durable : goal.returns-clause-durable
returns-clause-durable g c =
    let b = c.bring_in-result in
    turn_durable c.args.stm.now.events c.is_dead-failed.result c.args.durable.now b.new.durable c.args.seat.now c.take_turn.new.seat b.new.seat c.give_turn-2.new.seat c.in-Ok.ensures.ok.is_after b.ensures.durable c.give_turn-2.ensures.view
