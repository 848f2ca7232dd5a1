use Rattle.transaction_trial.proofs.KeepsTurn.{given, missed}
use Rattle.transaction_trial.proofs.turn.drop_records.Goals as goal
use Rattle.transaction_trial.proofs.turn.drop_records.Goals.{then-take_turn-eq0, else-take_turn-eq0}

pub returns : goal.returns
returns c =
    let t = c.args.stm.now.events in
    let f = c.numbers-numbers.result in
    rw c.put_seat.ensures (elim c.if-take_turn-eq0.branch [
      | then-take_turn-eq0 w ↦ rw w.seat-is (given t f w.empty_boxes.new.seat w.give_turn.new.seat w.empty_boxes.ensures w.give_turn.ensures.made w.give_turn.ensures.view)
      | else-take_turn-eq0 w ↦ rw w.seat-is (missed t f c.args.p.now c.take_seat-seat.new.self c.take_seat-seat.result.0 c.requires c.numbers-numbers.ensures c.take_seat-seat.ensures c.take_turn.new.seat c.take_turn.result c.take_turn.ensures.found.made c.take_turn.ensures.view w.if-take_turn-eq0.false)
    ])
