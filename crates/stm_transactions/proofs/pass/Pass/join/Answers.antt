use Rattle.stm_transactions.proofs.Joins.{joins}
use Rattle.stm_transactions.proofs.pass.Pass.join.Goals as goal

pub returns : goal.returns
returns g c = record {
  joined = joins c.args.stm.now.events c.args.self.now c.args.other c.take_seat-seat.new.self c.take_seat-others.new.self c.take_seat-seat.result.0 c.take_seat-others.result.0 c.join.new.seat c.requires.rests c.requires.other c.take_seat-seat.ensures c.take_seat-others.ensures
      c.join-numbers.result c.put_seat.new.self c.join.ensures (rw (c.numbers.ensures, c.numbers-2.ensures) at c.join-numbers.ensures) c.put_seat.ensures;
}
