use Rattle.stm_transactions.proofs.Rests.{see_empty, see_refused}
use Rattle.stm_transactions.proofs.pass.Pass.see_box.Goals as goal

pub returns-then-seen-ne0-clause-err : goal.returns-then-seen-ne0-clause-err
returns-then-seen-ne0-clause-err g c = see_refused c.args.stm.now.events c.args.self.now c.take_seat-seat.new.self c.take_seat-seat.result.0 c.see_box-seen.new.seat c.requires.rests c.take_seat-seat.ensures c.see_box-seen.ensures.found.made.belongs
    c.see_box-seen.result c.see_box-seen.ensures.view c.meet_box.result c.put_seat.new.self (rw c.numbers-numbers.ensures at c.meet_box.ensures) c.put_seat.ensures c.if-seen-ne0.true

pub returns-clause-ok : goal.returns-clause-ok
returns-clause-ok g c = see_empty c.args.stm.now.events c.args.self.now c.take_seat-seat.new.self c.take_seat-seat.result.0 c.see_box-seen.new.seat c.requires.rests c.take_seat-seat.ensures c.see_box-seen.ensures.found.made.belongs
    c.see_box-seen.result c.see_box-seen.ensures.view c.put_seat-2.new.self (rw c.numbers-numbers.ensures at c.put_seat-2.ensures) c.if-seen-ne0.false
