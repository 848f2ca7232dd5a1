use Rattle.std.proofs.Common.{ap, ◌∙◌, arith}
use Rattle.core_events.specs.Events.{number, view_after}
use Rattle.stm_transactions.proofs.Rests.{split_off}
use Rattle.stm_transactions.proofs.pass.Pass.split.Goals as goal

pub returns-clause-ok : goal.returns-clause-ok
returns-clause-ok g c =
    let t = c.args.stm.now.events in
    let new = c.number-thread.ensures.view ∙ ap (λ m. view_after t.setup number m.0.view c.number-thread.result) c.split-other.ensures.other.1 in
    split_off t c.args.self.now c.take_seat-seat.new.self c.take_seat-seat.result.0 c.split-other.new.seat c.number-thread.new.seat c.requires.rests c.take_seat-seat.ensures c.args.draws c.number-thread.result
    c.part.result c.newcomer-newcomer.result c.put_seat.new.self c.of_seat.result (let e = c.if-numbers-eq0.false in let n = ap (λ f. f.splits) c.numbers-numbers.ensures in omega arith)
    c.split-other.ensures.seat new c.number-thread.ensures.found.made.belongs (rw c.numbers-numbers.ensures at c.part.ensures) (rw c.numbers-numbers.ensures at c.newcomer-newcomer.ensures) c.put_seat.ensures c.of_seat.ensures
