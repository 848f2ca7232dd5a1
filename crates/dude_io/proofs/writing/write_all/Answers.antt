use Rattle.std.proofs.Common.{arith, length-drop, ◌∙◌}
use Rattle.std.proofs.lemmas.List.{take_all, take_rest}
use Rattle.dude_io.proofs.WriteLaws.{took_more}
use Rattle.dude_io.proofs.writing.write_all.Goals as goal

pub pieces-preserved : goal.pieces-preserved
pieces-preserved g c =
    let some = rw take_rest at c.in_ok-done.ensures in
    record {
      within = omega (arith, some.most, length-drop c.pieces.done c.args.bytes.now);
      took = took_more c.pieces.done c.in_ok-done.field-0 c.args.bytes.now {u = g.K.Sink.sight c.write.new.self} c.pieces.invariant.took some.took;
      calm = some.calm ∙ c.pieces.invariant.calm;
      same = λ none. absurd (omega (arith, some.some));
    }

pub returns-clause-writes : goal.returns-clause-writes
returns-clause-writes g c =
    let whole = take_all c.pieces.done c.args.bytes.now (omega arith) in
    rw whole at c.pieces.invariant.took
