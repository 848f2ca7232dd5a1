use Rattle.std.proofs.Common.{rules, ◌≡◌, ◌+◌, ◌-◌, arith}
use Rattle.std.specs.Prelude.{slice_index}
use Rattle.std.proofs.lemmas.Result.{IfErr-weaker}
use Rattle.dude_stream.proofs.Rests.{last_stops, piece_printed, piece_stops}
use Rattle.dude_stream.proofs.rest.print_rest.Goals as goal

pub pieces-preserved : goal.pieces-preserved
pieces-preserved g c =
    let n = c.min.result in
    let same : c.pieces.at + n - c.pieces.at ≡ n = omega arith in
    record {
      within = search rules;
      took = piece_printed (slice_index c.args.printed.now) c.args.done.now c.pieces.at n (g.K.Sink.sight c.args.out.now) (g.K.Sink.sight c.pieces.out) (g.K.Sink.sight c.print_piece.new.out)
          c.pieces.invariant.took (rw same at c.in-Ok.ensures.ok);
    }

pub returns-in-Err-clause-err : goal.returns-in-Err-clause-err
returns-in-Err-clause-err g c =
    let n = c.min.result in
    let same : c.pieces.at + n - c.pieces.at ≡ n = omega arith in
    piece_stops (slice_index c.args.printed.now) c.args.done.now c.pieces.at n c.args.last c.in-Err.fault (g.K.Sink.sight c.args.out.now) (g.K.Sink.sight c.pieces.out) (g.K.Sink.sight c.print_piece.new.out)
    c.pieces.invariant.took (rw same at c.in-Err.ensures.err)

pub returns-clause-err : goal.returns-clause-err
returns-clause-err g c =
    IfErr-weaker c.print_last.result _ _
    (λ fault stop. last_stops (slice_index c.args.printed.now) c.args.done.now c.pieces.at c.args.last fault (g.K.Sink.sight c.args.out.now) (g.K.Sink.sight c.pieces.out) _ (omega arith) c.pieces.invariant.took stop)
    c.print_last.ensures.err
