use Rattle.std.proofs.Common.{◌≡◌, length, List, None, is_some, refl, sym, ◌∙◌, ap, subst, arith, map, true}
use Rattle.std.specs.List.{range_with_len}
use Rattle.std.proofs.lemmas.List.FromFn.{length-map-range_with_len}
use Rattle.dude_base.specs.declared.write.Write.{Write}
use Rattle.dude_base.specs.Writes.{written, HasDistinctPlaces}
use Rattle.dude_base.proofs.WriteLists.{None-from_is_some}
use Rattle.pmem_trait.proofs.Runs.{on_err}
use Rattle.redo_record.specs.declared.bad_record.BadRecord.{BadRecord}
use Rattle.redo_record.specs.Record.{write_of}
use Rattle.redo_record.specs.Encoding.{word_in_slice, IsRecordSlice}
use Rattle.redo_record.proofs.ReadCells.{read_more, read_twice, slice_distinct}
use Rattle.redo_record.proofs.decoding.read_writes.Goals as goal

pub returns-then-is_some-clause-bad : goal.returns-then-is_some-clause-bad
returns-then-is_some-clause-bad c slice =
    let w = c.write_in-w.result in
    let there : is_some (written (map (write_of (word_in_slice c.args.cells.now)) (range_with_len 0 c.loop-i.i)) w.at) ≡ true =
    ap (λ (ws : List Write). is_some (written ws w.at)) (sym c.loop-i.invariant.0) ∙ (ap is_some (sym c.find.ensures) ∙ (sym c.is_some.ensures ∙ c.if-is_some.true)) in
    read_twice (word_in_slice c.args.cells.now) c.args.count c.loop-i.i w (slice_distinct c.args.cells.now c.args.count c.requires slice) c.loop-i-test.true c.write_in-w.ensures there

pub returns-in_err-put-clause-bad : goal.returns-in_err-put-clause-bad
returns-in_err-put-clause-bad c = on_err {T = List Write} {E = BadRecord} c.from_residual.result {P = ¬ IsRecordSlice c.args.cells.now} (λ _.
    let full = (c.in_err-put.ensures.wide.0 refl).full in
    let long = ap length c.loop-i.invariant.0 ∙ length-map-range_with_len (write_of (word_in_slice c.args.cells.now)) 0 c.loop-i.i in
    let few = c.requires.few in
    absurd (omega arith))

pub loop-i-preserved : goal.loop-i-preserved
loop-i-preserved c =
    let new : written c.loop-i.writes c.write_in-w.result.at ≡ None = sym c.find.ensures ∙ None-from_is_some _ (sym c.is_some.ensures ∙ c.if-is_some.false) in
    let more = read_more (word_in_slice c.args.cells.now) c.loop-i.i c.loop-i.writes c.write_in-w.result c.loop-i.invariant.0 c.loop-i.invariant.1 c.write_in-w.ensures new in
    let put = c.in_ok-put.ensures.ok in
    (put ∙ more.0, subst HasDistinctPlaces (sym put) more.1)
