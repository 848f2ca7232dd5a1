use Rattle.std.proofs.Common.{ℕ, true, Some, arith, rules, subst}
use Rattle.pmem_trait.proofs.ReadRuns.{reads_here, read_alone, read_content, content_before}
use Rattle.dude_base.specs.Image.{cell_at}
use Rattle.redo_record.specs.Record.{FitsVersion}
use Rattle.redo_record.specs.Images.{word_in_image}
use Rattle.log_ring.specs.Scanning.{IsRecordAt}
use Rattle.log_ring.proofs.RecordReads.{named_torn, new_head, no_head, sound_head, unsound_head, head_of_record}
use Rattle.log_ring.proofs.scanning.scan_cell.Goals.{then-tag-ne1-via-then-tag-ne1, then-tag-ne1-via-else-tag-ne1+then-tag-above}
use Rattle.log_ring.proofs.scanning.scan_cell.Goals as goal

pub returns-then-tag-ne1-clause-seen : goal.returns-then-tag-ne1-clause-seen
returns-then-tag-ne1-clause-seen g c = λ told content holds version.
    no_head c.args.place.now c.args.above content (cell_at c.args.ring c.args.cell) c.cell-start.result c.in_ok-tag.tag c.cell-start.ensures.place
    (read_content c.cell-start.result (reads_here (g.M.Medium.sight c.args.m.now)) (omega arith) c.in_ok-tag.ensures.value told content holds)
    (λ kind. elim c.then-tag-ne1.branch [
      | then-tag-ne1-via-then-tag-ne1 w ↦ absurd (w.if-tag-ne1.true kind)
      | then-tag-ne1-via-else-tag-ne1+then-tag-above w ↦ w.if-tag-above.true
    ])

pub returns-in_default-clause-torn : goal.returns-in_default-clause-torn
returns-in_default-clause-torn g c line is = named_torn c.args.place.now c.args.version c.args.above (cell_at c.args.ring c.args.cell) c.cell-start.result c.in_ok-tag.tag line (g.M.Medium.sight c.args.m.now) c.requires.cell c.cell-start.ensures.place (search rules) (read_content c.cell-start.result (reads_here (g.M.Medium.sight c.args.m.now)) (omega arith) c.in_ok-tag.ensures.value) (omega arith) (omega arith) (λ told content holds version.
    let found = content_before {P = λ l. IsRecordAt c.args.place.now c.args.version l (cell_at c.args.ring c.args.cell) c.in_ok-bundle.field-0} {ok = true} (read_alone {ok = true} c.in_ok-tag.ensures.one_call) c.in_ok-bundle.ensures.record told content holds in
    λ sound. subst (IsRecordAt c.args.place.now c.args.version content (cell_at c.args.ring c.args.cell)) c.in_default.is found sound.complete
    (subst (λ (v : ℕ). FitsVersion v (word_in_image c.args.place.now content (cell_at c.args.ring c.args.cell))) version sound.version))

pub returns-then-first-above-clause-torn : goal.returns-then-first-above-clause-torn
returns-then-first-above-clause-torn g c line is = named_torn c.args.place.now c.args.version c.args.above (cell_at c.args.ring c.args.cell) c.cell-start.result c.in_ok-tag.tag line (g.M.Medium.sight c.args.m.now) c.requires.cell c.cell-start.ensures.place (search rules) (read_content c.cell-start.result (reads_here (g.M.Medium.sight c.args.m.now)) (omega arith) c.in_ok-tag.ensures.value) (omega arith) (omega arith) (λ told content holds version.
    let found = content_before {P = λ l. IsRecordAt c.args.place.now c.args.version l (cell_at c.args.ring c.args.cell) c.in_ok-bundle.field-0} {ok = true} (read_alone {ok = true} c.in_ok-tag.ensures.one_call) c.in_ok-bundle.ensures.record told content holds in
    unsound_head c.args.place.now c.args.version c.args.above content (cell_at c.args.ring c.args.cell) c.in-Some.bundle
    (subst (IsRecordAt c.args.place.now c.args.version content (cell_at c.args.ring c.args.cell)) c.in-Some.is found) (omega arith))

pub returns-clause-seen : goal.returns-clause-seen
returns-clause-seen g c = λ told content holds version.
    let found = content_before {P = λ l. IsRecordAt c.args.place.now c.args.version l (cell_at c.args.ring c.args.cell) c.in_ok-bundle.field-0} {ok = true} (read_alone {ok = true} c.in_ok-tag.ensures.one_call) c.in_ok-bundle.ensures.record told content holds in
    let is : IsRecordAt c.args.place.now c.args.version content (cell_at c.args.ring c.args.cell) (Some c.in-Some.bundle) = subst (IsRecordAt c.args.place.now c.args.version content (cell_at c.args.ring c.args.cell)) c.in-Some.is found in (
      new_head c.args.place.now c.args.above content (cell_at c.args.ring c.args.cell) c.cell-start.result c.in_ok-tag.tag c.requires.cell c.cell-start.ensures.place
          (read_content c.cell-start.result (reads_here (g.M.Medium.sight c.args.m.now)) (omega arith) c.in_ok-tag.ensures.value told content holds) (omega arith) (omega arith),
      sound_head c.args.place.now c.args.version c.args.above content (cell_at c.args.ring c.args.cell) c.in-Some.bundle is version (omega arith),
      head_of_record c.args.place.now c.args.version c.args.above content (cell_at c.args.ring c.args.cell) c.in-Some.bundle is _ _ (omega arith) (omega arith),
    )
