use Rattle.std.proofs.Common.{◌+◌, ◌*◌, sym, subst, arith}
use Rattle.std.specs.Mem.Slots.{slots_counts, slots_items, slots_small}
use Rattle.dude_base.specs.declared.limits.TheConstants.{PAGE}
use Rattle.tiny_stm.specs.Collected.{AreCopied}
use Rattle.tiny_stm.proofs.Copies.{frame_inside, page_absent, page_shown}
use Rattle.tiny_stm.proofs.closing.copy_shown.Goals.{then-entry-ne0, else-entry-ne0}
use Rattle.tiny_stm.proofs.closing.copy_shown.Goals as goal

pub overflow_add-cells : goal.overflow_add-cells
overflow_add-cells g c =
    let t = slots_items c.args.table.now.words in
    let inside = frame_inside t c.args.entries c.args.cells c.args.words.now c.loop-page.page c.word-entry.result c.word-entry.ensures c.saturating_sub-frame.result c.requires.places (omega (arith, c.loop-page-test.true, c.loop-page.invariant.size)) c.if-entry-ne0.true c.saturating_sub-frame.ensures in
    let long = (slots_counts c.args.table.now.words).0 in let small = slots_small c.args.table.now.words in omega arith

pub copy_page-requires-clause-frame : goal.copy_page-requires-clause-frame
copy_page-requires-clause-frame g c =
    frame_inside (slots_items c.args.table.now.words) c.args.entries c.args.cells c.args.words.now c.loop-page.page c.word-entry.result c.word-entry.ensures c.saturating_sub-frame.result c.requires.places (omega (arith, c.loop-page-test.true, c.loop-page.invariant.size)) c.if-entry-ne0.true c.saturating_sub-frame.ensures

pub loop-page-preserved : goal.loop-page-preserved
loop-page-preserved g c =
    let t = slots_items c.args.table.now.words in
    elim c.if-entry-ne0.branch [
      | then-entry-ne0 w ↦ subst (λ l. AreCopied t c.args.entries c.args.cells c.args.words.now ((c.loop-page.page + 1) * PAGE) l) (sym w.words-is)
          (page_shown t c.args.entries c.args.cells c.args.words.now c.loop-page.page c.word-entry.result c.word-entry.ensures w.saturating_sub-frame.result c.loop-page.words w.copy_page.new.words c.loop-page.invariant w.if-entry-ne0.true w.saturating_sub-frame.ensures w.copy_page.ensures)
      | else-entry-ne0 w ↦ subst (λ l. AreCopied t c.args.entries c.args.cells c.args.words.now ((c.loop-page.page + 1) * PAGE) l) (sym w.words-is)
          (page_absent t c.args.entries c.args.cells c.args.words.now c.loop-page.page c.word-entry.result c.word-entry.ensures c.loop-page.words c.loop-page.invariant w.if-entry-ne0.false)
    ]
