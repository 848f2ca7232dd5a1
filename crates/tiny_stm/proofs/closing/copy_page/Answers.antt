use Rattle.std.proofs.Common.{◌*◌, arith}
use Rattle.std.specs.Mem.Slots.{slots_items}
use Rattle.dude_base.specs.declared.limits.TheConstants.{PAGE}
use Rattle.tiny_stm.proofs.Copies.{one_of_page}
use Rattle.tiny_stm.proofs.closing.copy_page.Goals as goal

pub loop-k-preserved : goal.loop-k-preserved
loop-k-preserved g c = one_of_page (slots_items c.args.table.now.words) c.args.cells (c.args.page * PAGE) c.args.words.now c.loop-k.k c.word.result c.loop-k.words c.loop-k.invariant (omega (arith, c.requires.page, c.loop-k-test.true)) c.word.ensures
