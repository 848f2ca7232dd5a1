use Rattle.std.proofs.Common.{◌*◌}
use Rattle.std.specs.Mem.Slots.{slots_items}
use Rattle.dude_base.specs.declared.limits.TheConstants.{PAGE}
use Rattle.tiny_stm.specs.Collected.{IsPageCopied}
use Rattle.tiny_stm.proofs.closing.copy_page.Given as goal

abbrev pub invariant-loop-k : goal.invariant-loop-k
invariant-loop-k g l = IsPageCopied (slots_items l.table.words) l.cells (l.page * PAGE) l.k l.fn.words l.words
