use Rattle.std.proofs.Common.{◌*◌}
use Rattle.std.specs.Mem.Slots.{slots_items}
use Rattle.dude_base.specs.declared.limits.TheConstants.{PAGE}
use Rattle.tiny_stm.specs.Collected.{AreCopied}
use Rattle.tiny_stm.proofs.closing.copy_shown.Given as goal

abbrev pub invariant-loop-page : goal.invariant-loop-page
invariant-loop-page g l = AreCopied (slots_items l.table.words) l.entries l.cells l.fn.words (l.page * PAGE) l.words
