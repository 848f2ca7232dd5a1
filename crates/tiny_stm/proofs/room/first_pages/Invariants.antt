use Rattle.tiny_stm.specs.Rooms.{HasFirst}
use Rattle.tiny_stm.proofs.room.first_pages.Given as goal

abbrev pub invariant-loop-frame : goal.invariant-loop-frame
invariant-loop-frame l = HasFirst l.pages l.frames l.frame l.pager
