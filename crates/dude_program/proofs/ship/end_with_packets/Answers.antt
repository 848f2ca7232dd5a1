use Rattle.std.proofs.Common.{refl}
use Rattle.dude_program.proofs.ship.end_with_packets.Goals.{in-Some, in-None}
use Rattle.dude_program.proofs.ship.end_with_packets.Goals as goal

pub returns-clause-printed : goal.returns-clause-printed
returns-clause-printed g c = elim c.match-worked.branch [
  | in-Some w ↦ rw (w.in-Some.is, c.new.ensures.fault, w.fault-is, w.out-is) (refl, refl)
  | in-None w ↦ rw (w.in-None.is, c.new.ensures.fault, w.fault-is, w.out-is) (rw w.deref.ensures.value at w.print_packets-fault.ensures)
]
