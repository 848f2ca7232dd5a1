-- the bytes before this place are those of the packets
use Rattle.std.proofs.Common.{◌-◌, length}
use Rattle.dude_follow.proofs.ReadPackets.{AreRead}
use Rattle.dude_follow.proofs.packets.read_packets.Given as goal

abbrev pub invariant-loop-start : goal.invariant-loop-start
invariant-loop-start l = AreRead l.sizes l.bytes l.start l.packets.items

abbrev pub decreases-loop-start : goal.decreases-loop-start
decreases-loop-start l = length l.bytes - l.start
