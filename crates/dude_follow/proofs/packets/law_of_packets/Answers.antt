use Rattle.dude_follow.proofs.WrittenPackets.{packets_law}
use Rattle.dude_follow.proofs.packets.law_of_packets.Goals as goal

pub returns : goal.returns
returns c = packets_law
