use Rattle.std.proofs.Common.{◌≡◌, ◌++◌, take}
use Rattle.dude_program.specs.Ship.{bytes_of_packets}
use Rattle.dude_program.proofs.ship.put_packets.Given as goal

-- the bytes of the first packets were added
abbrev pub invariant-loop-packet : goal.invariant-loop-packet
invariant-loop-packet l = l.out.items ≡ l.initial.out.items ++ bytes_of_packets (take l.packet-index l.packets)
