use Rattle.dude_follow.proofs.TakenPackets.{still_packets}
use Rattle.dude_follow.proofs.follower.Follower.advance.Goals as goal

pub invariant_of-self : goal.invariant_of-self
invariant_of-self g c = record {
  packets = still_packets c.args.self.now.replica.back.log.sizes c.apply_chain-applied.new.replica.back.log.sizes c.number.result c.args.self.now.buffer.kept.items c.release.new.self.kept.items
      c.apply_chain-applied.ensures.goes_on.sizes c.release.ensures.kept c.args.self.now.packets;
}
