use Rattle.std.proofs.Common.{List, sym, subst}
use Rattle.std.specs.Prelude.{All}
use Rattle.dude_base.specs.declared.sizes.Sizes.{Sizes}
use Rattle.dude_base.specs.Records.{RedoBundle}
use Rattle.dude_follow.specs.Packets.{IsPacket}
use Rattle.dude_program.specs.Taking.{MeansPackets}
use Rattle.dude_program.proofs.PacketsRead.{text_packets}
use Rattle.dude_program.proofs.TakenPackets.{text_taken, text_unread}
use Rattle.dude_program.proofs.follow.take_text.Goals as goal

pub take_packets-requires-clause-packets : goal.take_packets-requires-clause-packets
take_packets-requires-clause-packets g c =
    let means = subst (λ (l : List RedoBundle). MeansPackets c.args.sizes.now c.args.text.now l) (sym c.deref.ensures.value) c.in-Ok.ensures.read in
    subst (λ (z : Sizes). All (IsPacket z) c.deref.result.now) (sym c.requires.sizes) (text_packets c.args.sizes.now c.args.text.now c.deref.result.now means)

pub returns-in-Ok : goal.returns-in-Ok
returns-in-Ok g c =
    let means = subst (λ (l : List RedoBundle). MeansPackets c.args.sizes.now c.args.text.now l) (sym c.deref.ensures.value) c.in-Ok.ensures.read in
    text_taken c.args.sizes.now c.args.text.now c.deref.result.now c.args.file c.take_packets.result c.args.follower.now c.take_packets.new.follower means c.take_packets.ensures

pub returns-in-Err : goal.returns-in-Err
returns-in-Err g c = text_unread c.args.sizes.now c.args.text.now c.args.file c.in-Err.fault c.args.follower.now c.requires.rests c.in-Err.ensures.fault
