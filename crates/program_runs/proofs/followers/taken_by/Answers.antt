use Rattle.std.proofs.Common.{List, ap, subst, sym}
use Rattle.std.specs.Prelude.{All}
use Rattle.dude_base.specs.declared.sizes.Sizes.{Sizes}
use Rattle.dude_base.specs.Records.{RedoBundle}
use Rattle.back_store.specs.Back.{BackState}
use Rattle.dude_follow.specs.Packets.{IsPacket}
use Rattle.dude_program.proofs.PacketsRead.{each_is_packet}
use Rattle.program_runs.proofs.followers.taken_by.Goals as goal

pub answers_to-requires : goal.answers_to-requires
answers_to-requires c =
    subst (λ (z : Sizes). All (IsPacket z) c.deref.result.now) (sym (ap (λ (b : BackState). b.log.sizes) c.in-Ok.ensures.starts.back))
    (subst (λ (l : List RedoBundle). All (IsPacket c.args.opened.sizes) l) (sym c.deref.ensures.value) (each_is_packet c.in-Ok-read_packets.ensures.packets))
