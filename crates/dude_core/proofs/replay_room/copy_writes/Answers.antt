use Rattle.std.proofs.Common.{◌∙◌, ◌++◌, ◌∷◌, [], List, ap, sym, arith}
use Rattle.dude_base.specs.declared.write.Write.{Write}
use Rattle.dude_core.proofs.ChainWrites.{take_next}
use Rattle.dude_core.proofs.replay_room.copy_writes.Goals as goal

pub loop-k-preserved : goal.loop-k-preserved
loop-k-preserved c = record {
  items = c.push_reserved.ensures.items ∙ (ap (λ (l : List Write). l ++ c.get.result ∷ []) c.loop-k.invariant.items ∙ sym (take_next c.args.group.now.writes c.loop-k.k c.get.result (omega arith) c.get.ensures));
  capacity = c.push_reserved.ensures.capacity ∙ c.loop-k.invariant.capacity;
}
