use Rattle.std.proofs.Common.{◌∙◌, sym, arith}
use Rattle.std.proofs.lemmas.List.{length-set}
use Rattle.log_ring.proofs.RecordReads.{word_more}
use Rattle.dude_follow.specs.Packet.{word_in_bytes}
use Rattle.dude_follow.proofs.packet.words_in.Goals as goal

pub loop-i-preserved : goal.loop-i-preserved
loop-i-preserved c = record {
  size = length-set c.loop-i.words _ _ ∙ c.loop-i.invariant.size;
  before = word_more (word_in_bytes c.args.bytes.now) c.loop-i.words c.loop-i.i c.word_in.result (omega arith) c.loop-i.invariant.before (sym c.word_in.ensures);
}
