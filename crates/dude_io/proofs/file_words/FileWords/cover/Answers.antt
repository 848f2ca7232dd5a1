use Rattle.std.proofs.Common.{◌∙◌, arith}
use Rattle.dude_io.proofs.Pieces.{covered_more}
use Rattle.dude_io.proofs.file_words.FileWords.cover.Goals as goal

pub loop-self-preserved : goal.loop-self-preserved
loop-self-preserved c = record {
  words = covered_more c.loop-self.self.stored.items c.push_reserved.new.self.items c.loop-self.self.count _ _ c.push_reserved.ensures.items c.push_reserved.ensures.len (omega (arith, c.len.ensures)) ∙ c.loop-self.invariant.words;
  grows = omega (arith, c.push_reserved.ensures.len, c.loop-self.invariant.grows);
  count = c.loop-self.invariant.count;
  capacity = c.push_reserved.ensures.capacity ∙ c.loop-self.invariant.capacity;
}
