use Rattle.std.proofs.Common.{slice_index, arith}
use Rattle.pmem_trait.proofs.ReadRuns.{reads_then, read_alone, read_content}
use Rattle.log_ring.proofs.RecordReads.{word_more}
use Rattle.log_ring.proofs.Replayable.{one_moment}
use Rattle.image_recovery.proofs.header.read_words.Goals as goal

pub loop-at-preserved : goal.loop-at-preserved
loop-at-preserved g c = record {
  len = omega arith;
  reads = reads_then c.loop-at.invariant.reads (read_alone c.in_ok-header.ensures.one_call);
  few = let one = one_moment c.in_ok-header.ensures.one_call in omega arith;
  words = λ told content is. word_more (slice_index content) c.loop-at.header c.loop-at.at _ (omega arith) (c.loop-at.invariant.words told content is)
      (read_content c.loop-at.at c.loop-at.invariant.reads (omega arith) c.in_ok-header.ensures.value told content is);
}
