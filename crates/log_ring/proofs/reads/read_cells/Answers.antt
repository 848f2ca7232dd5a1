use Rattle.std.proofs.Common.{◌≡◌, ◌+◌, ◌*◌, ◌/◌, ◌%◌, slice_index, ap, ◌∙◌, sym, arith}
use Rattle.redo_record.specs.Images.{word_in_image}
use Rattle.pmem_trait.proofs.ReadRuns.{reads_then, read_alone, read_content}
use Rattle.dude_base.specs.Image.{cell_at}
use Rattle.log_ring.proofs.RecordReads.{word_more}
use Rattle.log_ring.proofs.Replayable.{one_moment}
use Rattle.log_ring.proofs.reads.read_cells.Goals as goal

pub loop-i-preserved : goal.loop-i-preserved
loop-i-preserved g c = record {
  len = omega arith;
  reads = reads_then c.loop-i.invariant.reads (read_alone c.in_ok-words.ensures.one_call);
  few = let one = one_moment c.in_ok-words.ensures.one_call in omega arith;
  words = λ told content is.
      word_more (λ i. word_in_image c.args.place.now content (cell_at c.args.ring c.args.head) (i / 8) (i % 8)) c.loop-i.words c.loop-i.i _ (omega arith) (c.loop-i.invariant.words told content is)
      (ap (λ x. slice_index content (x + c.loop-i.i % 8)) (sym c.start_after.ensures.start) ∙ read_content _ c.loop-i.invariant.reads (omega arith) c.in_ok-words.ensures.value told content is);
}

pub returns-clause-words : goal.returns-clause-words
returns-clause-words g c = λ told content is k j lt small.
    let word = c.loop-i.invariant.words told content is (8 * k + j) (omega arith) in
    let cell : (8 * k + j) / 8 ≡ k = omega arith in
    let at : (8 * k + j) % 8 ≡ j = omega arith in
    word ∙ ap (λ x. word_in_image c.args.place.now content (cell_at c.args.ring c.args.head) x ((8 * k + j) % 8)) cell ∙ ap (word_in_image c.args.place.now content (cell_at c.args.ring c.args.head) k) at
