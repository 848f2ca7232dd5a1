use Rattle.std.proofs.Common.{◌≡◌, slice_index, sym, ap, ◌∙◌, arith, rules}
use Rattle.dude_base.specs.declared.sizes.Sizes.{Sizes}
use Rattle.pmem_trait.proofs.ReadRuns.{reads_then, read_alone, read_content}
use Rattle.log_ring.proofs.Replayable.{one_moment}
use Rattle.image_recovery.proofs.Homes.{home_same, word_pushed}
use Rattle.image_recovery.proofs.ReplayReading.{made_at_device}
use Rattle.image_recovery.proofs.home.read_home.Goals as goal

pub loop-i-preserved : goal.loop-i-preserved
loop-i-preserved g c = record {
  len = omega arith;
  reads = reads_then c.loop-i.invariant.reads (read_alone c.in_ok-read.ensures.one_call);
  few = let one = one_moment c.in_ok-read.ensures.one_call in omega arith;
  size = omega (arith, c.push_reserved.ensures.len, c.loop-i.invariant.size);
  capacity = c.push_reserved.ensures.capacity ∙ c.loop-i.invariant.capacity;
  words = λ told content is.
      word_pushed c.args.place.now content c.loop-i.words.items c.push_reserved.new.self.items c.loop-i.i c.in_ok-read.field-0 (sym c.loop-i.words.ok.0 ∙ c.loop-i.invariant.size) c.push_reserved.ensures.items (c.loop-i.invariant.words told content is)
      (sym (ap (slice_index content) c.home.ensures.place) ∙ read_content c.home.result c.loop-i.invariant.reads (omega arith) c.in_ok-read.ensures.value told content is);
}

pub returns-clause-words : goal.returns-clause-words
returns-clause-words g c = λ told content is.
    let sizes : c.sizes.result.pages ≡ c.args.place.now.pages = ap (λ (s : Sizes). s.pages) c.sizes.ensures.sizes in
    home_same c.args.place.now content c.loop-i.words.items (omega (arith, is.size)) (omega (arith, c.loop-i.words.ok, c.loop-i.invariant.size)) (λ i below. c.loop-i.invariant.words told content is i (omega arith))

pub returns-in_err-read-clause-reads : goal.returns-in_err-read-clause-reads
returns-in_err-read-clause-reads g c = made_at_device c.from_residual-in_err-read.result (search rules) (reads_then c.loop-i.invariant.reads (read_alone c.in_err-read.ensures.one_call))
