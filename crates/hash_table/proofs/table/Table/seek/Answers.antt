use Rattle.std.proofs.Common.{arith, sym, ap, ◌∙◌, slice_index, lit≤}
use Rattle.std.proofs.lemmas.Bool.{false≢true}
use Rattle.std.proofs.lemmas.Result.{IfOk-from_err}
use Rattle.word_space.proofs.Runs.{used_until, used_then, below_before, shown_same, used_handed, used_more, used_none}
use Rattle.hash_table.specs.declared.table.ChainPosition.{ChainPosition}
use Rattle.hash_table.proofs.Walks.{passes_from, passes_none, passes_more, seeks_end, seeks_found, seeks_out}
use Rattle.hash_table.proofs.table.Table.seek.Goals as goal

pub returns-in_err-record : goal.returns-in_err-record
returns-in_err-record g c = let r = c.from_residual in record { uses = used_handed r.result r.ensures.1 (used_until c.loop.invariant.uses c.in_err-record.ensures.uses) (omega arith) (lit≤ tt); «record» = IfOk-from_err _ _ r.ensures.0; link = IfOk-from_err _ _ r.ensures.0; seeks = IfOk-from_err _ _ r.ensures.0 }

pub returns-then-not-has-clause-uses : goal.returns-then-not-has-clause-uses
returns-then-not-has-clause-uses g c = used_more (used_then c.loop.invariant.uses c.in_ok-record.ensures.uses) (omega arith) (lit≤ tt)

pub returns-in_err-read : goal.returns-in_err-read
returns-in_err-read g c = let r = c.from_residual-in_err-read in record { uses = used_handed r.result r.ensures.1 (used_until (used_then c.loop.invariant.uses c.in_ok-record.ensures.uses) c.in_err-read.ensures.uses) (omega arith) (lit≤ tt); «record» = IfOk-from_err _ _ r.ensures.0; link = IfOk-from_err _ _ r.ensures.0; seeks = IfOk-from_err _ _ r.ensures.0 }

pub returns-then-branch-key-clause-uses : goal.returns-then-branch-key-clause-uses
returns-then-branch-key-clause-uses g c = used_more (used_then c.loop.invariant.uses (used_then c.in_ok-record.ensures.uses c.in_ok-read.ensures.uses)) (omega arith) (lit≤ tt)

pub returns-clause-uses : goal.returns-clause-uses
returns-clause-uses g c = used_more c.loop.invariant.uses (omega arith) (lit≤ tt)

pub loop-init : goal.loop-init
loop-init g c = record {
  uses = used_none;
  inside = omega (arith, c.requires.fits.links, c.requires.fits.buckets, c.link_of-link.ensures);
  passes = λ array below. passes_none;
}

pub returns-then-not-has-clause-seeks : goal.returns-then-not-has-clause-seeks
returns-then-not-has-clause-seeks g c = λ array below.
    let before = c.loop.invariant in
    let step = c.in_ok-record.ensures in
    let passes = before.passes array (below_before step.uses below) in
    seeks_end c.in_ok-record.record (passes_from c.link_of-link.ensures passes) (omega arith)
    (λ there. false≢true (c.if-not-has.ensures.1 there))
    (step.value array below ∙ ap (λ seen. slice_index seen c.loop.link) (shown_same before.uses array))

pub returns-then-branch-key-clause-seeks : goal.returns-then-branch-key-clause-seeks
returns-then-branch-key-clause-seeks g c = λ array below.
    let before = c.loop.invariant in
    let step = c.in_ok-record.ensures in
    let key_step = c.in_ok-read.ensures in
    let found = c.in_ok-record.record in
    let below_step = below_before key_step.uses below in
    let passes = before.passes array (below_before step.uses below_step) in
    let position : ChainPosition = record { link = c.loop.link; «record» = found } in
    seeks_found position (omega (arith, c.requires.fits.pool.size))
    (passes_from c.link_of-link.ensures passes) (omega arith)
    (c.has.ensures.0 c.if-not-has.false)
    (step.value array below_step ∙ ap (λ seen. slice_index seen c.loop.link) (shown_same before.uses array))
    (sym (key_step.value array below ∙ ap (λ seen. slice_index seen found) (shown_same (used_then before.uses step.uses) array)) ∙ c.if-branch-key.true)

pub loop-preserved : goal.loop-preserved
loop-preserved g c =
    let before = c.loop.invariant in
    let step = c.in_ok-record.ensures in
    let key_step = c.in_ok-read.ensures in
    let found = c.in_ok-record.record in
    let there = c.has.ensures.0 c.if-not-has.false in
    let uses = used_then before.uses (used_then step.uses key_step.uses) in
    record {
      uses = used_more uses (omega arith) (lit≤ tt);
      inside = omega (arith, uses.count, c.requires.fits.pool.inside found there, c.requires.fits.pool.size);
      passes = λ array below.
          let below_step = below_before key_step.uses below in
          passes_more found (before.passes array (below_before step.uses below_step)) there
          (step.value array below_step ∙ ap (λ seen. slice_index seen c.loop.link) (shown_same before.uses array))
          (λ same. c.if-branch-key.false (key_step.value array below ∙ ap (λ seen. slice_index seen found) (shown_same (used_then before.uses step.uses) array) ∙ same));
    }

pub returns-clause-seeks : goal.returns-clause-seeks
returns-clause-seeks g c = λ array below.
    seeks_out (passes_from c.link_of-link.ensures (c.loop.invariant.passes array below)) (omega arith)

pub read-requires : goal.read-requires
read-requires g c = record { inside = c.loop.invariant.inside }

pub read-requires-in-loop : goal.read-requires-in-loop
read-requires-in-loop g c =
    record { inside = omega (arith, c.requires.fits.pool.inside _ (c.has.ensures.0 c.if-not-has.false), c.requires.fits.pool.size, c.loop.invariant.uses.count, c.in_ok-record.ensures.uses.count) }

pub overflow_add-link : goal.overflow_add-link
overflow_add-link g c = omega (arith, c.requires.fits.pool.inside _ (c.has.ensures.0 c.if-not-has.false), c.requires.fits.pool.size, (g.met.W.Words.well_formed c.args.w.now).count)
