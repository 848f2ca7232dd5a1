use Rattle.std.proofs.Common.{arith, ap, ◌∙◌, ◌+◌, slice_index, lit≤}
use Rattle.word_space.proofs.Runs.{used_until, below_before, shown_same, used_handed, used_then}
use Rattle.record_heap.proofs.pool.Pool.header.Goals as goal

pub overflow_add-self : goal.overflow_add-self
overflow_add-self g c = omega (arith, c.requires.fits.header, (g.met.W.Words.well_formed c.args.w.now).count)

pub read-requires-2 : goal.read-requires-2
read-requires-2 g c = record { inside = omega (arith, c.requires.fits.header, c.in_ok-first.ensures.uses.count) }

pub returns-in_err-first-clause-uses : goal.returns-in_err-first-clause-uses
returns-in_err-first-clause-uses g c = used_handed c.from_residual.result c.from_residual.ensures.1 c.in_err-first.ensures.uses (lit≤ tt) (lit≤ tt)

pub returns-in_err-live-clause-uses : goal.returns-in_err-live-clause-uses
returns-in_err-live-clause-uses g c = used_handed c.from_residual-in_err-live.result c.from_residual-in_err-live.ensures.1 (used_until c.in_ok-first.ensures.uses c.in_err-live.ensures.uses) (lit≤ tt) (lit≤ tt)

pub returns-clause-uses : goal.returns-clause-uses
returns-clause-uses g c = used_then c.in_ok-first.ensures.uses c.in_ok-live.ensures.uses

pub returns-clause-words : goal.returns-clause-words
returns-clause-words g c = λ array below. record {
  first = c.in_ok-first.ensures.value array (below_before c.in_ok-live.ensures.uses below);
  live = c.in_ok-live.ensures.value array below ∙ ap (λ seen. slice_index seen (c.args.self.now.base + 1)) (shown_same c.in_ok-first.ensures.uses array);
}
