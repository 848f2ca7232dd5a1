use Rattle.std.proofs.Common.{◌+◌, slice_set, ap, ◌∙◌, lit≤}
use Rattle.word_space.proofs.Runs.{used_until, used_handed, used_then, wrote_one, wrote_then}
use Rattle.record_heap.proofs.pool.Pool.put_header.Goals as goal

pub returns-in_err-write-clause-uses : goal.returns-in_err-write-clause-uses
returns-in_err-write-clause-uses g c = used_handed c.from_residual.result c.from_residual.ensures.1 c.in_err-write.ensures.uses (lit≤ tt) (lit≤ tt)

pub returns-in_err-write-2-clause-uses : goal.returns-in_err-write-2-clause-uses
returns-in_err-write-2-clause-uses g c = used_handed c.from_residual-in_err-write-2.result c.from_residual-in_err-write-2.ensures.1 (used_until c.in_ok-write.ensures.uses c.in_err-write-2.ensures.uses) (lit≤ tt) (lit≤ tt)

pub returns-clause-uses : goal.returns-clause-uses
returns-clause-uses g c = used_then c.in_ok-write.ensures.uses c.in_ok-write-2.ensures.uses

pub returns-clause-wrote : goal.returns-clause-wrote
returns-clause-wrote g c = wrote_then (wrote_one c.in_ok-write.ensures.writes) (wrote_one c.in_ok-write-2.ensures.writes)

pub returns-clause-shown : goal.returns-clause-shown
returns-clause-shown g c = λ array. c.in_ok-write-2.ensures.shown array ∙ ap (λ seen. slice_set seen (c.args.self.now.base + 1) c.args.header.live) (c.in_ok-write.ensures.shown array)
