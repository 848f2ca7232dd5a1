use Rattle.record_heap.proofs.pool.Pool.live.Goals as goal

pub returns-clause-uses : goal.returns-clause-uses
returns-clause-uses g c = c.read.ensures.uses
