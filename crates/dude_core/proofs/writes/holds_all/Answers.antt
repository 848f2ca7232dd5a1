use Rattle.std.proofs.Common.{arith}
use Rattle.dude_core.proofs.Walks.{all_more}
use Rattle.dude_core.specs.Held.{Holds}
use Rattle.dude_core.proofs.Held.{holds_told, not_held}
use Rattle.dude_core.proofs.writes.holds_all.Goals as goal

pub returns-then-not-holds : goal.returns-then-not-holds
returns-then-not-holds c = not_held c.args.z.now c.args.view.now c.args.writes.now c.loop-k.k c.get.result (let e = c.len-k-end.ensures.len in let h = c.loop-k-test.true in omega arith) c.get.ensures c.if-not-holds.ensures

pub loop-k-preserved : goal.loop-k-preserved
loop-k-preserved c = all_more (Holds c.args.z.now c.args.view.now) c.args.writes.now c.loop-k.k c.get.result c.loop-k.invariant c.get.ensures c.if-not-holds.ensures

pub returns : goal.returns
returns c = holds_told c.args.z.now c.args.view.now c.args.writes.now c.loop-k.k (let e = c.len-k-end.ensures.len in let h = c.loop-k-test.false in omega arith) c.loop-k.invariant
