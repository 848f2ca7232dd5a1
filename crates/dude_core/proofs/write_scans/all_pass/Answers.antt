use Rattle.std.proofs.Common.{arith}
use Rattle.dude_core.proofs.Held.{one_written, told_written}
use Rattle.dude_core.proofs.write_scans.all_pass.Goals as goal

pub returns-then-not-passes : goal.returns-then-not-passes
returns-then-not-passes g c = record { told = (c.get.result.at, one_written c.args.writes.now c.loop-k.k c.get.result c.get.ensures, c.if-not-passes.ensures) }

pub returns : goal.returns
returns g c = record { told = told_written _ c.args.writes.now c.loop-k.k (let e = c.len-k-end.ensures.len in let h = c.loop-k-test.false in omega arith) c.loop-k.invariant }
