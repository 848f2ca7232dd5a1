use Rattle.std.proofs.Common.{arith}
use Rattle.dude_core.proofs.Held.{one_written}
use Rattle.dude_core.proofs.Held.{not_in}
use Rattle.dude_core.proofs.write_scans.writes_in.Goals as goal

pub returns-then-get-page : goal.returns-then-get-page
returns-then-get-page c = (c.get.result.at, one_written c.args.writes.now c.loop-k.k c.get.result c.get.ensures, c.if-get-page.true)

pub returns : goal.returns
returns c = λ t. not_in c.args.writes.now c.args.page c.loop-k.k (let e = c.len-k-end.ensures.len in let h = c.loop-k-test.false in omega arith) c.loop-k.invariant t.0 t.1.0 t.1.1 t.2
