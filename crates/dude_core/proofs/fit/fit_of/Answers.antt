use Rattle.std.proofs.Common.{arith, rules}
use Rattle.dude_core.proofs.CallLists.{is_whole, is_front}
use Rattle.dude_core.proofs.fit.fit_of.Goals as goal

pub returns-then-len-count-2 : goal.returns-then-len-count-2
returns-then-len-count-2 g c = is_whole (g.L.CallList.calls c.args.list.now) c.args.made.now c.args.call c.get-2.result (let n = c.len.ensures in let not = c.if-len-count.false in omega arith)
    (λ k d lt. c.loop-k.invariant k d (let past = c.loop-k-test.false in omega arith)) c.get-2.ensures (search rules) (let n = c.len-2.ensures in let is = c.if-len-count-2.true in omega arith)

pub returns-else-len-count-2 : goal.returns-else-len-count-2
returns-else-len-count-2 g c = is_front (g.L.CallList.calls c.args.list.now) c.args.made.now c.args.call c.get-2.result (let n = c.len.ensures in let not = c.if-len-count.false in omega arith)
    (λ k d lt. c.loop-k.invariant k d (let past = c.loop-k-test.false in omega arith)) c.get-2.ensures (search rules) (let n = c.len-2.ensures in let not = c.if-len-count-2.false in omega arith)
