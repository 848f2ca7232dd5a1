use Rattle.std.proofs.Common.{arith}
use Rattle.dude_core.proofs.Chains.{wait_one, end_on, no_end, end_tells}
use Rattle.dude_core.proofs.leading.leads_to.Goals as goal

pub loop-end-preserved : goal.loop-end-preserved
loop-end-preserved c =
    let w = c.in-Some.ensures.some in
    let last = c.last-end.ensures in
    end_on c.args.waiting.now c.requires.distinct c.in-Some.bundle.now c.args.from c.loop-end.end c.last-end.result c.args.number
    (wait_one c.args.waiting.now c.requires.distinct w.0 w.1 c.in-Some.bundle.now w.2) w.3 (omega arith) last c.loop-end.invariant

pub returns-in-None : goal.returns-in-None
returns-in-None c = λ e. no_end c.args.waiting.now c.requires.distinct c.loop-end.end c.args.number (omega arith) c.in-None.ensures.none (c.loop-end.invariant.0 e)

pub returns : goal.returns
returns c = end_tells c.args.waiting.now c.requires.distinct c.args.from c.loop-end.end c.args.number (omega arith) c.loop-end.invariant
