use Rattle.std.proofs.Common.{arith}
use Rattle.dude_base.proofs.Joining.{length-put_all}
use Rattle.dude_base.proofs.bundle.Bundle.too_many_places.Goals as goal

pub returns-then-len-le-MAX_BUNDLE_WRITES-clause-none : goal.returns-then-len-le-MAX_BUNDLE_WRITES-clause-none
returns-then-len-le-MAX_BUNDLE_WRITES-clause-none c =
    let few = length-put_all c.args.self.now.writes c.args.r.now.writes in
    omega (arith, few, c.len.ensures, c.len-2.ensures, c.if-len-le-MAX_BUNDLE_WRITES.true)
