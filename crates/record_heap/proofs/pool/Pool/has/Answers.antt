use Rattle.std.proofs.Common.{arith}
use Rattle.std.proofs.lemmas.Bool.{ltb-true, lt-ltb}
use Rattle.record_heap.proofs.Records.{record_from, record_passes}
use Rattle.record_heap.proofs.pool.Pool.has.Goals as goal

pub returns-then-offset-self-eq0 : goal.returns-then-offset-self-eq0
returns-then-offset-self-eq0 c =
    let pool = c.args.self.now in
    (λ passes. record_from pool c.args.at _ (omega arith) c.if-offset-self-eq0.true (ltb-true _ _ passes), λ there. lt-ltb _ _ (record_passes c.requires.size there).2)
