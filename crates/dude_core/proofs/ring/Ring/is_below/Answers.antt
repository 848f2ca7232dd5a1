use Rattle.std.proofs.Common.{◌≡◌, ◌<◌, All, ap, subst, arith}
use Rattle.std.proofs.lemmas.List.{take_all}
use Rattle.std.proofs.lemmas.List.Elements.{All-more}
use Rattle.redo_record.specs.Fits.{Logged}
use Rattle.dude_core.proofs.ring.Ring.is_below.Goals as goal

pub loop-bundle-preserved : goal.loop-bundle-preserved
loop-bundle-preserved c =
    let same : c.bundle.inside.last ≡ c.bundle-item.result.last = ap (λ (k : Logged). k.last) c.bundle.view_is in
    let lt : c.bundle-item.result.last < c.args.number = (let not = c.if-bundle-number.false in omega arith) in
    All-more (λ (k : Logged). k.last < c.args.number) c.deref-bundle-items.result.now c.loop-bundle.bundle-index c.bundle-item.result c.loop-bundle-test.true c.loop-bundle.invariant
    (subst (λ (k : Logged). k.last < c.args.number) c.bundle-item.is lt)

pub returns : goal.returns
returns c = rw (← c.self.view_is, ← c.deref-bundle-items.ensures.value)
    (subst (All (λ (k : Logged). k.last < c.args.number)) (take_all c.loop-bundle.bundle-index c.deref-bundle-items.result.now c.loop-bundle-test.false) c.loop-bundle.invariant)
