use Rattle.std.proofs.Common.{rules, ◌≡◌, refl}
use Rattle.std.proofs.lemmas.List.{take_more_same}
use Rattle.std.proofs.lemmas.Option.{get_or_from_slice_get}
use Rattle.dude_base.specs.declared.write.Write.{Write}
use Rattle.dude_base.proofs.bundle.Bundle.is_same.Goals as goal

pub loop-k-preserved : goal.loop-k-preserved
loop-k-preserved c =
    let w : Write = c.write_at.result in
    let v : Write = c.write_at-in-loop-k.result in
    let one = get_or_from_slice_get c.args.self.now.writes c.loop-k.k w w c.write_at.ensures in
    let other = get_or_from_slice_get c.args.other.now.writes c.loop-k.k v w c.write_at-in-loop-k.ensures in
    let same : w ≡ v = search (rules, c.if-ne.ensures) in
    (refl, take_more_same c.args.self.now.writes c.args.other.now.writes c.loop-k.k w (search rules) (search rules) c.loop-k.invariant.1 (cc))
