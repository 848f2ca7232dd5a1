use Rattle.std.proofs.Common.{◌≢◌, ◌++◌, ◌∷◌, [], All, length, sym, ap, ◌∙◌, subst, arith}
use Rattle.dude_base.proofs.Overwriting.{copied_more}
use Rattle.dude_base.proofs.bundle.Bundle.one.Goals as goal

pub append-requires : goal.append-requires
append-requires c =
    let more = copied_more c.args.r.now.writes c.loop-k.k c.write_at.result c.len-k-end.ensures.writes.distinct c.write_at.ensures in
    let few = c.len-k-end.ensures.writes.few in
    let long = ap length c.loop-k.invariant ∙ more.0 in
    (omega arith, (omega arith, subst (All (λ v. v.at ≢ c.write_at.result.at)) (sym c.loop-k.invariant) more.2))

pub loop-k-preserved : goal.loop-k-preserved
loop-k-preserved c =
    let more = copied_more c.args.r.now.writes c.loop-k.k c.write_at.result c.len-k-end.ensures.writes.distinct c.write_at.ensures in
    c.append.ensures ∙ (ap (λ ws. ws ++ c.write_at.result ∷ []) c.loop-k.invariant ∙ sym more.3)
