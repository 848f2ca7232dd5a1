use Rattle.std.proofs.Common.{◌+◌, ◌<◌, length, arith, subst, sym}
use Rattle.tatp_check.proofs.Referring.{unbound_inside}
use Rattle.tatp_check.proofs.references.first_unbound.Goals as goal

pub overflow_add-result : goal.overflow_add-result
overflow_add-result c =
    let inside = unbound_inside _ _ _ c.requires.walked _ _ c.in-Some.ensures in
    let named : c.in-Some.at + c.reference_offset.result < length c.args.a.now = subst (λ o. c.in-Some.at + o < length c.args.a.now) (sym c.reference_offset.ensures) inside in
    omega arith
