use Rattle.std.proofs.Common.{length, subst, sym, List}
use Rattle.std.specs.List.{All}
use Rattle.tatp_model.specs.Request.{IsInRange}
use Rattle.dude_audit.specs.declared.claim.Claim.{Claim}
use Rattle.dude_audit.specs.Claim.{IsWithin}
use Rattle.dude_audit.proofs.Orders.{all_order}
use Rattle.dude_audit.proofs.claims.audit_claims.Goals as goal

pub first_wrong-requires-clause-in_range : goal.first_wrong-requires-clause-in_range
first_wrong-requires-clause-in_range c =
    subst (λ (l : List Claim). All (λ x. IsInRange x.request) l) (sym c.deref.ensures.value)
    (all_order (λ x. IsInRange x.request) c.args.claims.now c.in_ok-order.order.items c.in_ok-order.ensures c.requires.lines.in_range)

pub first_wrong-requires-clause-within : goal.first_wrong-requires-clause-within
first_wrong-requires-clause-within c =
    subst (λ (l : List Claim). All (IsWithin (length c.args.printed.now)) l) (sym c.deref.ensures.value)
    (all_order (IsWithin (length c.args.printed.now)) c.args.claims.now c.in_ok-order.order.items c.in_ok-order.ensures c.requires.lines.within)
