use Rattle.std.proofs.Common.{◌+◌, ◌≤◌, All, length, sym, ◌∙◌, subst}
use Rattle.tatp_check.specs.declared.table_kind.TableKind.TheVariants.{Subscribers, Access, Facilities, Calls}
use Rattle.tatp_check.proofs.Found.{ordered_inside}
use Rattle.tatp_check.proofs.standing.rows_of.Goals as goal

pub rows_at-requires-clause-inside : goal.rows_at-requires-clause-inside
rows_at-requires-clause-inside c = subst (All (λ at. at + 8 ≤ length c.args.a.now)) (sym (c.deref.ensures.value ∙ c.in_ok-in_key_order.ensures)) (ordered_inside _ _ _ c.requires.walked Subscribers)

pub rows_at-requires-2-clause-inside : goal.rows_at-requires-2-clause-inside
rows_at-requires-2-clause-inside c = subst (All (λ at. at + 4 ≤ length c.args.a.now)) (sym (c.deref-2.ensures.value ∙ c.in_ok-in_key_order-2.ensures)) (ordered_inside _ _ _ c.requires.walked Access)

pub rows_at-requires-3-clause-inside : goal.rows_at-requires-3-clause-inside
rows_at-requires-3-clause-inside c = subst (All (λ at. at + 4 ≤ length c.args.a.now)) (sym (c.deref-3.ensures.value ∙ c.in_ok-in_key_order-3.ensures)) (ordered_inside _ _ _ c.requires.walked Facilities)

pub rows_at-requires-4-clause-inside : goal.rows_at-requires-4-clause-inside
rows_at-requires-4-clause-inside c = subst (All (λ at. at + 4 ≤ length c.args.a.now)) (sym (c.deref-4.ensures.value ∙ c.in_ok-in_key_order-4.ensures)) (ordered_inside _ _ _ c.requires.walked Calls)
