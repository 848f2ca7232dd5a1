use Rattle.std.proofs.Common.{◌≡◌, ◌+◌, List, None, is_some, not, sym, ap, ◌∙◌, arith}
use Rattle.dude_base.specs.declared.write.Write.{Write}
use Rattle.dude_base.specs.Records.{RedoBundle}
use Rattle.dude_base.specs.Writes.{written}
use Rattle.dude_base.proofs.WriteLists.{None-from_is_some}
use Rattle.dude_base.proofs.Joining.{place_more, place_same, few_so_far, length-put_all}
use Rattle.dude_base.proofs.bundle.Bundle.places_with.Goals.{then-is_none, else-is_none}
use Rattle.dude_base.proofs.bundle.Bundle.places_with.Goals as goal

pub overflow_add-places : goal.overflow_add-places
overflow_add-places c =
    let ws = c.args.self.now.writes in
    let distinct = c.len-k-end.ensures.writes.distinct in
    let same : c.self.inside.writes ≡ ws = ap (λ (b : RedoBundle). b.writes) c.self.view_is in
    let none : written ws c.write_at.result.at ≡ None = ap (λ (l : List Write). written l c.write_at.result.at) (sym same) ∙ (sym c.find.ensures ∙ None-from_is_some _ (c.is_none.ensures ∙ ap not c.if-is_none.true)) in
    let few = few_so_far ws c.args.r.now.writes c.loop-k.k c.write_at.result distinct c.write_at.ensures in
    let one = place_more ws c.args.r.now.writes c.loop-k.k c.write_at.result distinct c.write_at.ensures none in
    let all = length-put_all ws c.args.r.now.writes in
    let so_far = c.loop-k.invariant in
    let most = c.len-places.ensures.bundle.writes_are.few in
    let own = c.len-k-end.ensures.writes.few in
    omega arith

pub loop-k-preserved : goal.loop-k-preserved
loop-k-preserved c =
    let ws = c.args.self.now.writes in
    let distinct = c.len-k-end.ensures.writes.distinct in
    let same : c.self.inside.writes ≡ ws = ap (λ (b : RedoBundle). b.writes) c.self.view_is in
    let found : c.find.result ≡ written ws c.write_at.result.at = c.find.ensures ∙ ap (λ (l : List Write). written l c.write_at.result.at) same in
    elim c.if-is_none.branch [
      | then-is_none w ↦ w.places-is ∙ (ap (λ n. n + 1) c.loop-k.invariant ∙ sym (place_more ws c.args.r.now.writes c.loop-k.k c.write_at.result distinct c.write_at.ensures
          (sym found ∙ None-from_is_some _ (c.is_none.ensures ∙ ap not w.if-is_none.true))))
      | else-is_none w ↦ w.places-is ∙ (c.loop-k.invariant ∙ sym (place_same ws c.args.r.now.writes c.loop-k.k c.write_at.result distinct c.write_at.ensures
          (ap is_some (sym found) ∙ (c.is_none.ensures ∙ ap not w.if-is_none.false))))
    ]
