use Rattle.std.proofs.Common.{◌≡◌, ap, arith}
use Rattle.dude_base.specs.declared.sizes.Sizes.{Sizes}
use Rattle.back_store.proofs.KeptLanes.{kept_empty}
use Rattle.back_store.proofs.lane.Lane.new.Goals as goal

pub invariant_of-result : goal.invariant_of-result
invariant_of-result c =
    let cells : c.sizes-cells.result.cells ≡ c.args.place.cells = ap (λ (s : Sizes). s.cells) c.sizes-cells.ensures.sizes in
    let kept = c.in_ok-with_capacity.ensures in
    kept_empty _ c.args.place c.args.ring c.in_ok-new.ensures.empty kept.items (omega (arith, kept.exact)) (omega (arith, c.in_ok-vec.ensures.len, c.in_ok-vec.field-0.ok))
