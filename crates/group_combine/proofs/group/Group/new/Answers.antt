use Rattle.std.proofs.Common.{◌≡◌, ◌∙◌, sym, refl, arith}
use Rattle.std.specs.Vec.{vec_capacity}
use Rattle.group_combine.proofs.group.Group.new.Goals as goal

pub invariant_of-result : goal.invariant_of-result
invariant_of-result c =
    let writes : vec_capacity c.in_ok-with_capacity.field-0 ≡ c.args.room = omega (arith, c.in_ok-with_capacity.ensures.exact) in
    let row : vec_capacity c.in_ok-with_capacity-2.field-0 ≡ c.args.room = omega (arith, c.in_ok-with_capacity-2.ensures.exact) in
    record {
      room = row ∙ sym writes;
      numbered = rw c.in_ok-with_capacity-2.ensures.items refl;
    }

pub returns : goal.returns
returns c =
    let writes : vec_capacity c.in_ok-with_capacity.field-0 ≡ c.args.room = omega (arith, c.in_ok-with_capacity.ensures.exact) in
    rw (c.in_ok-with_capacity.ensures.items, c.in_ok-with_capacity-2.ensures.items, writes) refl
