use Rattle.std.proofs.Common.{◌≤◌, ◌∙◌, length, length-set, arith}
use Rattle.dude_base.proofs.WriteLists.{replaced_prefix}
use Rattle.dude_base.proofs.write_list.Writes.replace.Goals as goal

pub invariant_of-self : goal.invariant_of-self
invariant_of-self g c =
    let long : c.self.inside.len ≤ length c.self.inside.slots = omega arith in
    let kept = replaced_prefix _ _ _ c.args.k c.args.w c.self.view_is long c.requires.inside c.requires.same_word c.self.invariant.distinct in
    record {
      slots_are = length-set c.self.inside.slots c.args.k c.args.w ∙ c.self.invariant.slots_are;
      len_is = c.self.invariant.len_is;
      distinct = kept.1;
    }

pub returns : goal.returns
returns g c =
    let long : c.self.inside.len ≤ length c.self.inside.slots = omega arith in
    (replaced_prefix _ _ _ c.args.k c.args.w c.self.view_is long c.requires.inside c.requires.same_word c.self.invariant.distinct).0
