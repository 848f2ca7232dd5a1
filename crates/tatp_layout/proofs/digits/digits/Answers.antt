use Rattle.std.proofs.Common.{◌/◌, ◌%◌, ◌^◌, ◌<◌, ◌∙◌, length, length-set, ap, arith, rules, get_or-set_other, get_or-set_same, below_more}
use Rattle.std.proofs.lemmas.List.FromFn.{fill_by_all}
use Rattle.tatp_layout.specs.DigitLists.{shifted_more}
use Rattle.tatp_layout.proofs.digits.digits.Goals as goal

pub returns : goal.returns
returns g c = fill_by_all (λ k. c.args.word / c.args.base ^ k % c.args.base) c.loop-i.digits g.row.N 0 c.loop-i.invariant.count (search rules)

pub loop-i-preserved : goal.loop-i-preserved
loop-i-preserved g c =
    let h = c.loop-i.invariant in
    let inside : c.loop-i.i < length c.loop-i.digits = omega arith in
    record {
      count = length-set c.loop-i.digits c.loop-i.i _ ∙ h.count;
      rest = ap (λ r. r / c.args.base) h.rest ∙ shifted_more c.args.base c.args.word c.loop-i.i;
      filled = below_more _ _
          (λ k below. get_or-set_other c.loop-i.digits c.loop-i.i k _ 0 (omega arith) ∙ h.filled k below)
          (get_or-set_same c.loop-i.digits c.loop-i.i _ 0 inside ∙ ap (λ r. r % c.args.base) h.rest);
    }
