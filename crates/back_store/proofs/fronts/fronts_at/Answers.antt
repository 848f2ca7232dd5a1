use Rattle.std.proofs.Common.{◌≡◌, ◌<◌, length, get_or, sym, ◌∙◌, inl, inr, arith, get_or-set_same, get_or-set_other, length-set}
use Rattle.std.proofs.lemmas.Bool.{cases_eq}
use Rattle.std.proofs.lemmas.List.{get_or_default}
use Rattle.back_store.proofs.fronts.fronts_at.Goals as goal

pub loop-k-preserved : goal.loop-k-preserved
loop-k-preserved c = record {
  done = λ j d lt. elim (cases_eq j c.loop-k.k) [
    | inl same ↦
        let lane : get_or c.args.lanes.now c.loop-k.k d ≡ c.index-lanes-k.result = get_or_default c.args.lanes.now c.loop-k.k d c.index-lanes-k.result c.loop-k-test.true ∙ sym c.index-lanes-k.is in
        let inside : c.loop-k.k < length c.loop-k.fronts = omega (arith, c.loop-k.invariant.len, c.requires) in
        rw (same, get_or-set_same c.loop-k.fronts c.loop-k.k c.count_upto.result 0 inside, lane) c.count_upto.ensures
    | inr apart ↦ rw (get_or-set_other c.loop-k.fronts c.loop-k.k j c.count_upto.result 0 apart) (c.loop-k.invariant.done j d (omega arith))
  ];
  len = length-set c.loop-k.fronts c.loop-k.k c.count_upto.result ∙ c.loop-k.invariant.len;
}
