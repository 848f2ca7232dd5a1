use Rattle.std.proofs.Common.{◌+◌, ◌++◌, [], ◌∷◌, ◌∙◌, get_or, sym, ap, subst, arith, length-set, inl, inr}
use Rattle.std.proofs.lemmas.Bool.{cases_lt}
use Rattle.dude_base.specs.Records.{RedoBundle}
use Rattle.redo_record.specs.Waiting.{Lead}
use Rattle.back_store.specs.Lanes.{waiting_of}
use Rattle.back_store.proofs.Merging.{front_is, front_of, no_record, at_front, fronts_next, taken_last, taken_leads, front_small, few_rings, no_further}
use Rattle.back_store.proofs.merge.last_end.Goals as goal

pub overflow_add-fronts : goal.overflow_add-fronts
overflow_add-fronts c = let small = front_small c.args.place.now c.sizes-sizes.ensures.accepted c.args.lanes.now c.requires.lanes c.merge.fronts (c.merge.end + 1) c.in-Some.k c.in-Some.ensures.some in omega arith

pub merge-smaller : goal.merge-smaller
merge-smaller c =
    let both = taken_last c.args.place.now c.sizes-sizes.ensures.accepted c.args.lanes.now c.requires.lanes c.merge.fronts c.merge.end c.in-Some.k c.index-lanes-k.result (front_of c.index-lanes-k.result c.merge.fronts c.in-Some.k) c.in-Some.ensures.some c.index-lanes-k.is (front_is c.args.lanes.now c.merge.fronts (c.merge.end + 1) c.in-Some.k c.index-lanes-k.result c.in-Some.ensures.some c.index-lanes-k.is) in
    let high = both.0 in
    let low = both.1 in
    let last = (c.last-last.ensures no_record) in
    let within = c.if-last-near.false in
    omega arith

pub merge-preserved : goal.merge-preserved
merge-preserved c =
    let both = taken_last c.args.place.now c.sizes-sizes.ensures.accepted c.args.lanes.now c.requires.lanes c.merge.fronts c.merge.end c.in-Some.k c.index-lanes-k.result (front_of c.index-lanes-k.result c.merge.fronts c.in-Some.k) c.in-Some.ensures.some c.index-lanes-k.is (front_is c.args.lanes.now c.merge.fronts (c.merge.end + 1) c.in-Some.k c.index-lanes-k.result c.in-Some.ensures.some c.index-lanes-k.is) in
    let on = taken_leads c.args.lanes.now c.requires.lanes.distinct c.merge.fronts c.args.from c.merge.end c.in-Some.k c.index-lanes-k.result (front_of c.index-lanes-k.result c.merge.fronts c.in-Some.k) c.merge.invariant.led.records c.in-Some.ensures.some c.index-lanes-k.is (front_is c.args.lanes.now c.merge.fronts (c.merge.end + 1) c.in-Some.k c.index-lanes-k.result c.in-Some.ensures.some c.index-lanes-k.is) c.merge.invariant.led.lead in
    record {
      len = length-set c.merge.fronts c.in-Some.k (get_or c.merge.fronts c.in-Some.k 0 + 1) ∙ c.merge.invariant.len;
      fronts = fronts_next c.args.lanes.now c.requires.lanes.distinct c.merge.fronts c.merge.end c.in-Some.k c.last-last.result (let rings = few_rings c.args.place.now c.sizes-sizes.ensures.accepted c.args.lanes.now c.requires.lanes in omega (arith, c.merge.invariant.len)) c.merge.invariant.fronts c.in-Some.ensures.some
          (λ d q. ap (λ (b : RedoBundle). b.last) (at_front c.args.lanes.now c.in-Some.k (get_or c.merge.fronts c.in-Some.k 0) c.index-lanes-k.result (front_of c.index-lanes-k.result c.merge.fronts c.in-Some.k) c.in-Some.ensures.some.0 c.index-lanes-k.is (front_is c.args.lanes.now c.merge.fronts (c.merge.end + 1) c.in-Some.k c.index-lanes-k.result c.in-Some.ensures.some c.index-lanes-k.is) d q) ∙ sym (c.last-last.ensures no_record));
      led = record {
        records = c.merge.invariant.led.records ++ (front_of c.index-lanes-k.result c.merge.fronts c.in-Some.k) ∷ [];
        lead = subst (Lead (waiting_of c.args.lanes.now) c.args.from (c.merge.invariant.led.records ++ (front_of c.index-lanes-k.result c.merge.fronts c.in-Some.k) ∷ [])) (sym (c.last-last.ensures no_record)) on.0;
      };
      small = let within = c.if-last-near.false in let last = (c.last-last.ensures no_record) in omega arith;
    }

pub returns-then-last-near-clause-last : goal.returns-then-last-near-clause-last
returns-then-last-near-clause-last c n is near = elim (cases_lt c.merge.end n) [
  | inl further ↦ (
      let on = taken_leads c.args.lanes.now c.requires.lanes.distinct c.merge.fronts c.args.from c.merge.end c.in-Some.k c.index-lanes-k.result (front_of c.index-lanes-k.result c.merge.fronts c.in-Some.k) c.merge.invariant.led.records c.in-Some.ensures.some c.index-lanes-k.is (front_is c.args.lanes.now c.merge.fronts (c.merge.end + 1) c.in-Some.k c.index-lanes-k.result c.in-Some.ensures.some c.index-lanes-k.is) c.merge.invariant.led.lead in
      let past = c.if-last-near.true in
      let last = (c.last-last.ensures no_record) in
      let upto = on.1 n is.records is.lead further in
      absurd (omega arith)
      )
  | inr upto ↦ upto
]

pub returns-clause-last : goal.returns-clause-last
returns-clause-last c n is near = no_further c.args.lanes.now c.args.from n c.merge.end c.requires.lanes.distinct (record { records = is.records; lead = is.lead }) c.merge.invariant.led c.in_default.ensures.none
