use Rattle.std.proofs.Common.{◌≡◌, is_ok, false, arith, rules, refl}
use Rattle.pmem_trait.specs.Sights.{CallsMade.none}
use Rattle.pmem_trait.proofs.Runs.{made_cut, made_whole}
use Rattle.pmem_trait.proofs.GroupLists.{length-put_pairs, puts_next}
use Rattle.pmem_trait.proofs.group.put_all.Goals as goal

pub loop-at-init : goal.loop-at-init
loop-at-init g c = record { len = refl; made = none }

pub put-requires : goal.put-requires
put-requires g c = omega (arith, c.requires c.loop-at.at-index (0, 0) c.loop-at-test.true)

pub returns-in_err-put-clause-made : goal.returns-in_err-put-clause-made
returns-in_err-put-clause-made g c =
    let err : is_ok c.from_residual.result ≡ false = search rules in
    rw err (made_cut _ _ (puts_next c.args.writes.now c.loop-at.at-index (0, 0) _ {ok = false} c.loop-at-test.true refl c.loop-at.invariant.made c.in_err-put.ensures))

pub loop-at-preserved : goal.loop-at-preserved
loop-at-preserved g c = record {
  len = omega arith;
  made = puts_next c.args.writes.now c.loop-at.at-index (0, 0) _ c.loop-at-test.true refl c.loop-at.invariant.made c.in_ok-put.ensures;
}

pub returns-clause-made : goal.returns-clause-made
returns-clause-made g c = made_whole _ c.loop-at.at-index (omega (arith, length-put_pairs c.args.writes.now)) c.loop-at.invariant.made
