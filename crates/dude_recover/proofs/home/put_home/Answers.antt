use Rattle.std.proofs.Common.{◌≡◌, is_ok, true, false, arith, rules, refl, ◌∙◌}
use Rattle.std.proofs.lemmas.List.FromFn.{length-enumerate_from}
use Rattle.dude_base.specs.Image.{home_word}
use Rattle.pmem_trait.specs.Sights.{CallsMade.none}
use Rattle.pmem_trait.proofs.Runs.{made_cut, made_whole}
use Rattle.pmem_trait.proofs.GroupLists.{length-put_pairs, puts_next}
use Rattle.dude_recover.specs.OpeningCalls.{home_puts}
use Rattle.dude_recover.proofs.OpeningRuns.{home_put_at}
use Rattle.dude_recover.proofs.home.put_home.Goals as goal

pub loop-i-init : goal.loop-i-init
loop-i-init g c = record { len = refl; made = none }

pub returns-in_err-put-clause-made : goal.returns-in_err-put-clause-made
returns-in_err-put-clause-made g c =
    let err : is_ok c.from_residual.result ≡ false = search rules in
    rw err (made_cut _ _ (puts_next (home_puts c.args.place.now c.args.words.now) c.loop-i.i (0, 0) _ {ok = false} (omega (arith, length-enumerate_from (home_word c.args.place.now 0) c.args.words.now, c.loop-i-test.true))
    (home_put_at c.args.place.now c.args.words.now c.loop-i.i c.home.result c.loop-i-test.true c.home.ensures.place) c.loop-i.invariant.made c.in_err-put.ensures))

pub loop-i-preserved : goal.loop-i-preserved
loop-i-preserved g c = record {
  len = omega arith;
  made = puts_next (home_puts c.args.place.now c.args.words.now) c.loop-i.i (0, 0) _ {ok = true} (omega (arith, length-enumerate_from (home_word c.args.place.now 0) c.args.words.now, c.loop-i-test.true))
      (home_put_at c.args.place.now c.args.words.now c.loop-i.i c.home.result c.loop-i-test.true c.home.ensures.place) c.loop-i.invariant.made c.in_ok-put.ensures;
}

pub returns-clause-made : goal.returns-clause-made
returns-clause-made g c = made_whole _ c.loop-i.i
    (omega (arith, length-put_pairs (home_puts c.args.place.now c.args.words.now), length-enumerate_from (home_word c.args.place.now 0) c.args.words.now, c.loop-i-test.false)) c.loop-i.invariant.made

pub returns-in_err-put-clause-len : goal.returns-in_err-put-clause-len
returns-in_err-put-clause-len g c = c.in_err-put.ensures.later.len ∙ c.loop-i.invariant.len

pub returns-clause-len : goal.returns-clause-len
returns-clause-len g c = c.loop-i.invariant.len
