use Rattle.std.proofs.Common.{◌≡◌, is_ok, true, false, arith, rules, refl, ◌∙◌}
use Rattle.pmem_trait.specs.Sights.{CallsMade.none}
use Rattle.pmem_trait.proofs.Runs.{made_cut, made_whole}
use Rattle.pmem_trait.proofs.GroupLists.{length-put_pairs, puts_next}
use Rattle.dude_recover.specs.OpeningCalls.{clear_puts}
use Rattle.dude_recover.proofs.OpeningRuns.{clear_put_at, length-clear_puts}
use Rattle.dude_recover.proofs.stale_heads.clear_words.Goals as goal

pub loop-line-init : goal.loop-line-init
loop-line-init g c = record { len = refl; made = none }

pub put-requires : goal.put-requires
put-requires g c = omega (arith, c.requires c.loop-line.line-index 0 c.loop-line-test.true, c.loop-line.invariant.len)

pub returns-in_err-put-clause-made : goal.returns-in_err-put-clause-made
returns-in_err-put-clause-made g c =
    let err : is_ok c.from_residual.result ≡ false = search rules in
    rw err (made_cut _ _ (puts_next (clear_puts c.args.lines.now) c.loop-line.line-index (0, 0) _ {ok = false} (omega (arith, length-clear_puts c.args.lines.now, c.loop-line-test.true))
    (clear_put_at c.args.lines.now c.loop-line.line-index c.loop-line-test.true) c.loop-line.invariant.made c.in_err-put.ensures))

pub loop-line-preserved : goal.loop-line-preserved
loop-line-preserved g c = record {
  len = omega arith;
  made = puts_next (clear_puts c.args.lines.now) c.loop-line.line-index (0, 0) _ {ok = true} (omega (arith, length-clear_puts c.args.lines.now, c.loop-line-test.true))
      (clear_put_at c.args.lines.now c.loop-line.line-index c.loop-line-test.true) c.loop-line.invariant.made c.in_ok-put.ensures;
}

pub returns-clause-made : goal.returns-clause-made
returns-clause-made g c = made_whole _ c.loop-line.line-index
    (omega (arith, length-put_pairs (clear_puts c.args.lines.now), length-clear_puts c.args.lines.now, c.loop-line-test.false)) c.loop-line.invariant.made

pub returns-in_err-put-clause-len : goal.returns-in_err-put-clause-len
returns-in_err-put-clause-len g c = c.in_err-put.ensures.later.len ∙ c.loop-line.invariant.len

pub returns-clause-len : goal.returns-clause-len
returns-clause-len g c = c.loop-line.invariant.len
