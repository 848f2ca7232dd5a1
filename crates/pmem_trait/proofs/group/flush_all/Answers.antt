use Rattle.std.proofs.Common.{◌≡◌, is_ok, false, arith, rules, refl}
use Rattle.pmem_trait.specs.Sights.{CallsMade.none}
use Rattle.pmem_trait.proofs.Runs.{made_cut, made_whole}
use Rattle.pmem_trait.proofs.GroupLists.{length-flush_lines, flushes_next}
use Rattle.pmem_trait.proofs.group.flush_all.Goals as goal

pub loop-line-init : goal.loop-line-init
loop-line-init g c = record { len = refl; made = none }

pub flush-requires : goal.flush-requires
flush-requires g c = omega (arith, c.requires c.loop-line.line-index 0 c.loop-line-test.true)

pub returns-in_err-flush-clause-made : goal.returns-in_err-flush-clause-made
returns-in_err-flush-clause-made g c =
    let err : is_ok c.from_residual.result ≡ false = search rules in
    rw err (made_cut _ _ (flushes_next c.args.lines.now c.loop-line.line-index 0 _ {ok = false} c.loop-line-test.true refl c.loop-line.invariant.made c.in_err-flush.ensures))

pub loop-line-preserved : goal.loop-line-preserved
loop-line-preserved g c = record {
  len = omega arith;
  made = flushes_next c.args.lines.now c.loop-line.line-index 0 _ c.loop-line-test.true refl c.loop-line.invariant.made c.in_ok-flush.ensures;
}

pub returns-clause-made : goal.returns-clause-made
returns-clause-made g c = made_whole _ c.loop-line.line-index (omega (arith, length-flush_lines c.args.lines.now)) c.loop-line.invariant.made
