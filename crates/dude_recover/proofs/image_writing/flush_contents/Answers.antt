use Rattle.std.proofs.Common.{◌≡◌, ◌-◌, is_ok, true, false, refl, arith, rules}
use Rattle.pmem_trait.specs.Sights.{CallsMade.none}
use Rattle.pmem_trait.proofs.Runs.{made_cut, made_whole}
use Rattle.dude_recover.proofs.Loops.{flush_turn, length-flushes}
use Rattle.dude_recover.proofs.image_writing.flush_contents.Goals as goal

pub loop-line-init : goal.loop-line-init
loop-line-init g c = record { len = refl; made = none }

pub returns-in_err-flush-clause-made : goal.returns-in_err-flush-clause-made
returns-in_err-flush-clause-made g c =
    let err : is_ok c.from_residual.result ≡ false = search rules in
    rw err (made_cut _ _ (flush_turn c.args.place.now c.loop-line.line {ok = false} (omega arith) (omega arith) c.loop-line.invariant.made c.in_err-flush.ensures))

pub loop-line-preserved : goal.loop-line-preserved
loop-line-preserved g c = record {
  len = omega arith;
  made = flush_turn c.args.place.now c.loop-line.line {ok = true} (omega arith) (omega arith) c.loop-line.invariant.made c.in_ok-flush.ensures;
}

pub returns-clause-made : goal.returns-clause-made
returns-clause-made g c = made_whole _ (c.loop-line.line - 1) (omega (arith, length-flushes c.args.place.now)) c.loop-line.invariant.made
