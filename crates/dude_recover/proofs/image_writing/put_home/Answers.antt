use Rattle.std.proofs.Common.{◌≡◌, is_ok, true, false, refl, arith, rules}
use Rattle.dude_base.specs.Image.{home_word}
use Rattle.pmem_trait.specs.Sights.{CallsMade.none}
use Rattle.pmem_trait.proofs.Runs.{made_cut, made_whole}
use Rattle.dude_recover.proofs.Loops.{put_turn, length-puts}
use Rattle.dude_recover.proofs.image_writing.put_home.Goals as goal

pub loop-word-init : goal.loop-word-init
loop-word-init g c = record { len = refl; made = none }

pub returns-in_err-put-clause-made : goal.returns-in_err-put-clause-made
returns-in_err-put-clause-made g c =
    let err : is_ok c.from_residual.result ≡ false = search rules in
    rw err (made_cut _ _ (put_turn (home_word c.args.place.now 0) c.args.home.now c.loop-word.word _ _ {ok = false} (omega arith) (omega (arith, c.home.ensures.place)) refl c.loop-word.invariant.made c.in_err-put.ensures))

pub loop-word-preserved : goal.loop-word-preserved
loop-word-preserved g c = record {
  len = omega arith;
  made = put_turn (home_word c.args.place.now 0) c.args.home.now c.loop-word.word _ _ {ok = true} (omega arith) (omega (arith, c.home.ensures.place)) refl c.loop-word.invariant.made c.in_ok-put.ensures;
}

pub returns-clause-made : goal.returns-clause-made
returns-clause-made g c =
    made_whole _ c.loop-word.word (omega (arith, length-puts (home_word c.args.place.now 0) c.args.home.now)) c.loop-word.invariant.made
