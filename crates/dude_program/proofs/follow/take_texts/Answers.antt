use Rattle.std.proofs.Common.{◌∷◌, ◌++◌, [], arith, rules}
use Rattle.dude_program.proofs.TakenPackets.{all_none, next_read, next_taken, texts_stop}
use Rattle.dude_program.proofs.follow.take_texts.Goals as goal

pub loop-index-init : goal.loop-index-init
loop-index-init g c = record { each = []; read = tt; taken = all_none c.args.follower.now c.requires.rests; few = omega arith }

pub loop-index-preserved : goal.loop-index-preserved
loop-index-preserved g c =
    let i = c.loop-index.invariant in
    let took = c.in-Ok.ensures in
    record {
      each = i.each ++ took.0 ∷ [];
      read = next_read c.args.sizes.now c.args.texts.now c.loop-index.index c.index-texts-index.result c.loop-index-test.true c.index-texts-index.is i.each i.read c.loop-index.dropped c.args.follower.now c.loop-index.follower
          c.take_text.new.follower i.taken took.0 took.1;
      taken = next_taken c.args.sizes.now c.args.texts.now c.loop-index.index c.index-texts-index.result c.loop-index-test.true c.index-texts-index.is i.each i.read c.loop-index.dropped c.args.follower.now c.loop-index.follower
          c.take_text.new.follower i.taken took.0 c.in-Ok.more took.2;
      few = search rules;
    }

pub returns-in-Err : goal.returns-in-Err
returns-in-Err g c =
    let i = c.loop-index.invariant in
    texts_stop c.args.sizes.now c.args.texts.now c.loop-index.index c.index-texts-index.result c.loop-index-test.true c.index-texts-index.is i.each i.read c.loop-index.dropped c.args.follower.now c.loop-index.follower
    c.take_text.new.follower i.taken c.in-Err.fault c.in-Err.ensures
