use Rattle.std.proofs.Common.{◌≤◌, List, Ok, arith, length, refl, subst}
use Rattle.std.proofs.lemmas.List.{take_all}
use Rattle.dude_base.specs.Records.{RedoBundle}
use Rattle.dude_follow.specs.declared.taken.Taken.{Taken}
use Rattle.dude_follow.specs.Follower.{TakesPacket}
use Rattle.dude_program.specs.Taking.{TakesAll}
use Rattle.dude_program.proofs.TakenPackets.{all_next, all_none, failure_at, one_drop, refused_by_device, strange_at}
use Rattle.dude_program.proofs.follow.take_packets.Goals as goal

pub loop-index-init : goal.loop-index-init
loop-index-init g c = record { taken = all_none c.args.follower.now c.requires.rests; few = omega arith }

pub loop-index-preserved : goal.loop-index-preserved
loop-index-preserved g c =
    let t = c.loop-index.invariant.taken in
    let answer = c.in-Ok.taken in
    let count = c.in-Some.ensures in
    let one = one_drop answer in
    record {
      taken = all_next c.args.packets.now c.loop-index.index c.index-packets-index.result c.loop-index-test.true c.index-packets-index.is c.loop-index.dropped c.args.follower.now c.loop-index.follower c.take.new.self t
          answer c.in-Some.more (c.in-Ok.ensures.takes t.0.dead) c.in-Ok.ensures.parts count.0 count.1;
      few = omega (arith, c.loop-index.invariant.few, one, count.1);
    }

pub returns-in-None : goal.returns-in-None
returns-in-None g c =
    let t = c.loop-index.invariant.taken in
    let m = c.loop-index.follower in
    let b = c.index-packets-index.result in (
      refl,
      strange_at c.args.packets.now c.loop-index.index b c.loop-index-test.true c.index-packets-index.is c.loop-index.dropped c.args.follower.now m c.take.new.self t
          (subst (λ (answer : Taken). TakesPacket b (Ok answer) m c.take.new.self) c.in-None.ensures (c.in-Ok.ensures.takes t.0.dead)) c.in-Ok.ensures.parts,
    )

pub returns-in-Err : goal.returns-in-Err
returns-in-Err g c =
    let t = c.loop-index.invariant.taken in
    let m = c.loop-index.follower in
    let e = c.in-Err.ensures in
    let both = refused_by_device c.in-Err.field-0 m c.take.new.self e.dead e.device e.cause t.0.dead in
    failure_at c.args.packets.now c.loop-index.index c.index-packets-index.result c.loop-index-test.true c.index-packets-index.is c.loop-index.dropped c.args.follower.now m c.take.new.self t
    c.in-Err.field-0 (e.takes t.0.dead) e.parts both.0 both.1

pub returns : goal.returns
returns g c =
    let end : length c.args.packets.now ≤ c.loop-index.index = omega (arith, c.loop-index-test.false) in
    subst (λ (l : List RedoBundle). TakesAll l c.loop-index.dropped c.args.follower.now c.loop-index.follower) (take_all c.loop-index.index c.args.packets.now end) c.loop-index.invariant.taken
