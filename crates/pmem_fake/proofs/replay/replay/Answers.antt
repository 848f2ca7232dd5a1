use Rattle.pmem_fake.specs.History.{start_state}
use Rattle.pmem_fake.proofs.Replays.{replay_turn}
use Rattle.pmem_fake.proofs.replay.replay.Goals as goal

pub loop-made-preserved : goal.loop-made-preserved
loop-made-preserved c =
    replay_turn c.args.late c.args.calls.now c.loop-made.made-index _ (start_state c.args.start.now) c.loop-made-test.true c.loop-made.words.ok.0 c.deref_mut.ensures.value
    c.loop-made.invariant c.in_ok-repeat_made.ensures.len c.in_ok-repeat_made.ensures.state
