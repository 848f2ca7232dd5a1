use Rattle.std.proofs.Common.{◌∷◌, List, length, ap, arith}
use Rattle.redo_record.specs.Waiting.{Waiting}
use Rattle.dude_core.specs.StoreData.{tells}
use Rattle.dude_core.proofs.NextCalls.{replays_no}
use Rattle.dude_core.proofs.replaying.next_replay.Goals as goal

pub returns-clause-none : goal.returns-clause-none
returns-clause-none c =
    let long = ap (λ (ws : List Waiting). length ws) c.waiting-bundle-items.ensures.waiting in
    replays_no c.args.store.now c.waiting-bundle-items.ensures.inside (c.args.first ∷ tells c.args.store.now.ended) c.args.call c.loop-bundle.bundle-index (omega arith) c.loop-bundle.invariant.none
