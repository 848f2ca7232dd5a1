use Rattle.std.proofs.Common.{◌≡◌, ◌∷◌, All, take}
use Rattle.dude_core.specs.StoreData.{tells}
use Rattle.dude_core.specs.NextCalls.{ReplaysNoneTo}
use Rattle.dude_core.proofs.replaying.next_replay.Given as goal

abbrev pub invariant-loop-bundle : goal.invariant-loop-bundle
invariant-loop-bundle l = record {
  room : l.room.room ≡ l.fn.room.room;
  none : All (λ w. ReplaysNoneTo (l.first ∷ tells l.store.ended) l.store l.call w.redo.last) (take l.bundle-index l.store.waiting);
}
