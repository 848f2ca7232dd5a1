use Rattle.std.proofs.Common.{◌∷◌, ℕ, List, sym, subst}
use Rattle.redo_record.specs.Waiting.{Waiting}
use Rattle.dude_core.specs.StoreData.{tells}
use Rattle.dude_core.specs.Chains.{CanChain}
use Rattle.dude_core.specs.ReplayRooms.{BringsOn}
use Rattle.dude_core.proofs.NextCalls.{brought_inside, replays_by, replays_none, some_by, none_by}
use Rattle.dude_core.proofs.replaying.replays_to.Goals as goal

pub fill-requires : goal.fill-requires
fill-requires c = subst (λ (ws : List Waiting). CanChain ws c.args.room.now.room) (sym c.waiting.ensures.waiting) (record {
  numbers = c.waiting.ensures.numbers;
  distinct = c.requires.apart.distinct;
  room = c.requires.room;
})

brought : (c : goal.After-replay_ends) → BringsOn c.args.store.now.waiting c.args.store.now.reproduced c.args.number c.fill.new.self.writes
brought c =
    subst (λ (ws : List Waiting). BringsOn ws c.args.store.now.reproduced c.args.number c.fill.new.self.writes) c.waiting.ensures.waiting
    (subst (λ (n : ℕ). BringsOn c.waiting.result.now n c.args.number c.fill.new.self.writes) c.reproduced.ensures c.if-not-fill.ensures.filled)

pub replay_ends-requires : goal.replay_ends-requires
replay_ends-requires c = brought_inside c.args.store.now c.waiting.ensures.inside c.args.store.now.reproduced c.args.number c.fill.new.self.writes
    (subst (λ (ws : List Waiting). BringsOn ws c.args.store.now.reproduced c.args.number c.fill.new.self.writes) c.waiting.ensures.waiting
    (subst (λ (n : ℕ). BringsOn c.waiting.result.now n c.args.number c.fill.new.self.writes) c.reproduced.ensures c.if-not-fill.ensures.filled))

pub returns-clause-some : goal.returns-clause-some
returns-clause-some c = some_by c.replay_ends.result (λ ends front. replays_by c.args.store.now c.waiting.ensures.inside (c.args.first ∷ tells c.args.store.now.ended) c.args.call c.args.number c.fill.new.self.writes (brought c) ends c.requires.over c.if-not-was_told_from.ensures front) c.replay_ends.ensures.some

pub returns-clause-none : goal.returns-clause-none
returns-clause-none c = none_by c.replay_ends.result (λ apart. replays_none c.args.store.now c.waiting.ensures.inside (c.args.first ∷ tells c.args.store.now.ended) c.args.call c.args.number c.fill.new.self.writes (brought c) apart) c.replay_ends.ensures.none
