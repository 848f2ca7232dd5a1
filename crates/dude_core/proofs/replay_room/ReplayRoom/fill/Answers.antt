use Rattle.std.proofs.Common.{◌∙◌, List, length, ap, sym, subst, arith}
use Rattle.dude_base.specs.declared.write.Write.{Write}
use Rattle.dude_core.specs.ReplayRooms.{RoomData, BringsOn}
use Rattle.dude_core.proofs.ChainWrites.{brings_on}
use Rattle.dude_core.proofs.replay_room.ReplayRoom.fill.Goals as goal

pub take_chain-requires : goal.take_chain-requires
take_chain-requires c = record {
  numbers = c.requires.numbers;
  distinct = c.requires.distinct;
  room = (let most = c.requires.room in let room = ap (λ (r : RoomData). r.room) c.self.view_is in let group = c.self.invariant.group in omega arith);
}

pub copy_writes-requires : goal.copy_writes-requires
copy_writes-requires c =
    let few = c.if-not-take_chain.ensures.taken.few in let less = c.finish.ensures.few in let most = c.requires.room in
    let room = ap (λ (r : RoomData). r.room) c.self.view_is in let capacity = c.self.invariant.capacity in
    omega arith

pub invariant_of-self-2 : goal.invariant_of-self-2
invariant_of-self-2 c =
    let few = c.if-not-take_chain.ensures.taken.few in let less = c.finish.ensures.few in let most = c.requires.room in
    let room = ap (λ (r : RoomData). r.room) c.self.view_is in
    let long = ap (λ (l : List Write). length l) c.copy_writes.ensures.writes in
    record {
      group = c.finish.ensures.room ∙ (c.take_chain.ensures.room ∙ c.self.invariant.group);
      capacity = (let same = c.copy_writes.ensures.capacity in let capacity = c.self.invariant.capacity in omega arith);
      few = c.self.invariant.few;
      within = omega arith;
    }

pub returns-clause-filled : goal.returns-clause-filled
returns-clause-filled c =
    subst (BringsOn c.args.waiting.now c.args.from c.args.number) (sym c.copy_writes.ensures.writes)
    (brings_on c.args.waiting.now c.requires.distinct c.args.from c.args.number c.take_chain.new.out.taken c.finish.new.self.writes c.if-not-take_chain.ensures.taken c.finish.ensures.rising c.finish.ensures.last)
