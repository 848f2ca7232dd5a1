use Rattle.back_store.specs.HomeGroup.{StandForLed}
use Rattle.back_store.proofs.HomeWrites.{last_stand}
use Rattle.back_store.proofs.home_group.HomeGroup.fill.Goals as goal

-- the group's writes stand for the records
stand : (c : goal.After-line_list-arg-3-1) → StandForLed c.self.inside.place c.args.lanes.now c.args.from c.args.to c.finish.new.self.writes
stand c = last_stand c.self.inside.place c.args.lanes.now c.args.from c.args.to c.gather.new.group.taken c.finish.new.self.writes (rw (← c.self.view_is) at c.requires.lanes) c.gather.ensures.led c.finish.ensures.rising c.finish.ensures.last

pub line_list-requires-clause-inside : goal.line_list-requires-clause-inside
line_list-requires-clause-inside c = (stand c).stand.inside

pub invariant_of-self : goal.invariant_of-self
invariant_of-self c =
    let old = c.self.invariant in
    record {
      accepted = old.accepted;
      writes = rw (c.finish.ensures.room, c.gather.ensures.room) old.writes;
      line_room = rw c.line_list.ensures.capacity old.line_room;
      inside = (stand c.before).stand.inside;
      lines = c.line_list.ensures.lines;
    }

pub returns-clause-stand : goal.returns-clause-stand
returns-clause-stand c = rw (← c.self.view_is) (stand c.before)
