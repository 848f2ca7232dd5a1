use Rattle.back_store.proofs.backlog.Backlog.announce.Goals as goal

pub invariant_of-self : goal.invariant_of-self
invariant_of-self c = record {
  lawful = record {
    accepted = c.self.invariant.lawful.accepted;
    lanes = c.self.invariant.lawful.lanes;
    over = c.self.invariant.lawful.over;
    led = record { records = c.requires.end.records; lead = rw (← c.self.view_is) at c.requires.end.lead };
    small = c.requires.small;
  };
  group = c.self.invariant.group;
}
