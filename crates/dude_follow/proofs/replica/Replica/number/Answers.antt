use Rattle.dude_follow.proofs.replica.Replica.number.Goals as goal

pub returns-clause-rests : goal.returns-clause-rests
returns-clause-rests g c alive = record {
  alive = alive;
  lawful = c.reproduced.ensures.lawful;
  durable = c.args.self.now.announced alive;
  none_waits = c.args.self.now.none_waits alive;
}
