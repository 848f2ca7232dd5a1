use Rattle.dude_core.specs.Named.{event_of, word_of}
use Rattle.dude_core.proofs.Places.{moved_is}
use Rattle.dude_core.proofs.state.State.move_view.Goals as goal

pub returns-clause-ok : goal.returns-clause-ok
returns-clause-ok c = record {
  ready = c.requires;
  after = moved_is c.args.z.now c.args.self.now c.args.who (event_of c.args.deed.now) c.requires.view (word_of c.name_of-word.result) c.found-found.result c.word_after-value.result
      c.advance.new.self c.put.new.self (c.name_of-word.ensures c.requires.view c.requires.is_there) c.found-found.ensures
      (c.word_after-value.ensures c.requires.view c.requires.is_there) (c.in_ok-advance.ensures.ok c.requires.view c.requires.is_there) c.put.ensures;
}
