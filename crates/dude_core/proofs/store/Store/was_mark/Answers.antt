use Rattle.dude_core.proofs.StoreLists.{has_tells}
use Rattle.dude_core.proofs.store.Store.was_mark.Goals as goal

pub returns : goal.returns
returns c = rw (c.has.ensures, ← c.self.view_is) (has_tells c.self.inside.marks c.args.number)
