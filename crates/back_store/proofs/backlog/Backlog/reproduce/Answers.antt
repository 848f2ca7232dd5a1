use Rattle.std.proofs.Common.{◌∙◌}
use Rattle.back_store.specs.KeptBacklog.{backlog_state}
use Rattle.back_store.proofs.ReleasedRecords.{released_lawful}
use Rattle.back_store.proofs.backlog.Backlog.reproduce.Goals as goal

pub fill-requires-clause-led : goal.fill-requires-clause-led
fill-requires-clause-led g c =
    let a = c.self.inside in
    rw c.deref.ensures.value (rw (← c.self.view_is) at c.requires.led)

pub invariant_of-self-2 : goal.invariant_of-self-2
invariant_of-self-2 g c = record {
  lawful = rw c.release_all.ensures (released_lawful (backlog_state c.self.inside) c.args.to c.self.invariant.lawful (rw (← c.self.view_is) at c.requires.led) (rw (← c.self.view_is) at c.requires.to));
  group = c.fill.ensures.sizes ∙ c.self.invariant.group;
}
