use Rattle.back_store.proofs.Ends.{ends}
use Rattle.back_store.specs.BackView.{state_of}
use Rattle.back_store.proofs.back.Back.durable.Goals as goal

pub returns-clause-end : goal.returns-clause-end
returns-clause-end g c = rw c.durable.ensures (ends (state_of c.args.self.now) c.place-place.ensures.lawful)
