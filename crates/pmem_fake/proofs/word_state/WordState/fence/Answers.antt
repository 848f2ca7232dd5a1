use Rattle.std.proofs.Common.{◌∙◌, ap}
use Rattle.pmem_trait.specs.Words.{settle}
use Rattle.pmem_fake.proofs.Replays.{settle_noted}
use Rattle.pmem_fake.proofs.word_state.WordState.fence.Goals as goal

pub returns-then-self-gt0 : goal.returns-then-self-gt0
returns-then-self-gt0 c =
    settle_noted c.self.inside.settled c.self.inside.fenced c.self.inside.noted _ c.self.inside.puts.items c.if-self-gt0.true c.self.invariant c.index.ensures
    ∙ ap settle c.self.view_is
