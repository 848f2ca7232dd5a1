use Rattle.std.proofs.Common.{ap, ◌∙◌}
use Rattle.stm_transactions.proofs.pass.Pass.take_seat.Goals as goal

pub into_seat-requires : goal.into_seat-requires
into_seat-requires g c = (c.requires.seat.0, ap (λ b. b.views) c.replace.ensures.value ∙ (ap (λ p. p.known) c.self.view_is ∙ c.requires.seat.1))
