use Rattle.tatp_text.proofs.Drawn.{after_draws_of_steps, draws_of_steps}
use Rattle.tatp_text.proofs.draws.Draws.take.Goals as goal

pub returns-clause-words : goal.returns-clause-words
returns-clause-words c =
    draws_of_steps _ _ _ _ _ _ _ _ _ _ _ _ _ _ _ c.next_word-kind.ensures c.next_word-subscriber.ensures c.next_word-facility.ensures c.next_word-start.ensures c.next_word-end.ensures c.next_word-value.ensures c.next_word-number.ensures

pub returns-clause-after : goal.returns-clause-after
returns-clause-after c =
    after_draws_of_steps _ _ _ _ _ _ _ _ _ _ _ _ _ _ _ c.next_word-kind.ensures c.next_word-subscriber.ensures c.next_word-facility.ensures c.next_word-start.ensures c.next_word-end.ensures c.next_word-value.ensures c.next_word-number.ensures
