use Rattle.std.proofs.Common.{◌∙◌}
use Rattle.dude_recover.proofs.stale_heads.clear_heads.Goals as goal

pub returns-in_err-clear_words-clause-len : goal.returns-in_err-clear_words-clause-len
returns-in_err-clear_words-clause-len g c = c.in_err-clear_words.ensures.len

pub returns-clause-len : goal.returns-clause-len
returns-clause-len g c = c.fence.ensures.later.len ∙ (c.in_ok-flush_all.ensures.len ∙ c.in_ok-clear_words.ensures.len)
