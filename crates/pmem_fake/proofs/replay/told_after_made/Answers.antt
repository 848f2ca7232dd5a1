use Rattle.std.proofs.Common.{sym, ◌∙◌}
use Rattle.pmem_fake.proofs.Histories.{told_last}
use Rattle.pmem_fake.proofs.replay.told_after_made.Goals as goal

pub returns-in-Tell : goal.returns-in-Tell
returns-in-Tell c p is = told_last c.args.late c.args.made.now c.in-Tell.number p (sym c.had_effect.ensures ∙ c.if-had_effect.true) c.in-Tell.is
