use Rattle.std.proofs.Common.{Ok, Err, rules, refl, ◌∙◌}
use Rattle.word_space.proofs.Runs.{used_read}
use Rattle.home_runs.proofs.stopping.StoppingWords.read.Goals as goal

-- the array stays, as it does in the `Flat` below
pub returns-in-Ok-clause-uses : goal.returns-in-Ok-clause-uses
returns-in-Ok-clause-uses c = used_read {at = c.args.at} (Ok c.in-Ok.value) (record { does = search rules }) (λ x led. c.read.ensures.uses.turns c.args.self.now.flat refl ∙ led)

pub returns-in-Err-clause-uses : goal.returns-in-Err-clause-uses
returns-in-Err-clause-uses c = used_read {at = c.args.at} (Err c.in-Err.stop) (record { does = search rules }) (λ x led. c.read.ensures.uses.turns c.args.self.now.flat refl ∙ led)

-- at the planned call nothing is read
pub returns-then-ne-clause-uses : goal.returns-then-ne-clause-uses
returns-then-ne-clause-uses c = used_read {at = c.args.at} (Err c.args.self.now.stop) (record { does = search rules }) (λ x led. led)
