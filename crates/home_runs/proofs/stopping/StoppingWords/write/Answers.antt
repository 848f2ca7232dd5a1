use Rattle.std.proofs.Common.{Ok, Err, rules, refl, ◌∙◌}
use Rattle.word_space.proofs.Runs.{used_write}
use Rattle.home_runs.proofs.stopping.StoppingWords.write.Goals as goal

-- the array stays, as it does in the `Flat` below
pub returns-in-Ok-clause-uses : goal.returns-in-Ok-clause-uses
returns-in-Ok-clause-uses c = used_write {at = c.args.at} {value = c.args.value} (Ok tt) (record { does = search rules }) (λ x led. c.write.ensures.uses.turns c.args.self.now.flat refl ∙ led)

pub returns-in-Err-clause-uses : goal.returns-in-Err-clause-uses
returns-in-Err-clause-uses c = used_write {at = c.args.at} {value = c.args.value} (Err c.in-Err.stop) (record { does = search rules }) (λ x led. c.write.ensures.uses.turns c.args.self.now.flat refl ∙ led)

-- at the planned call nothing is written
pub returns-then-not-is_wide-clause-uses : goal.returns-then-not-is_wide-clause-uses
returns-then-not-is_wide-clause-uses c = used_write {at = c.args.at} {value = c.args.value} (Err c.args.self.now.stop) (record { does = search rules }) (λ x led. led)
