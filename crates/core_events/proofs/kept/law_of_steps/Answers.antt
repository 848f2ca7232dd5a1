use Rattle.std.proofs.Common.{◌∙◌, zero-add}
use Rattle.core_events.specs.Partings.{start}
use Rattle.core_events.proofs.Keeps.{steps_keep, kept_legal, steps_weigh}
use Rattle.core_events.proofs.Start.{start_keeps}
use Rattle.core_events.proofs.kept.law_of_steps.Goals as goal

pub returns-clause-kept : goal.returns-clause-kept
returns-clause-kept c = λ z ss d ok h. steps_keep z ss (start z) d (start_keeps z ok) h

pub returns-clause-legal : goal.returns-clause-legal
returns-clause-legal c = λ z ss d ok told h. kept_legal z d (steps_keep z ss (start z) d (start_keeps z ok) h) told

pub returns-clause-once : goal.returns-clause-once
returns-clause-once c = λ z ss d h f. let w = steps_weigh f z ss (start z) d h in w ∙ zero-add _
