use Rattle.std.proofs.Common.{ℕ, [], ◌∷◌, ◌++◌, sym, ap, ◌∙◌}
use Rattle.pmem_trait.specs.Sights.{state_now}
use Rattle.back_store.specs.BackView.{medium_of, state_of}
use Rattle.run_threads.proofs.CatchingUp.{announce_on, caught_durable, caught_up, reproduce_on, then_on}
use Rattle.run_threads.proofs.catching_up.catch_up.Goals as goal

pub returns-in-Ok-reproduce-clause-known : goal.returns-in-Ok-reproduce-clause-known
returns-in-Ok-reproduce-clause-known g c = λ b rs known. c.reproduce.ensures.known b rs (c.announce.ensures.known b rs known)

pub returns-in-Err-clause-known : goal.returns-in-Err-clause-known
returns-in-Err-clause-known g c = λ b rs known. c.reproduce.ensures.known b rs (c.announce.ensures.known b rs known)

pub returns-in-Ok-reproduce-clause-goes : goal.returns-in-Ok-reproduce-clause-goes
returns-in-Ok-reproduce-clause-goes g c =
    let k = c.requires.known in let a = c.announce in let b = c.reproduce in let u = state_of c.args.back.now in let v = state_of a.new.back in let w = state_of b.new.back in
    let then = a.ensures.known k.since k.records k.known in
    then_on u v w (announce_on k.since.first u k.records k.known.lawful v a.result a.ensures.answer a.ensures.state a.ensures.cause.dead) (reproduce_on k.since.first v k.records then.lawful w c.in-Ok.end b.result b.ensures.answer b.ensures.state)

pub returns-in-Err-clause-goes : goal.returns-in-Err-clause-goes
returns-in-Err-clause-goes g c =
    let k = c.requires.known in let a = c.announce in let b = c.reproduce in let u = state_of c.args.back.now in let v = state_of a.new.back in let w = state_of b.new.back in
    let then = a.ensures.known k.since k.records k.known in
    then_on u v w (announce_on k.since.first u k.records k.known.lawful v a.result a.ensures.answer a.ensures.state a.ensures.cause.dead) (reproduce_on k.since.first v k.records then.lawful w c.in-Ok.end b.result b.ensures.answer b.ensures.state)

pub returns-in-Ok-reproduce-clause-ok : goal.returns-in-Ok-reproduce-clause-ok
returns-in-Ok-reproduce-clause-ok g c =
    let k = c.requires.known in let a = c.announce in let b = c.reproduce in let u = state_of c.args.back.now in let v = state_of a.new.back in let w = state_of b.new.back in
    let then = a.ensures.known k.since k.records k.known in
    caught_up k.since.first u v w k.records k.known.lawful then.lawful c.in-Ok.end c.in-Ok-reproduce.field-0 a.result b.result c.in-Ok.is c.in-Ok.ensures.answer c.in-Ok.ensures.state a.ensures.cause.dead c.in-Ok-reproduce.is c.in-Ok-reproduce.ensures.answer c.in-Ok-reproduce.ensures.state

pub returns-in-Ok-reproduce-clause-told : goal.returns-in-Ok-reproduce-clause-told
returns-in-Ok-reproduce-clause-told g c =
    let k = c.requires.known in let a = c.announce in let b = c.reproduce in let u = state_of c.args.back.now in let v = state_of a.new.back in let w = state_of b.new.back in
    let then = a.ensures.known k.since k.records k.known in
    let durable = caught_durable k.since.first u v w k.records k.known.lawful then.lawful c.in-Ok.end c.in-Ok-reproduce.field-0 a.result b.result c.in-Ok.is c.in-Ok.ensures.answer c.in-Ok.ensures.state a.ensures.cause.dead c.in-Ok-reproduce.is c.in-Ok-reproduce.ensures.answer c.in-Ok-reproduce.ensures.state in
    λ seen. c.in-Ok-reproduce.ensures.told (then.is.moments.later.is_visible ∙ sym k.known.is.moments.later.is_visible ∙ seen)
    ∙ (c.in-Ok.ensures.told.answer seen ∙ ap (λ (n : ℕ). (state_now (g.M.Medium.sight (medium_of c.args.back.now))).told ++ n ∷ []) (sym durable))
