use Rattle.std.proofs.Common.{rules, [], inl, inr, refl, sym, subst, ◌∙◌}
use Rattle.pmem_trait.specs.Sights.{CallsMade.none}
use Rattle.back_store.specs.Answers.{ReproducesUnlessDead}
use Rattle.back_store.specs.BackView.{sight_of, state_of}
use Rattle.back_store.proofs.AnsweredCalls.{reproduced_by, stopped_at_device}
use Rattle.back_store.proofs.back.Back.reproduce_next.Goals as goal

pub returns-then-to-reproduced-clause-calls : goal.returns-then-to-reproduced-clause-calls
returns-then-to-reproduced-clause-calls g c = record {
  stop = c.next_stop-to.result;
  stops = c.next_stop-to.ensures.stop;
  made = record { calls = []; by = inl ((search rules), refl); answer = refl; made = none };
}

pub returns-in-Ok-clause-calls : goal.returns-in-Ok-clause-calls
returns-in-Ok-clause-calls g c = let by = c.in-Ok.ensures.reproduces in record {
  stop = c.next_stop-to.result;
  stops = c.next_stop-to.ensures.stop;
  made = record { calls = _; by = inr (reproduced_by (λ same. c.if-to-reproduced.false (same ∙ sym c.reproduced.ensures)) by); answer = refl; made = by.made };
}

pub returns-in-Err-clause-calls : goal.returns-in-Err-clause-calls
returns-in-Err-clause-calls g c =
    let by = c.in-Err.ensures.reproduces in
    subst (λ m. ReproducesUnlessDead (state_of c.args.self.now) c.args.most c.die.result (sight_of c.args.self.now) (g.M.Medium.sight m)) (sym c.die.ensures.medium)
    (stopped_at_device c.die.ensures.fault (record {
      stop = c.next_stop-to.result;
      stops = c.next_stop-to.ensures.stop;
      made = record { calls = _; by = inr (reproduced_by (λ same. c.if-to-reproduced.false (same ∙ sym c.reproduced.ensures)) by); answer = tt; made = by.made };
    }))
