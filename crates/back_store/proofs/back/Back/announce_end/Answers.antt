use Rattle.std.proofs.Common.{true, false, refl, sym, subst}
use Rattle.pmem_trait.proofs.Runs.{goes_alone}
use Rattle.redo_record.specs.BackCalls.{announce_calls}
use Rattle.back_store.specs.Answers.{CallsAnswered}
use Rattle.back_store.specs.BackView.{sight_of}
use Rattle.back_store.proofs.AnsweredCalls.{calls_at_device}
use Rattle.back_store.proofs.back.Back.announce_end.Goals as goal

pub returns-then-self-clause-calls : goal.returns-then-self-clause-calls
returns-then-self-clause-calls g c = record { end = c.contiguous_end-end.result; is_end = c.contiguous_end-end.ensures.end; answer = tt; made = refl }

pub returns-in-Ok-clause-calls : goal.returns-in-Ok-clause-calls
returns-in-Ok-clause-calls g c = record { end = c.contiguous_end-end.result; is_end = c.contiguous_end-end.ensures.end; answer = refl; made = goes_alone true c.in-Ok.ensures }

pub returns-in-Err-clause-calls : goal.returns-in-Err-clause-calls
returns-in-Err-clause-calls g c = record {
  end = c.contiguous_end-end.result;
  is_end = c.contiguous_end-end.ensures.end;
  answer = rw c.die.ensures.fault tt;
  made = subst (λ m. CallsAnswered c.die.result (announce_calls c.contiguous_end-end.result) (sight_of c.args.self.now) (g.M.Medium.sight m)) (sym c.die.ensures.medium) (calls_at_device c.die.ensures.fault (goes_alone false c.in-Err.ensures));
}
