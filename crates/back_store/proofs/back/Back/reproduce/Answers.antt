use Rattle.back_store.proofs.Causes.{has_cause}
use Rattle.back_store.proofs.KeptLogs.{answered_later}
use Rattle.back_store.proofs.Reproduction.{stop_answer, stop_calls, stop_home, stop_keeps, stop_moments}
use Rattle.back_store.specs.BackView.{sight_of, state_of}
use Rattle.back_store.proofs.back.Back.reproduce.Goals as goal

pub returns-clause-extends : goal.returns-clause-extends
returns-clause-extends g c =
    let made = stop_calls (state_of c.args.self.now) c.args.most c.reproduce_next.result (sight_of c.args.self.now) (sight_of c.reproduce_next.new.self) c.reproduce_next.ensures.calls in
    answered_later c.reproduce_next.result made.0 made.1

pub returns-clause-answer : goal.returns-clause-answer
returns-clause-answer g c = stop_answer (state_of c.args.self.now) c.args.most c.reproduce_next.result (sight_of c.args.self.now) (sight_of c.reproduce_next.new.self) c.reproduce_next.ensures.calls

pub returns-clause-cause : goal.returns-clause-cause
returns-clause-cause g c =
    let made = stop_calls (state_of c.args.self.now) c.args.most c.reproduce_next.result (sight_of c.args.self.now) (sight_of c.reproduce_next.new.self) c.reproduce_next.ensures.calls in
    has_cause c.reproduce_next.result c.args.self.now c.reproduce_next.new.self made.0 made.1 c.reproduce_next.ensures.fault c.reproduce_next.ensures.dead

pub returns-clause-crash : goal.returns-clause-crash
returns-clause-crash g c = record {
  moments = stop_moments (state_of c.args.self.now) c.place-place.ensures.lawful c.args.most (sight_of c.args.self.now) (sight_of c.reproduce_next.new.self) c.reproduce_next.result c.args.self.now.room c.reproduce_next.ensures.calls;
  keeps = rw c.reproduce_next.ensures.state (stop_keeps (state_of c.args.self.now) c.place-place.ensures.lawful c.args.most (sight_of c.args.self.now) (sight_of c.reproduce_next.new.self) c.reproduce_next.result c.reproduce_next.ensures.dead c.reproduce_next.ensures.calls);
}

pub returns-clause-home : goal.returns-clause-home
returns-clause-home g c = stop_home (state_of c.args.self.now) c.place-place.ensures.lawful c.args.most (sight_of c.args.self.now) (sight_of c.reproduce_next.new.self) c.reproduce_next.result (state_of c.reproduce_next.new.self) c.reproduce_next.ensures.state c.reproduce_next.ensures.calls
