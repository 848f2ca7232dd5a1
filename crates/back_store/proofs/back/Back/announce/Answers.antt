use Rattle.redo_record.specs.BackCalls.{announce_calls}
use Rattle.back_store.proofs.Announced.{announce_home, announce_keeps, announce_moments, announce_told, announce_were_told}
use Rattle.back_store.proofs.Causes.{has_cause}
use Rattle.back_store.proofs.KeptLogs.{answered_later}
use Rattle.back_store.specs.BackView.{sight_of, state_of}
use Rattle.back_store.proofs.back.Back.announce.Goals as goal

pub returns-clause-extends : goal.returns-clause-extends
returns-clause-extends g c = answered_later c.announce_end.result (announce_calls c.announce_end.ensures.calls.end) c.announce_end.ensures.calls.made

pub returns-clause-told : goal.returns-clause-told
returns-clause-told g c = record {
  answer = announce_told (state_of c.args.self.now) c.place-place.ensures.lawful c.announce_end.result (sight_of c.args.self.now) (sight_of c.announce_end.new.self) c.announce_end.ensures.calls;
  told = announce_were_told (state_of c.args.self.now) c.place-place.ensures.lawful c.announce_end.result (state_of c.announce_end.new.self) (sight_of c.args.self.now) (sight_of c.announce_end.new.self) c.announce_end.ensures.calls c.announce_end.ensures.state;
}

pub returns-clause-cause : goal.returns-clause-cause
returns-clause-cause g c =
    has_cause c.announce_end.result c.args.self.now c.announce_end.new.self (announce_calls c.announce_end.ensures.calls.end) c.announce_end.ensures.calls.made c.announce_end.ensures.fault c.announce_end.ensures.dead

pub returns-clause-crash : goal.returns-clause-crash
returns-clause-crash g c = record {
  moments = announce_moments (state_of c.args.self.now) c.place-place.ensures.lawful c.announce_end.result (sight_of c.args.self.now) (sight_of c.announce_end.new.self) c.args.self.now.room c.announce_end.ensures.calls;
  keeps = rw c.announce_end.ensures.state (announce_keeps (state_of c.args.self.now) c.place-place.ensures.lawful c.announce_end.result (sight_of c.args.self.now) (sight_of c.announce_end.new.self) c.announce_end.ensures.calls c.announce_end.ensures.dead);
}

pub returns-clause-home_stays : goal.returns-clause-home_stays
returns-clause-home_stays g c = announce_home (state_of c.args.self.now) c.place-place.ensures.lawful c.announce_end.result (sight_of c.args.self.now) (sight_of c.announce_end.new.self) c.announce_end.ensures.calls
