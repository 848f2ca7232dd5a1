use Rattle.back_store.proofs.Causes.{has_persist_cause}
use Rattle.back_store.proofs.KeptLogs.{answered_later}
use Rattle.back_store.proofs.Persisted.{persist_home, persist_keeps, persist_moments}
use Rattle.back_store.specs.Answers.{persist_calls}
use Rattle.back_store.specs.BackView.{sight_of, state_of}
use Rattle.back_store.proofs.back.Back.persist.Goals as goal

pub returns-clause-extends : goal.returns-clause-extends
returns-clause-extends g c = answered_later c.persist_record.result (persist_calls (state_of c.args.self.now) c.args.ring c.args.r.now) c.persist_record.ensures.calls

pub returns-clause-cause : goal.returns-clause-cause
returns-clause-cause g c =
    has_persist_cause c.args.ring c.args.r.now c.persist_record.result c.args.self.now c.persist_record.new.self c.persist_record.ensures.calls c.persist_record.ensures.full c.persist_record.ensures.fault c.persist_record.ensures.dead

pub returns-clause-crash : goal.returns-clause-crash
returns-clause-crash g c = record {
  moments = persist_moments (state_of c.args.self.now) c.args.ring c.args.r.now c.place-place.ensures.lawful c.requires.may.exists c.persist_record.result (sight_of c.args.self.now) (sight_of c.persist_record.new.self) c.requires.may.new c.args.self.now.room c.persist_record.ensures.calls c.persist_record.ensures.full c.persist_record.ensures.dead c.persist_record.ensures.can;
  keeps = rw c.persist_record.ensures.state (persist_keeps (state_of c.args.self.now) c.args.ring c.args.r.now c.place-place.ensures.lawful c.requires.may.exists c.persist_record.result (sight_of c.args.self.now) (sight_of c.persist_record.new.self) c.args.self.now.room c.persist_record.ensures.calls c.persist_record.ensures.full c.persist_record.ensures.dead c.persist_record.ensures.can);
}

pub returns-clause-home_stays : goal.returns-clause-home_stays
returns-clause-home_stays g c = persist_home (state_of c.args.self.now) c.args.ring c.args.r.now c.place-place.ensures.lawful c.requires.may.exists c.persist_record.result (sight_of c.args.self.now) (sight_of c.persist_record.new.self) c.args.self.now.room c.persist_record.ensures.calls c.persist_record.ensures.full c.persist_record.ensures.can
