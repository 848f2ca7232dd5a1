use Rattle.redo_record.specs.BackCalls.{read_page_calls}
use Rattle.back_store.proofs.Causes.{has_cause}
use Rattle.back_store.proofs.KeptLogs.{answered_later}
use Rattle.back_store.proofs.ReadPages.{read_home, read_keeps, read_moments, read_words}
use Rattle.back_store.specs.BackView.{sight_of, state_of}
use Rattle.back_store.proofs.back.Back.read_page.Goals as goal

pub returns-clause-extends : goal.returns-clause-extends
returns-clause-extends g c = answered_later c.read_into.result (read_page_calls c.args.self.now.log.sizes c.args.page) c.read_into.ensures.calls

pub returns-clause-reads : goal.returns-clause-reads
returns-clause-reads g c = record {
  made = c.read_into.ensures.calls;
  words = read_words (state_of c.args.self.now) c.args.page c.requires.inside c.place-place.ensures.lawful c.read_into.result (sight_of c.args.self.now) c.read_into.new.into c.read_into.ensures.words;
}

pub returns-clause-cause : goal.returns-clause-cause
returns-clause-cause g c =
    has_cause c.read_into.result c.args.self.now c.read_into.new.self (read_page_calls c.args.self.now.log.sizes c.args.page) c.read_into.ensures.calls c.read_into.ensures.fault c.read_into.ensures.dead

pub returns-clause-crash : goal.returns-clause-crash
returns-clause-crash g c = record {
  moments = read_moments (state_of c.args.self.now) c.place-place.ensures.lawful c.args.page c.requires.inside c.read_into.result (sight_of c.args.self.now) (sight_of c.read_into.new.self) c.args.self.now.room c.read_into.ensures.calls;
  keeps = rw c.read_into.ensures.state (read_keeps (state_of c.args.self.now) c.place-place.ensures.lawful c.args.page c.requires.inside c.read_into.result (sight_of c.args.self.now) (sight_of c.read_into.new.self) c.read_into.ensures.calls);
}

pub returns-clause-home_stays : goal.returns-clause-home_stays
returns-clause-home_stays g c = read_home (state_of c.args.self.now) c.place-place.ensures.lawful c.args.page c.requires.inside c.read_into.result (sight_of c.args.self.now) (sight_of c.read_into.new.self) c.read_into.ensures.calls
