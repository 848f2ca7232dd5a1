use Rattle.std.proofs.Common.{Err, [], ◌∷◌, ◌++◌, ap, ◌∙◌}
use Rattle.pmem_trait.specs.Sights.{state_now}
use Rattle.back_store.specs.Answers.{announced}
use Rattle.back_store.specs.Back.{BackState}
use Rattle.back_store.specs.BackView.{sight_of, state_of}
use Rattle.back_store.proofs.Announced.{announced_end}
use Rattle.log_numbered.proofs.Announcing.{announced_back, announced_last}
use Rattle.log_numbered.proofs.LoggedCalls.{announced_by}
use Rattle.redo_record.specs.BackCalls.{announce_calls}
use Rattle.dude_follow.proofs.Applying.{alone_moments, announce_ran, array_stays, failed_so, went, went_wrong}
use Rattle.dude_follow.proofs.replica.announce.Goals as goal

pub returns-in-Ok-clause-goes_on : goal.returns-in-Ok-clause-goes_on
returns-in-Ok-clause-goes_on g c =
    let ok = c.in-Ok.ensures in
    went (state_of c.args.back.now) (state_of c.announce.new.self) (sight_of c.args.back.now) (sight_of c.announce.new.self) ok.extends (ap (λ (x : BackState). x.log.sizes) ok.state)
    (ap (λ (x : BackState). x.dead) ok.state ∙ c.requires.alive) (announce_calls ok.calls.end, ok.calls.made)

pub returns-in-Err-clause-goes_on : goal.returns-in-Err-clause-goes_on
returns-in-Err-clause-goes_on g c =
    let v = state_of c.args.back.now in
    let w = state_of c.announce.new.self in
    let s = sight_of c.args.back.now in
    let t = sight_of c.announce.new.self in
    let e = c.in-Err.ensures in
    let fault = c.in-Err.field-0 in
    let so = failed_so fault v w (λ number. announced v number) e.cause.only e.cause.dead c.requires.alive e.state in
    went_wrong v w s t e.extends so.1 (e.cause.device (ap Err so.0)) (announce_ran v fault s t so.0 e.calls)

pub returns-in-Ok-clause-announces : goal.returns-in-Ok-clause-announces
returns-in-Ok-clause-announces g c b alone =
    let v = state_of c.args.back.now in
    let w = state_of c.announce.new.self in
    let s = sight_of c.args.back.now in
    let t = sight_of c.announce.new.self in
    let ok = c.in-Ok.ensures in
    let number = c.in-Ok.field-0 in
    record {
      back = announced_back v w b.last s t alone.leads ok.extends.len number ok.state (announced_end ok.calls);
      overwrites = array_stays v w s t c.requires.alive ok.extends (ap (λ (x : BackState). x.log.sizes) ok.state) ok.crash.keeps ok.home_stays;
      told = λ visible. ok.told.answer visible ∙ ap (λ n. (state_now s).told ++ n ∷ []) (announced_last v w b.last s t alone.leads ok.extends.len number ok.state (announced_end ok.calls));
      calls = announced_by v number b.last s t alone.leads.lawful alone.leads.end ok.calls;
    }

pub returns-in-Ok-clause-moments : goal.returns-in-Ok-clause-moments
returns-in-Ok-clause-moments g c b alone = alone_moments (state_of c.args.back.now) b alone (sight_of c.args.back.now) (sight_of c.announce.new.self) c.in-Ok.ensures.crash.moments

pub returns-in-Err-clause-moments : goal.returns-in-Err-clause-moments
returns-in-Err-clause-moments g c b alone = alone_moments (state_of c.args.back.now) b alone (sight_of c.args.back.now) (sight_of c.announce.new.self) c.in-Err.ensures.crash.moments
