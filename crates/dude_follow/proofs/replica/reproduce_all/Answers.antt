use Rattle.std.proofs.Common.{Err, append-nil, sym, ap, ◌∙◌, arith}
use Rattle.pmem_trait.specs.Sights.{state_now}
use Rattle.back_store.specs.Answers.{reproduced}
use Rattle.back_store.specs.Back.{BackState}
use Rattle.back_store.specs.BackView.{sight_of, state_of}
use Rattle.log_numbered.proofs.LedLogs.{none_waits, stop_last}
use Rattle.log_numbered.proofs.LoggedCalls.{reproduced_by}
use Rattle.log_numbered.proofs.Reproducing.{all_numbers, reproduced_back, reproduced_leads, reproduced_told}
use Rattle.dude_follow.proofs.Applying.{alone_moments, array_overwritten, failed_so, reproduce_ran, reproduced_same, went, went_wrong}
use Rattle.dude_follow.proofs.replica.reproduce_all.Goals as goal

pub returns-in-Ok-clause-goes_on : goal.returns-in-Ok-clause-goes_on
returns-in-Ok-clause-goes_on g c =
    let v = state_of c.args.back.now in
    let ok = c.in-Ok.ensures in
    let same = reproduced_same v c.in-Ok.field-0 in
    went v (state_of c.reproduce.new.self) (sight_of c.args.back.now) (sight_of c.reproduce.new.self) ok.extends (ap (λ (x : BackState). x.log.sizes) ok.state ∙ same.sizes)
    (ap (λ (x : BackState). x.dead) ok.state ∙ (same.dead ∙ c.requires.alive)) (ok.calls.made.calls, ok.calls.made.made)

pub returns-in-Err-clause-goes_on : goal.returns-in-Err-clause-goes_on
returns-in-Err-clause-goes_on g c =
    let v = state_of c.args.back.now in
    let w = state_of c.reproduce.new.self in
    let s = sight_of c.args.back.now in
    let t = sight_of c.reproduce.new.self in
    let e = c.in-Err.ensures in
    let fault = c.in-Err.field-0 in
    let so = failed_so fault v w (λ number. reproduced v number) e.cause.only e.cause.dead c.requires.alive e.state in
    went_wrong v w s t e.extends so.1 (e.cause.device (ap Err so.0)) (reproduce_ran v 18446744073709551615 fault s t so.0 e.calls)

pub returns-in-Ok-clause-reproduces : goal.returns-in-Ok-clause-reproduces
returns-in-Ok-clause-reproduces g c b alone all =
    let v = state_of c.args.back.now in
    let w = state_of c.reproduce.new.self in
    let s = sight_of c.args.back.now in
    let t = sight_of c.reproduce.new.self in
    let ok = c.in-Ok.ensures in
    let made = ok.calls in
    let number = c.in-Ok.field-0 in
    let numbers = all_numbers v w b.last s t alone.leads ok.extends.len 18446744073709551615 (omega arith) all number ok.state ok.answer in
    let leads = reproduced_leads v w b.last s t alone.leads ok.extends.len 18446744073709551615 (omega arith) all number ok.state ok.answer in
    let sizes = ap (λ (x : BackState). x.log.sizes) ok.state ∙ (reproduced_same v number).sizes in
    record {
      back = reproduced_back v w b.last s t alone.leads ok.extends.len 18446744073709551615 (omega arith) all number ok.state ok.answer;
      rests = record { alive = leads.alive; lawful = leads.lawful; durable = numbers.0 ∙ sym numbers.1; none_waits = none_waits w b.last leads numbers.1 };
      number = numbers.1;
      overwrites = array_overwritten v w b number s t alone (stop_last v b.last alone.leads 18446744073709551615 number (omega arith) all ok.answer) ok.extends sizes ok.crash.keeps ok.home;
      told = λ visible. reproduced_told v w b.last s t alone.leads ok.extends.len 18446744073709551615 (omega arith) all number ok.state ok.answer made visible ∙ sym (append-nil (state_now s).told);
      calls = reproduced_by v b.last number s t made.stop (stop_last v b.last alone.leads 18446744073709551615 made.stop (omega arith) all made.stops) made.made;
    }

pub returns-in-Ok-clause-moments : goal.returns-in-Ok-clause-moments
returns-in-Ok-clause-moments g c b alone = alone_moments (state_of c.args.back.now) b alone (sight_of c.args.back.now) (sight_of c.reproduce.new.self) c.in-Ok.ensures.crash.moments

pub returns-in-Err-clause-moments : goal.returns-in-Err-clause-moments
returns-in-Err-clause-moments g c b alone = alone_moments (state_of c.args.back.now) b alone (sight_of c.args.back.now) (sight_of c.reproduce.new.self) c.in-Err.ensures.crash.moments
