use Rattle.std.proofs.Common.{arith}
use Rattle.back_store.specs.BackView.{medium_of, state_of}
use Rattle.log_numbered.specs.BundleLog.{kept_back, kept_medium}
use Rattle.log_numbered.proofs.GoingOn.{recovers_by}
use Rattle.log_numbered.proofs.LedLogs.{stop_last}
use Rattle.log_numbered.proofs.LoggedCalls.{reproduced_by}
use Rattle.log_numbered.proofs.Reproducing.{all_numbers, reproduce_failed, reproduced_back, reproduced_carries, reproduced_goes, reproduced_home, reproduced_leads, reproduced_told}
use Rattle.log_numbered.proofs.bundle_log.BundleLog.reproduce_all.Goals as goal

pub returns-in-Ok-clause-goes_on : goal.returns-in-Ok-clause-goes_on
returns-in-Ok-clause-goes_on g c = reproduced_goes (kept_back c.args.self.now) (state_of c.reproduce.new.self) c.args.self.now.end _ _ c.requires.alive c.in-Ok.ensures.extends.len 18446744073709551615 (omega arith) c.requires.announced c.in-Ok.field-0 c.in-Ok.ensures.state c.in-Ok.ensures.answer c.in-Ok.ensures.calls

pub returns-in-Ok-clause-alive : goal.returns-in-Ok-clause-alive
returns-in-Ok-clause-alive g c _ = reproduced_leads (kept_back c.args.self.now) (state_of c.reproduce.new.self) c.args.self.now.end (g.M.Medium.sight (kept_medium c.args.self.now)) (g.M.Medium.sight (medium_of c.reproduce.new.self)) c.requires.alive c.in-Ok.ensures.extends.len 18446744073709551615 (omega arith) c.requires.announced c.in-Ok.field-0 c.in-Ok.ensures.state c.in-Ok.ensures.answer

pub returns-in-Ok-clause-brings : goal.returns-in-Ok-clause-brings
returns-in-Ok-clause-brings g c =
    let k = c.args.self.now in
    let v = kept_back k in
    let w = state_of c.reproduce.new.self in
    let s = g.M.Medium.sight (kept_medium k) in
    let t = g.M.Medium.sight (medium_of c.reproduce.new.self) in
    let ok = c.in-Ok.ensures in
    let made = ok.calls in
    let numbers = all_numbers v w k.end s t c.requires.alive ok.extends.len 18446744073709551615 (omega arith) c.requires.announced c.in-Ok.field-0 ok.state ok.answer in
    record {
      back = reproduced_back v w k.end s t c.requires.alive ok.extends.len 18446744073709551615 (omega arith) c.requires.announced c.in-Ok.field-0 ok.state ok.answer;
      calls = reproduced_by v k.end _ _ _ made.stop (stop_last v k.end c.requires.alive 18446744073709551615 made.stop (omega arith) c.requires.announced made.stops) made.made;
      told = reproduced_told v w k.end s t c.requires.alive ok.extends.len 18446744073709551615 (omega arith) c.requires.announced c.in-Ok.field-0 ok.state ok.answer ok.calls;
      durable = numbers.0;
      reproduced_is = numbers.1;
      carries = reproduced_carries v w k.end _ _ c.requires.alive ok.extends.len 18446744073709551615 (omega arith) c.requires.announced c.in-Ok.field-0 ok.state ok.answer (returns-in-Ok-clause-goes_on g c) ok.crash.keeps ok.home;
      home = reproduced_home v w k.end s t c.requires.alive ok.extends.len 18446744073709551615 (omega arith) c.requires.announced c.in-Ok.field-0 ok.state ok.answer ok.home;
    }

pub returns-in-Ok-clause-moments : goal.returns-in-Ok-clause-moments
returns-in-Ok-clause-moments g c = recovers_by _ _ _ _ c.requires.alive c.in-Ok.ensures.crash.moments

pub returns-in-Err-clause-goes_on : goal.returns-in-Err-clause-goes_on
returns-in-Err-clause-goes_on g c = reproduce_failed (kept_back c.args.self.now) (state_of c.reproduce.new.self) c.args.self.now.end _ _ c.requires.alive c.in-Err.ensures.extends.len 18446744073709551615 (omega arith) c.requires.announced c.in-Err.field-0 c.in-Err.ensures.cause.only c.in-Err.ensures.cause.dead c.in-Err.ensures.state c.in-Err.ensures.calls

pub returns-in-Err-clause-moments : goal.returns-in-Err-clause-moments
returns-in-Err-clause-moments g c = recovers_by _ _ _ _ c.requires.alive c.in-Err.ensures.crash.moments
