use Rattle.std.proofs.Common.{◌++◌, ◌∷◌, [], ap, ◌∙◌}
use Rattle.pmem_trait.specs.Sights.{state_now}
use Rattle.back_store.specs.BackView.{medium_of, state_of}
use Rattle.back_store.proofs.Announced.{announced_end}
use Rattle.log_numbered.specs.BundleLog.{kept_back, kept_medium}
use Rattle.log_numbered.proofs.Announcing.{announce_failed, announced_back, announced_carries, announced_durable, announced_goes, announced_last, announced_leads}
use Rattle.log_numbered.proofs.GoingOn.{recovers_by}
use Rattle.log_numbered.proofs.LoggedCalls.{announced_by}
use Rattle.log_numbered.proofs.bundle_log.BundleLog.announce.Goals as goal

pub returns-in-Ok-clause-goes_on : goal.returns-in-Ok-clause-goes_on
returns-in-Ok-clause-goes_on g c = announced_goes (kept_back c.args.self.now) (state_of c.announce.new.self) c.args.self.now.end _ _ c.requires.alive c.in-Ok.ensures.extends.len c.in-Ok.end c.in-Ok.ensures.state (announced_end c.in-Ok.ensures.calls) c.in-Ok.ensures.calls c.in-Ok.ensures.told.told

pub returns-in-Ok-clause-alive : goal.returns-in-Ok-clause-alive
returns-in-Ok-clause-alive g c _ = announced_leads (kept_back c.args.self.now) (state_of c.announce.new.self) c.args.self.now.end (g.M.Medium.sight (kept_medium c.args.self.now)) (g.M.Medium.sight (medium_of c.announce.new.self)) c.requires.alive c.in-Ok.ensures.extends.len c.in-Ok.end c.in-Ok.ensures.state (announced_end c.in-Ok.ensures.calls)

pub returns-in-Ok-clause-answer : goal.returns-in-Ok-clause-answer
returns-in-Ok-clause-answer g c = announced_last (kept_back c.args.self.now) (state_of c.announce.new.self) c.args.self.now.end (g.M.Medium.sight (kept_medium c.args.self.now)) (g.M.Medium.sight (medium_of c.announce.new.self)) c.requires.alive c.in-Ok.ensures.extends.len c.in-Ok.end c.in-Ok.ensures.state (announced_end c.in-Ok.ensures.calls)

pub returns-in-Ok-clause-announces : goal.returns-in-Ok-clause-announces
returns-in-Ok-clause-announces g c =
    let k = c.args.self.now in
    let v = kept_back k in
    let w = state_of c.announce.new.self in
    let s = g.M.Medium.sight (kept_medium k) in
    let t = g.M.Medium.sight (medium_of c.announce.new.self) in
    let ok = c.in-Ok.ensures in
    record {
      back = announced_back v w k.end s t c.requires.alive ok.extends.len c.in-Ok.end ok.state (announced_end ok.calls);
      calls = announced_by v c.in-Ok.end k.end _ _ c.requires.alive.lawful c.requires.alive.end ok.calls;
      told = λ visible. ok.told.answer visible ∙ ap (λ n. (state_now s).told ++ n ∷ []) (returns-in-Ok-clause-answer g c);
      durable = announced_durable v w k.end s t c.requires.alive ok.extends.len c.in-Ok.end ok.state (announced_end ok.calls);
      carries = announced_carries v w k.end _ _ c.requires.alive ok.extends.len c.in-Ok.end ok.state (announced_end ok.calls) (returns-in-Ok-clause-goes_on g c) ok.crash.keeps ok.home_stays;
    }

pub returns-in-Ok-clause-moments : goal.returns-in-Ok-clause-moments
returns-in-Ok-clause-moments g c = recovers_by _ _ _ _ c.requires.alive c.in-Ok.ensures.crash.moments

pub returns-in-Err-clause-goes_on : goal.returns-in-Err-clause-goes_on
returns-in-Err-clause-goes_on g c = announce_failed (kept_back c.args.self.now) (state_of c.announce.new.self) c.args.self.now.end _ _ c.requires.alive c.in-Err.ensures.extends.len c.in-Err.field-0 c.in-Err.ensures.cause.only c.in-Err.ensures.cause.dead c.in-Err.ensures.state c.in-Err.ensures.calls c.in-Err.ensures.told.told

pub returns-in-Err-clause-moments : goal.returns-in-Err-clause-moments
returns-in-Err-clause-moments g c = recovers_by _ _ _ _ c.requires.alive c.in-Err.ensures.crash.moments
