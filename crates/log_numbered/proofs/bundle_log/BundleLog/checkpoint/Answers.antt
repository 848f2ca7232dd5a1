use Rattle.std.proofs.Common.{◌≡◌, ◌∙◌, false, is_ok, rules, sym}
use Rattle.log_numbered.specs.Backs.{Any}
use Rattle.log_numbered.specs.BundleLog.{kept_back, kept_medium}
use Rattle.log_numbered.proofs.GoingOn.{carries_then, goes_then, home_then, recovers_then, visible_after}
use Rattle.log_numbered.proofs.LoggedCalls.{settled_back, settled_by}
use Rattle.log_numbered.proofs.bundle_log.BundleLog.checkpoint.Goals as goal

pub reproduce_all-requires-clause-announced : goal.reproduce_all-requires-clause-announced
reproduce_all-requires-clause-announced g c = c.in_ok-number.ensures.announces.durable ∙ sym c.announce.ensures.end

pub returns-in_err-reproduce_all-clause-goes_on : goal.returns-in_err-reproduce_all-clause-goes_on
returns-in_err-reproduce_all-clause-goes_on g c = let err : is_ok c.from_residual-in_err-reproduce_all.result ≡ false = search rules in rw err (goes_then _ _ _ _ _ _ c.in_ok-number.ensures.goes_on c.in_err-reproduce_all.ensures.goes_on)

pub returns-in_err-reproduce_all-clause-moments : goal.returns-in_err-reproduce_all-clause-moments
returns-in_err-reproduce_all-clause-moments g c = recovers_then Any (kept_back c.args.self.now) (kept_back c.announce.new.self) c.args.self.now.end c.announce.new.self.end _ _ _ c.in_ok-number.ensures.goes_on.sizes c.announce.ensures.end c.in_ok-number.ensures.announces.carries c.in_ok-number.ensures.moments c.in_err-reproduce_all.ensures.moments

pub returns-clause-goes_on : goal.returns-clause-goes_on
returns-clause-goes_on g c = goes_then _ _ _ _ _ _ c.in_ok-number.ensures.goes_on c.in_ok-reproduce_all.ensures.goes_on

pub returns-clause-moments : goal.returns-clause-moments
returns-clause-moments g c = recovers_then Any (kept_back c.args.self.now) (kept_back c.announce.new.self) c.args.self.now.end c.announce.new.self.end _ _ _ c.in_ok-number.ensures.goes_on.sizes c.announce.ensures.end c.in_ok-number.ensures.announces.carries c.in_ok-number.ensures.moments c.in_ok-reproduce_all.ensures.moments

pub returns-clause-checkpoints : goal.returns-clause-checkpoints
returns-clause-checkpoints g c =
    let k = c.args.self.now in
    let m = c.announce.new.self in
    let v = kept_back k in
    let w = kept_back m in
    let end = c.announce.ensures.end in
    let told = c.in_ok-number.ensures.announces in
    let brought = c.in_ok-reproduce_all.ensures.brings in
    record {
      back = settled_back v w _ k.end m.end told.back end brought.back;
      calls = settled_by v w k.end m.end _ (g.M.Medium.sight (kept_medium m)) _ c.requires.alive.end told.calls told.back end brought.calls;
      told = λ visible. brought.told (visible_after c.in_ok-number.ensures.goes_on visible) ∙ told.told visible;
      durable = brought.durable ∙ end;
      reproduced_is = brought.reproduced_is ∙ end;
      carries = carries_then Any _ _ _ _ _ _ _ _ _ told.carries brought.carries;
      home = home_then v w k.end m.end (g.M.Medium.sight (kept_medium k)) (g.M.Medium.sight (kept_medium m)) (g.M.Medium.sight (kept_medium c.reproduce_all.new.self)) c.in_ok-number.ensures.goes_on end told.carries brought.home;
    }
