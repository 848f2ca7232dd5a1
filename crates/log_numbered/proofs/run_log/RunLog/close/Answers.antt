use Rattle.std.proofs.Common.{◌≡◌, ℕ, ◌≤◌, [], None, Option, Some, refl, sym, ◌∙◌, subst}
use Rattle.dude_base.specs.declared.limits.TheConstants.{MAX_NUMBER}
use Rattle.pmem_trait.specs.Sights.{CallsMade.none}
use Rattle.log_numbered.specs.declared.open_bundle.OpenBundle.{OpenBundle}
use Rattle.log_numbered.specs.Arrays.{LeadsToLast}
use Rattle.log_numbered.specs.Backs.{Any}
use Rattle.log_numbered.specs.BundleLog.{kept_back, kept_medium}
use Rattle.log_numbered.specs.KeptBundles.{kept_bundles}
use Rattle.back_store.specs.Operations.{Makes}
use Rattle.log_numbered.specs.LogCalls.{ClosedBy}
use Rattle.log_numbered.specs.RunLog.{log_back, log_end, log_last, log_medium, log_open}
use Rattle.log_numbered.proofs.Appending.{goes_here}
use Rattle.log_numbered.proofs.Closing.{closed_alive, closed_follows, leads_to, none_end, opened, recovers_closing}
use Rattle.log_numbered.proofs.GoingOn.{recovers_here}
use Rattle.log_numbered.proofs.Keeping.{bundles_kept, keeps_closed, keeps_same}
use Rattle.log_numbered.proofs.run_log.RunLog.close.Goals as goal

pub append-requires-clause-alive : goal.append-requires-clause-alive
append-requires-clause-alive g c = c.requires.alive.leads

pub append-requires-clause-next : goal.append-requires-clause-next
append-requires-clause-next g c =
    let at = opened c.args.self.now c.in-Some.closed c.requires.alive (sym c.take.ensures.value ∙ c.in-Some.is) in
    record {
      ring_is = at.ring;
      first = at.first;
      small = subst (λ (n : ℕ). n ≤ MAX_NUMBER) (sym at.last_is) c.requires.alive.small;
      home = at.home;
    }

pub append-requires-clause-short : goal.append-requires-clause-short
append-requires-clause-short g c = (opened c.args.self.now c.in-Some.closed c.requires.alive (sym c.take.ensures.value ∙ c.in-Some.is)).short

pub returns-in_ok-append-in-Some-clause-closes : goal.returns-in_ok-append-in-Some-clause-closes
returns-in_ok-append-in-Some-clause-closes g c =
    let k = c.args.self.now in
    let n = c.append.new.self in
    let l = record c.args.self.now { log = c.append.new.self; current = c.take.new.self } in
    let o : OpenBundle = c.in-Some.closed in
    let s = g.M.Medium.sight (log_medium k) in
    let t = g.M.Medium.sight (kept_medium n) in
    let is : log_open k ≡ Some o = sym c.take.ensures.value ∙ c.in-Some.is in
    let at = opened k o c.requires.alive is in
    let a = c.in_ok-append-in-Some.ensures.appends in
    record {
      end = a.end ∙ at.last_is;
      none_open = c.take.ensures.after;
      calls = subst (λ (x : Option OpenBundle). Makes (ClosedBy x (log_back k) (kept_back n)) s t) (sym is) a.calls;
      untold = λ room visible. a.untold (room o is) visible;
      follows = closed_follows k l s t (λ a. LeadsToLast a (log_end k) o.bundle) (λ before a f. leads_to before a k s o f is) a.carries (a.end ∙ at.last_is) refl c.take.ensures.after;
    }

pub returns-in_ok-append-in-Some-clause-keeps : goal.returns-in_ok-append-in-Some-clause-keeps
returns-in_ok-append-in-Some-clause-keeps g c =
    let k = c.args.self.now in
    let l = record c.args.self.now { log = c.append.new.self; current = c.take.new.self } in
    let o : OpenBundle = c.in-Some.closed in
    let is : log_open k ≡ Some o = sym c.take.ensures.value ∙ c.in-Some.is in
    record {
      kept = c.keep.ensures.kept;
      all = λ kept a keeps. keeps_closed k l o a (kept_bundles c.args.kept.now) (kept_bundles c.keep.new.self) c.requires.alive is c.in_ok-append-in-Some.ensures.goes_on.sizes refl c.in_ok-append-in-Some.ensures.appends.end c.take.ensures.after
          (c.keep.ensures.bundles ∙ bundles_kept c.args.kept.now o.bundle kept) keeps;
    }

-- ---- where none is open

pub returns-in-None-clause-goes_on : goal.returns-in-None-clause-goes_on
returns-in-None-clause-goes_on g c = goes_here c.args.self.now (record c.args.self.now { current = c.take.new.self }) (g.M.Medium.sight (log_medium c.args.self.now)) (g.M.Medium.sight (log_medium c.args.self.now)) refl refl

pub returns-in-None-clause-alive : goal.returns-in-None-clause-alive
returns-in-None-clause-alive g c _ =
    closed_alive (record c.args.self.now { current = c.take.new.self }) (log_last c.args.self.now) c.requires.alive.leads (none_end c.args.self.now c.requires.alive (sym c.take.ensures.value ∙ c.in-None.is)) refl c.take.ensures.after

pub returns-in-None-clause-closes : goal.returns-in-None-clause-closes
returns-in-None-clause-closes g c =
    let k = c.args.self.now in
    let s = g.M.Medium.sight (log_medium k) in
    let none_is : log_open k ≡ None = sym c.take.ensures.value ∙ c.in-None.is in
    let end = none_end k c.requires.alive none_is in
    record {
      end = end;
      none_open = c.take.ensures.after;
      calls = ([], subst (λ (x : Option OpenBundle). ClosedBy x (log_back k) (log_back k) []) (sym none_is) (refl, refl), none);
      untold = λ room visible. refl;
      follows = closed_follows k (record c.args.self.now { current = c.take.new.self }) s s Any (λ before a f. tt) (λ before a any is. is) end refl c.take.ensures.after;
    }

pub returns-in-None-clause-moments : goal.returns-in-None-clause-moments
returns-in-None-clause-moments g c =
    let k = c.args.self.now in
    recovers_closing k (g.M.Medium.sight (log_medium k)) (g.M.Medium.sight (log_medium k)) Any (λ before a f. tt) (recovers_here (log_back k) (log_end k) (g.M.Medium.sight (log_medium k)) c.args.self.now.log.back.room c.requires.alive.leads)

pub returns-in-None-clause-keeps : goal.returns-in-None-clause-keeps
returns-in-None-clause-keeps g c =
    let k = c.args.self.now in
    let ks = kept_bundles c.args.kept.now in
    let same : c.take.new.self ≡ log_open k = c.take.ensures.after ∙ sym c.in-None.is ∙ c.take.ensures.value in
    record { kept = refl; all = λ kept a keeps. keeps_same k (record c.args.self.now { current = c.take.new.self }) a ks ks refl refl refl same refl keeps }
