use Rattle.std.proofs.Common.{◌≡◌, ◌+◌, ◌*◌, ◌<◌, ◌≤◌, All, ℕ, true, false, is_ok, length, ap, sym, ◌∙◌, subst, inl, rules}
use Rattle.dude_base.specs.declared.sizes.Sizes.{Sizes}
use Rattle.redo_record.specs.Record.{cells_for}
use Rattle.log_numbered.specs.Arrays.{LeadsToLast}
use Rattle.log_numbered.specs.Backs.{Any, CarriesOn, LogGoesOn, RecoversAlong}
use Rattle.log_numbered.specs.BundleLog.{AppendsNext, PersistsNext, kept_back, kept_medium}
use Rattle.back_store.specs.Operations.{Makes}
use Rattle.log_numbered.specs.LogCalls.{SettledBy, settled}
use Rattle.log_numbered.proofs.GoingOn.{carries_then, goes_then, on_ok, recovers_any, recovers_then}
use Rattle.log_numbered.proofs.LoggedCalls.{appended_behind, persisted_untold, settled_same}
use Rattle.log_numbered.proofs.Persisting.{carries_full}
use Rattle.log_numbered.proofs.bundle_log.BundleLog.append.Goals as goal

pub returns-then-branch-clause-appends : goal.returns-then-branch-clause-appends
returns-then-branch-clause-appends g c =
    let p = c.in_ok-persist.ensures.persists c.if-branch.true in
    record {
      end = p.end;
      calls = (p.calls.0, inl p.calls.1, p.calls.2);
      untold = λ _ visible. persisted_untold c.args.ring c.args.b.now (kept_back c.args.self.now) (kept_back c.persist.new.self) _ _ p.calls visible;
      carries = p.carries;
    }

pub persist_alone-requires-clause-next : goal.persist_alone-requires-clause-next
persist_alone-requires-clause-next g c =
    let next = c.requires.next in
    let sizes = c.in_ok-checkpoint.ensures.goes_on.sizes ∙ c.in_ok-persist.ensures.goes_on.sizes in
    let same = c.checkpoint.ensures.end ∙ (c.in_ok-persist.ensures.full c.if-branch.false).end_stays in
    record {
      ring_is = subst (λ (z : Sizes). c.args.ring < z.rings) (sym sizes) next.ring_is;
      first = next.first ∙ ap (λ (n : ℕ). n + 1) (sym same);
      small = next.small;
      home = subst (λ (z : Sizes). All (λ w. w.at < z.pages * 64) c.args.b.now.writes) (sym sizes) next.home;
    }

pub persist_alone-requires-clause-alone : goal.persist_alone-requires-clause-alone
persist_alone-requires-clause-alone g c = c.in_ok-checkpoint.ensures.checkpoints.reproduced_is ∙ sym c.checkpoint.ensures.end

pub persist_alone-requires-clause-short : goal.persist_alone-requires-clause-short
persist_alone-requires-clause-short g c =
    subst (λ (z : Sizes). cells_for (length c.args.b.now.writes) ≤ z.cells) (sym (c.in_ok-checkpoint.ensures.goes_on.sizes ∙ c.in_ok-persist.ensures.goes_on.sizes)) c.requires.short

pub returns-in_err-checkpoint-clause-goes_on : goal.returns-in_err-checkpoint-clause-goes_on
returns-in_err-checkpoint-clause-goes_on g c = let err : is_ok c.from_residual-in_err-checkpoint.result ≡ false = search rules in rw err (goes_then _ _ _ _ _ _ c.in_ok-persist.ensures.goes_on c.in_err-checkpoint.ensures.goes_on)

pub returns-in_err-checkpoint-clause-moments : goal.returns-in_err-checkpoint-clause-moments
returns-in_err-checkpoint-clause-moments g c =
    let full = c.in_ok-persist.ensures.full c.if-branch.false in
    recovers_then (λ a. LeadsToLast a c.args.self.now.end c.args.b.now) (kept_back c.args.self.now) (kept_back c.persist.new.self) c.args.self.now.end c.persist.new.self.end _ _ _ c.in_ok-persist.ensures.goes_on.sizes full.end_stays
    (carries_full (kept_back c.args.self.now) (kept_back c.persist.new.self) c.args.self.now.end c.persist.new.self.end _ _ full) c.in_ok-persist.ensures.moments
    (recovers_any (λ a. LeadsToLast a c.args.self.now.end c.args.b.now) _ _ _ _ c.in_err-checkpoint.ensures.moments)

pub returns-clause-goes_on : goal.returns-clause-goes_on
returns-clause-goes_on g c =
    let first : LogGoesOn true (kept_back c.args.self.now) (g.M.Medium.sight (kept_medium c.args.self.now)) (kept_back c.checkpoint.new.self) (g.M.Medium.sight (kept_medium c.checkpoint.new.self)) = goes_then _ _ _ _ _ _ c.in_ok-persist.ensures.goes_on c.in_ok-checkpoint.ensures.goes_on in
    goes_then _ _ _ _ _ _ first c.persist_alone.ensures.goes_on

pub returns-clause-moments : goal.returns-clause-moments
returns-clause-moments g c =
    let full = c.in_ok-persist.ensures.full c.if-branch.false in
    let v = kept_back c.args.self.now in
    let u = kept_back c.persist.new.self in
    let w = kept_back c.checkpoint.new.self in
    let end = c.args.self.now.end in
    let same : c.checkpoint.new.self.end ≡ end = c.checkpoint.ensures.end ∙ full.end_stays in
    let last : RecoversAlong (λ a. LeadsToLast a c.args.self.now.end c.args.b.now) w c.checkpoint.new.self.end (g.M.Medium.sight (kept_medium c.checkpoint.new.self)) (g.M.Medium.sight (kept_medium c.persist_alone.new.self)) =
    subst (λ (n : ℕ). RecoversAlong (λ a. LeadsToLast a n c.args.b.now) w c.checkpoint.new.self.end (g.M.Medium.sight (kept_medium c.checkpoint.new.self)) (g.M.Medium.sight (kept_medium c.persist_alone.new.self))) same c.persist_alone.ensures.moments in
    recovers_then (λ a. LeadsToLast a c.args.self.now.end c.args.b.now) v u end c.persist.new.self.end _ _ _ c.in_ok-persist.ensures.goes_on.sizes full.end_stays (carries_full v u end c.persist.new.self.end _ _ full) c.in_ok-persist.ensures.moments
    (recovers_then (λ a. LeadsToLast a c.args.self.now.end c.args.b.now) u w c.persist.new.self.end c.checkpoint.new.self.end _ _ _ c.in_ok-checkpoint.ensures.goes_on.sizes c.checkpoint.ensures.end c.in_ok-checkpoint.ensures.checkpoints.carries (recovers_any (λ a. LeadsToLast a c.args.self.now.end c.args.b.now) _ _ _ _ c.in_ok-checkpoint.ensures.moments) last)

pub returns-clause-appends : goal.returns-clause-appends
returns-clause-appends g c =
    let full = c.in_ok-persist.ensures.full c.if-branch.false in
    let k = c.args.self.now in
    let m = c.checkpoint.new.self in
    let l = c.persist_alone.new.self in
    let b = c.args.b.now in
    let v = kept_back k in
    let w = kept_back m in
    let x = kept_back l in
    let before = g.M.Medium.sight (kept_medium k) in
    let between = g.M.Medium.sight (kept_medium m) in
    let after = g.M.Medium.sight (kept_medium l) in
    let made = c.in_ok-checkpoint.ensures.checkpoints in
    let same : m.end ≡ k.end = c.checkpoint.ensures.end ∙ full.end_stays in
    let back : w ≡ settled v k.end = made.back ∙ ap (λ n. settled (kept_back c.persist.new.self) n) full.end_stays ∙ ap (λ u. settled u k.end) full.back in
    let settling : Makes (SettledBy v k.end) before between = settled_same (kept_back c.persist.new.self) v c.persist.new.self.end k.end _ before between full.back full.end_stays full.sight made.calls in
    let first : CarriesOn Any v k.end before w m.end between = carries_then Any _ _ _ _ _ _ _ _ _ (carries_full v (kept_back c.persist.new.self) k.end c.persist.new.self.end _ _ full) made.carries in
    on_ok {P = PersistsNext c.args.ring b m l} {Q = AppendsNext c.args.ring b k l} c.persist_alone.result
    (λ p. record {
      end = p.end;
      calls = appended_behind c.args.ring b v w x k.end before between after full.full c.requires.next.first back settling p.calls;
      untold = λ room visible. absurd (room full.full);
      carries = carries_then (λ a. LeadsToLast a k.end b) v w x k.end m.end l.end before between after first (subst (λ (n : ℕ). CarriesOn (λ a. LeadsToLast a n b) w m.end between x l.end after) same p.carries);
    })
    c.persist_alone.ensures.persists
