use Rattle.std.proofs.Common.{◌≡◌, ◌+◌, ◌*◌, ◌<◌, [], ℕ, All, IsTrue, Option, Some, false, true, is_ok, refl, sym, ap, ◌∙◌, inl, subst, arith, rules}
use Rattle.dude_base.specs.declared.sizes.Sizes.{Sizes}
use Rattle.dude_base.specs.Records.{RedoBundle}
use Rattle.pmem_trait.specs.Sights.{state_now}
use Rattle.log_numbered.specs.declared.open_bundle.OpenBundle.{OpenBundle}
use Rattle.log_numbered.specs.BundleLog.{kept_back, kept_medium}
use Rattle.log_numbered.specs.Backs.{LogGoesOn}
use Rattle.back_store.specs.Operations.{Makes}
use Rattle.log_numbered.specs.Arrays.{with_writes}
use Rattle.log_numbered.specs.KeptBundles.{kept_bundles}
use Rattle.log_numbered.specs.Keeping.{KeepsOn}
use Rattle.log_numbered.specs.LogCalls.{ClosedBy}
use Rattle.log_numbered.specs.RunLog.{FollowsOn, HasRoom, IsAlive, RecoversOn, log_back, log_end, log_medium, log_open, log_parts, log_sizes}
use Rattle.log_numbered.proofs.Appending.{begun_alive, begun_follows, calls_here, goes_here, joined_alive, joined_follows, recovers_more_on, recovers_still}
use Rattle.log_numbered.proofs.Keeping.{ends_still, keeps_begun, keeps_failed, keeps_joined}
use Rattle.log_numbered.proofs.LoggedCalls.{begun_calls}
use Rattle.log_numbered.proofs.run_log.RunLog.append.Goals as goal

pub returns-then-joins-clause-goes_on : goal.returns-then-joins-clause-goes_on
returns-then-joins-clause-goes_on g c = goes_here c.args.self.now (record c.joins.new.self { last = c.joins.new.self.last + 1 }) (g.M.Medium.sight (log_medium c.args.self.now)) _ c.joins.ensures.log (ap (λ x. g.M.Medium.sight (kept_medium x)) c.joins.ensures.log)

pub returns-then-joins-clause-alive : goal.returns-then-joins-clause-alive
returns-then-joins-clause-alive g c _ =
    let j = c.joins.ensures.joined c.if-joins.true in
    joined_alive c.args.self.now (record c.joins.new.self { last = c.joins.new.self.last + 1 }) (g.M.Medium.sight (log_medium c.args.self.now)) _ c.joins.ensures.log (ap (λ x. g.M.Medium.sight (kept_medium x)) c.joins.ensures.log) c.args.r.now j.0 j.1 j.2 j.3 (ap (λ (n : ℕ). n + 1) c.joins.ensures.last) c.joins.ensures.writes c.requires.alive c.requires.next.small c.requires.next.home

pub returns-then-joins-clause-appends : goal.returns-then-joins-clause-appends
returns-then-joins-clause-appends g c = record {
  last = (
      ap (λ (n : ℕ). n + 1) c.joins.ensures.last
      );
  calls = (
      let j = c.joins.ensures.joined c.if-joins.true in (
        [],
        inl (record { joined = j.0; was = j.1; joins = j.2; now = j.3; back = ap (λ x. kept_back x) c.joins.ensures.log; calls_are = refl }),
        calls_here c.args.self.now (record c.joins.new.self { last = c.joins.new.self.last + 1 }) (g.M.Medium.sight (log_medium c.args.self.now)) _ c.joins.ensures.log (ap (λ x. g.M.Medium.sight (kept_medium x)) c.joins.ensures.log),
      )
      );
  untold = λ room visible. (
      ap (λ x. (state_now (g.M.Medium.sight (kept_medium x))).told) c.joins.ensures.log
      );
  follows = (
      let j = c.joins.ensures.joined c.if-joins.true in
      joined_follows c.args.self.now (record c.joins.new.self { last = c.joins.new.self.last + 1 }) (g.M.Medium.sight (log_medium c.args.self.now)) _ c.joins.ensures.log (ap (λ x. g.M.Medium.sight (kept_medium x)) c.joins.ensures.log) c.args.r.now j.0 j.1 j.2 j.3 (ap (λ (n : ℕ). n + 1) c.joins.ensures.last) c.joins.ensures.writes c.requires.alive
      );
}

pub returns-then-joins-clause-moments : goal.returns-then-joins-clause-moments
returns-then-joins-clause-moments g c = recovers_still c.args.self.now (g.M.Medium.sight (log_medium c.args.self.now)) _ c.args.r.now.writes (ap (λ x. g.M.Medium.sight (kept_medium x)) c.joins.ensures.log) c.requires.alive c.args.self.now.log.back.room

pub returns-then-joins-clause-keeps : goal.returns-then-joins-clause-keeps
returns-then-joins-clause-keeps g c =
    let j = c.joins.ensures.joined c.if-joins.true in
    let ks = kept_bundles c.args.kept.now in
    record {
      kept = refl;
      all = λ kept a keeps. keeps_joined c.args.self.now (record c.joins.new.self { last = c.joins.new.self.last + 1 }) j.0 c.args.r.now a ks ks c.joins.ensures.writes c.joins.ensures.log j.1 j.3 (ap (λ (n : ℕ). n + 1) c.joins.ensures.last) refl keeps;
    }

-- ---- where it didn't join

pub close-requires : goal.close-requires
close-requires g c = record { alive = subst (λ k. IsAlive k) (sym (c.joins.ensures.stays c.if-joins.false)) c.requires.alive; room = c.requires.room }

pub returns-in_err-close-clause-goes_on : goal.returns-in_err-close-clause-goes_on
returns-in_err-close-clause-goes_on g c =
    let err : is_ok c.from_residual.result ≡ false = search rules in
    rw err (subst (λ k. LogGoesOn false (log_back k) (g.M.Medium.sight (log_medium k)) (log_back c.close.new.self) (g.M.Medium.sight (log_medium c.close.new.self))) (c.joins.ensures.stays c.if-joins.false) c.in_err-close.ensures.goes_on)

pub returns-in_err-close-clause-moments : goal.returns-in_err-close-clause-moments
returns-in_err-close-clause-moments g c =
    recovers_more_on c.args.r.now.writes c.args.self.now _ _ (subst (λ k. RecoversOn (λ a. a) k (g.M.Medium.sight (log_medium k)) (g.M.Medium.sight (log_medium c.close.new.self))) (c.joins.ensures.stays c.if-joins.false) c.close.ensures.moments)

pub returns-in_err-close-clause-keeps : goal.returns-in_err-close-clause-keeps
returns-in_err-close-clause-keeps g c =
    let err : is_ok c.from_residual.result ≡ false = search rules in
    rw err (keeps_failed c.args.r.now.writes c.args.self.now c.close.new.self c.args.kept.now c.close.new.kept
    (subst (λ k. KeepsOn false (λ a. a) k c.args.kept.now c.close.new.self c.close.new.kept) (c.joins.ensures.stays c.if-joins.false) c.in_err-close.ensures.keeps))

pub returns-in_err-close-clause-ends : goal.returns-in_err-close-clause-ends
returns-in_err-close-clause-ends g c _ =
    ends_still (with_writes c.args.r.now.writes) c.args.self.now c.close.new.self (g.M.Medium.sight (log_medium c.args.self.now)) (g.M.Medium.sight (log_medium c.close.new.self))
    (c.in_err-close.ensures.end refl ∙ ap (λ k. log_end k) (c.joins.ensures.stays c.if-joins.false)) (returns-in_err-close-clause-moments g c)

pub returns-clause-goes_on : goal.returns-clause-goes_on
returns-clause-goes_on g c =
    subst (λ k. LogGoesOn true (log_back k) (g.M.Medium.sight (log_medium k)) (log_back c.close.new.self) (g.M.Medium.sight (log_medium c.close.new.self))) (c.joins.ensures.stays c.if-joins.false) c.in_ok-close.ensures.goes_on

pub returns-clause-alive : goal.returns-clause-alive
returns-clause-alive g c _ =
    let last : c.close.new.self.last ≡ c.args.self.now.last = c.close.ensures.last ∙ c.joins.ensures.last in
    let sizes : log_sizes c.close.new.self ≡ log_sizes c.args.self.now = c.in_ok-close.ensures.goes_on.sizes ∙ ap (λ x. (kept_back x).log.sizes) c.joins.ensures.log in
    let now = ap (λ (b : RedoBundle). (let o : Option OpenBundle = Some (record { ring = c.args.ring; bundle = b }) in o)) c.one-bundle.ensures in
    begun_alive c.close.new.self (record { log = c.close.new.self.log; last = c.close.new.self.last + 1; current = Some (record { ring = c.args.ring; bundle = c.one-bundle.result }) }) c.args.ring c.args.r.now refl c.in_ok-close.ensures.closes.none_open now (c.requires.next.number ∙ ap (λ (n : ℕ). n + 1) (sym last)) refl c.joins.ensures.writes (c.in_ok-close.ensures.alive refl)
    (let small = c.requires.next.small in omega arith) (subst (λ (z : Sizes). c.args.ring < z.rings) (sym sizes) c.requires.next.ring_is) (subst (λ (z : Sizes). All (λ w. w.at < z.pages * 64) c.args.r.now.writes) (sym sizes) c.requires.next.home)

pub returns-clause-appends : goal.returns-clause-appends
returns-clause-appends g c = record {
  last = (
      ap (λ (n : ℕ). n + 1) (c.close.ensures.last ∙ c.joins.ensures.last)
      );
  calls = (
      let same = c.joins.ensures.stays c.if-joins.false in
      let now = ap (λ (b : RedoBundle). (let o : Option OpenBundle = Some (record { ring = c.args.ring; bundle = b }) in o)) c.one-bundle.ensures in
      begun_calls c.args.ring c.args.r.now (log_parts c.args.self.now) (log_parts (record { log = c.close.new.self.log; last = c.close.new.self.last + 1; current = Some (record { ring = c.args.ring; bundle = c.one-bundle.result }) })) _ _ (c.joins.ensures.apart c.if-joins.false)
      (subst (λ k. Makes (ClosedBy (log_open k) (log_back k) (log_back c.close.new.self)) (g.M.Medium.sight (log_medium k)) (g.M.Medium.sight (log_medium c.close.new.self))) same c.in_ok-close.ensures.closes.calls) now
      );
  untold = (
      subst (λ k. HasRoom k → IsTrue (g.M.Medium.sight (log_medium k)).is_visible → (state_now (g.M.Medium.sight (log_medium c.close.new.self))).told ≡ (state_now (g.M.Medium.sight (log_medium k))).told) (c.joins.ensures.stays c.if-joins.false) c.in_ok-close.ensures.closes.untold
      );
  follows = (
      let same = c.joins.ensures.stays c.if-joins.false in
      let last : c.close.new.self.last ≡ c.args.self.now.last = c.close.ensures.last ∙ c.joins.ensures.last in
      let now = ap (λ (b : RedoBundle). (let o : Option OpenBundle = Some (record { ring = c.args.ring; bundle = b }) in o)) c.one-bundle.ensures in
      begun_follows c.close.new.self (record { log = c.close.new.self.log; last = c.close.new.self.last + 1; current = Some (record { ring = c.args.ring; bundle = c.one-bundle.result }) }) c.args.ring c.args.r.now refl c.in_ok-close.ensures.closes.none_open now (c.requires.next.number ∙ ap (λ (n : ℕ). n + 1) (sym last)) refl c.joins.ensures.writes (c.in_ok-close.ensures.alive refl) c.args.self.now _ _
      (subst (λ k. FollowsOn (λ a. a) k (g.M.Medium.sight (log_medium k)) c.close.new.self (g.M.Medium.sight (log_medium c.close.new.self))) same c.in_ok-close.ensures.closes.follows)
      );
}

pub returns-clause-moments : goal.returns-clause-moments
returns-clause-moments g c =
    recovers_more_on c.args.r.now.writes c.args.self.now _ _ (subst (λ k. RecoversOn (λ a. a) k (g.M.Medium.sight (log_medium k)) (g.M.Medium.sight (log_medium c.close.new.self))) (c.joins.ensures.stays c.if-joins.false) c.close.ensures.moments)

pub returns-clause-keeps : goal.returns-clause-keeps
returns-clause-keeps g c =
    let last : c.close.new.self.last ≡ c.args.self.now.last = c.close.ensures.last ∙ c.joins.ensures.last in
    let now = ap (λ (b : RedoBundle). (let o : Option OpenBundle = Some (record { ring = c.args.ring; bundle = b }) in o)) c.one-bundle.ensures in
    let closed : KeepsOn true (λ a. a) c.args.self.now c.args.kept.now c.close.new.self c.close.new.kept =
    subst (λ k. KeepsOn true (λ a. a) k c.args.kept.now c.close.new.self c.close.new.kept) (c.joins.ensures.stays c.if-joins.false) c.in_ok-close.ensures.keeps in
    record {
      kept = closed.kept;
      all = λ kept a keeps.
          keeps_begun c.close.new.self (record { log = c.close.new.self.log; last = c.close.new.self.last + 1; current = Some (record { ring = c.args.ring; bundle = c.one-bundle.result }) }) c.args.ring c.args.r.now a (kept_bundles c.close.new.kept) refl c.in_ok-close.ensures.closes.none_open now
          (c.requires.next.number ∙ ap (λ (n : ℕ). n + 1) (sym last)) refl (closed.all kept a keeps);
    }
