use Rattle.std.proofs.Common.{ℕ, refl, sym, inl, subst, arith}
use Rattle.back_store.specs.BackView.{medium_of, state_of}
use Rattle.back_store.specs.Answers.{persist_calls}
use Rattle.log_numbered.specs.Arrays.{LeadsToLast}
use Rattle.log_numbered.specs.Backs.{CarriesOn, LeadsUpTo}
use Rattle.log_numbered.specs.BundleLog.{kept_back, kept_medium}
use Rattle.log_numbered.proofs.LedLogs.{durable_least, none_covers, ring_newest}
use Rattle.log_numbered.proofs.Persisting.{full_goes, full_leads, persist_failed, persist_recovers, persisted, persisted_goes, persisted_leads, was_full}
use Rattle.log_numbered.proofs.bundle_log.BundleLog.persist.Goals as goal

pub persist-requires : goal.persist-requires
persist-requires g c =
    let v = kept_back c.args.self.now in
    let next = c.requires.next in
    let first = next.first in
    let up = durable_least v c.args.self.now.end c.requires.alive in
    record {
      may = record {
        exists = next.ring_is;
        numbers = record { low = omega arith; high = next.small };
        newest = ring_newest v c.args.self.now.end c.requires.alive c.args.ring c.args.b.now first;
        over = omega arith;
        new = none_covers v c.args.self.now.end c.requires.alive c.args.b.now first;
        home = next.home;
      };
    }

pub returns-in-Ok-clause-goes_on : goal.returns-in-Ok-clause-goes_on
returns-in-Ok-clause-goes_on g c = persisted_goes (kept_back c.args.self.now) c.args.self.now.end _ c.requires.alive c.args.ring c.args.b.now c.requires.next.ring_is c.requires.next.first (state_of c.persist.new.self) (g.M.Medium.sight (medium_of c.persist.new.self)) c.in-Ok.ensures.extends.len c.in-Ok.ensures.state c.in-Ok.ensures.calls

pub returns-in-Ok-clause-alive : goal.returns-in-Ok-clause-alive
returns-in-Ok-clause-alive g c _ = subst (λ (n : ℕ). LeadsUpTo (state_of c.persist.new.self) n) (sym c.last-self.ensures)
    (persisted_leads (kept_back c.args.self.now) c.args.self.now.end (g.M.Medium.sight (kept_medium c.args.self.now)) c.requires.alive c.args.ring c.args.b.now c.requires.next.ring_is c.requires.next.first (state_of c.persist.new.self) (g.M.Medium.sight (medium_of c.persist.new.self)) c.in-Ok.ensures.extends.len c.in-Ok.ensures.state
    (λ full. let bad = c.in-Ok.ensures.cause.full.1 (c.requires.alive.alive, full) in absurd (cc)) c.requires.next.small c.requires.next.home)

pub returns-in-Ok-clause-persists : goal.returns-in-Ok-clause-persists
returns-in-Ok-clause-persists g c _ =
    let v = kept_back c.args.self.now in
    let s = g.M.Medium.sight (kept_medium c.args.self.now) in
    record {
      end = c.last-self.ensures;
      calls = (
        persist_calls v c.args.ring c.args.b.now,
        record {
          room = λ full. let bad = c.in-Ok.ensures.cause.full.1 (c.requires.alive.alive, full) in absurd (cc);
          back = c.in-Ok.ensures.state;
          calls_are = refl;
        },
        c.in-Ok.ensures.calls,
      );
      carries = subst (λ (n : ℕ). CarriesOn (λ a. LeadsToLast a c.args.self.now.end c.args.b.now) v c.args.self.now.end s (state_of c.persist.new.self) n (g.M.Medium.sight (medium_of c.persist.new.self))) (sym c.last-self.ensures)
          (persisted v c.args.self.now.end s c.requires.alive c.args.ring c.args.b.now c.requires.next.ring_is c.requires.next.first (state_of c.persist.new.self) (g.M.Medium.sight (medium_of c.persist.new.self)) c.in-Ok.ensures.extends.len c.in-Ok.ensures.state (returns-in-Ok-clause-goes_on g c) c.in-Ok.ensures.crash.keeps c.in-Ok.ensures.home_stays);
    }

pub returns-in-Ok-clause-moments : goal.returns-in-Ok-clause-moments
returns-in-Ok-clause-moments g c = persist_recovers (kept_back c.args.self.now) c.args.self.now.end _ c.requires.alive c.args.ring c.args.b.now c.requires.next.ring_is c.requires.next.first _ c.in-Ok.ensures.crash.moments

pub returns-in-Err-RingFull-clause-goes_on : goal.returns-in-Err-RingFull-clause-goes_on
returns-in-Err-RingFull-clause-goes_on g c = full_goes (kept_back c.args.self.now) c.args.self.now.end (g.M.Medium.sight (kept_medium c.args.self.now)) c.requires.alive c.args.ring c.args.b.now c.requires.next.ring_is c.requires.next.first (state_of c.persist.new.self) (g.M.Medium.sight (medium_of c.persist.new.self)) c.in-Err-RingFull.ensures.extends.len c.in-Err-RingFull.field-0 c.in-Err-RingFull.field-0-0 c.in-Err-RingFull.field-0-1 c.in-Err-RingFull.field-0-is c.in-Err-RingFull.ensures.state c.in-Err-RingFull.ensures.calls

pub returns-in-Err-RingFull-clause-alive : goal.returns-in-Err-RingFull-clause-alive
returns-in-Err-RingFull-clause-alive g c _ = full_leads (kept_back c.args.self.now) c.args.self.now.end (g.M.Medium.sight (kept_medium c.args.self.now)) c.requires.alive c.args.ring c.args.b.now c.requires.next.ring_is c.requires.next.first (state_of c.persist.new.self) (g.M.Medium.sight (medium_of c.persist.new.self)) c.in-Err-RingFull.ensures.extends.len c.in-Err-RingFull.field-0 c.in-Err-RingFull.field-0-0 c.in-Err-RingFull.field-0-1 c.in-Err-RingFull.field-0-is c.in-Err-RingFull.ensures.state c.in-Err-RingFull.ensures.calls

pub returns-in-Err-RingFull-clause-full : goal.returns-in-Err-RingFull-clause-full
returns-in-Err-RingFull-clause-full g c _ = was_full (kept_back c.args.self.now) c.args.self.now.end (g.M.Medium.sight (kept_medium c.args.self.now)) c.requires.alive c.args.ring c.args.b.now c.requires.next.ring_is c.requires.next.first (state_of c.persist.new.self) (g.M.Medium.sight (medium_of c.persist.new.self)) c.in-Err-RingFull.ensures.extends.len c.in-Err-RingFull.field-0 c.in-Err-RingFull.field-0-0 c.in-Err-RingFull.field-0-1 c.in-Err-RingFull.field-0-is c.in-Err-RingFull.ensures.state c.in-Err-RingFull.ensures.calls c.in-Err-RingFull.ensures.cause.only c.in-Err-RingFull.ensures.cause.full

pub returns-in-Err-RingFull-clause-moments : goal.returns-in-Err-RingFull-clause-moments
returns-in-Err-RingFull-clause-moments g c = persist_recovers (kept_back c.args.self.now) c.args.self.now.end _ c.requires.alive c.args.ring c.args.b.now c.requires.next.ring_is c.requires.next.first _ c.in-Err-RingFull.ensures.crash.moments

pub returns-in-Err-Device-clause-goes_on : goal.returns-in-Err-Device-clause-goes_on
returns-in-Err-Device-clause-goes_on g c = persist_failed (kept_back c.args.self.now) c.args.self.now.end _ c.requires.alive c.args.ring c.args.b.now c.requires.next.ring_is c.requires.next.first (state_of c.persist.new.self) (g.M.Medium.sight (medium_of c.persist.new.self)) c.in-Err-Device.ensures.extends.len c.in-Err-Device.field-0 (inl c.in-Err-Device.field-0-is) c.in-Err-Device.ensures.cause.dead c.in-Err-Device.ensures.state c.in-Err-Device.ensures.calls

pub returns-in-Err-Device-clause-moments : goal.returns-in-Err-Device-clause-moments
returns-in-Err-Device-clause-moments g c = persist_recovers (kept_back c.args.self.now) c.args.self.now.end _ c.requires.alive c.args.ring c.args.b.now c.requires.next.ring_is c.requires.next.first _ c.in-Err-Device.ensures.crash.moments
