use Rattle.std.proofs.Common.{◌≡◌, ◌⊎◌, Err, append-nil, refl, sym, ap, ◌∙◌, subst, ⊎_elim}
use Rattle.pmem_trait.specs.Sights.{state_now}
use Rattle.log_ring.specs.Ring.{next_head}
use Rattle.back_store.specs.Lanes.{lane_at}
use Rattle.back_store.specs.Answers.{persist_calls, with_record}
use Rattle.back_store.specs.Back.{BackState}
use Rattle.back_store.specs.BackView.{sight_of, state_of}
use Rattle.back_store.specs.declared.back_fault.BackFault.TheVariants.{Device, Dead}
use Rattle.back_store.proofs.NoTells.{append_tells_nothing, told_same}
use Rattle.dude_follow.specs.Applying.{WaitsAlone}
use Rattle.dude_follow.proofs.Applying.{array_stays, failed_so, may_wait, persist_moments, persist_ran, room_for, waits_alone, went_wrong}
use Rattle.dude_follow.proofs.replica.persist.Goals as goal

pub persist-requires : goal.persist-requires
persist-requires g c = record { may = may_wait (state_of c.args.back.now) c.args.b.now c.requires.rests c.requires.packet c.requires.next }

pub unreachable-requires : goal.unreachable-requires
unreachable-requires g c =
    let e = c.in-Err-RingFull.ensures in
    let is = c.in-Err-RingFull.field-0-is in
    ⊎_elim
    (λ full. room_for (state_of c.args.back.now) c.args.b.now c.requires.rests c.requires.packet c.requires.next (e.cause.full.0 (ap Err full)).1)
    (λ others. ⊎_elim (λ device. let both = sym is ∙ device in cc) (λ dead. let both = sym is ∙ dead in cc) others)
    e.cause.only

pub returns-in-Ok-clause-persists : goal.returns-in-Ok-clause-persists
returns-in-Ok-clause-persists g c =
    let v = state_of c.args.back.now in
    let w = state_of c.persist.new.self in
    let s = sight_of c.args.back.now in
    let t = sight_of c.persist.new.self in
    let b = c.args.b.now in
    let ok = c.in-Ok.ensures in
    record {
      waits = subst (WaitsAlone b) (sym ok.state) (waits_alone v b c.requires.rests c.requires.packet c.requires.next);
      number = ap (λ (x : BackState). x.log.reproduced) ok.state;
      overwrites = array_stays v w s t c.requires.rests.alive ok.extends (ap (λ (x : BackState). x.log.sizes) ok.state) ok.crash.keeps ok.home_stays;
      told = λ visible. told_same ok.calls (append_tells_nothing v.log.sizes (next_head (lane_at v.log.lanes 0).ring) b) visible ∙ sym (append-nil (state_now s).told);
      calls = (
        persist_calls v 0 b,
        record { room = room_for v b c.requires.rests c.requires.packet c.requires.next; back = ok.state; calls_are = refl },
        ok.calls,
      );
    }

pub returns-in-Ok-clause-moments : goal.returns-in-Ok-clause-moments
returns-in-Ok-clause-moments g c = persist_moments (state_of c.args.back.now) c.args.b.now (sight_of c.args.back.now) (sight_of c.persist.new.self) c.requires.rests
    (waits_alone (state_of c.args.back.now) c.args.b.now c.requires.rests c.requires.packet c.requires.next) c.in-Ok.ensures.crash.moments

pub returns-in-Err : goal.returns-in-Err
returns-in-Err g c =
    let e = c.in-Err.ensures in
    let fault = c.in-Err.field-0 in
    let v = state_of c.args.back.now in
    let w = state_of c.persist.new.self in
    let s = sight_of c.args.back.now in
    let t = sight_of c.persist.new.self in
    let b = c.args.b.now in
    let which : (fault ≡ Device) ⊎ (fault ≡ Dead) = ⊎_elim
    (λ full. absurd (room_for v b c.requires.rests c.requires.packet c.requires.next (e.cause.full.0 (ap Err full)).1))
    (λ others. others)
    e.cause.only in
    let so = failed_so fault v w (λ done. with_record 0 b v) which e.cause.dead c.requires.rests.alive e.state in
    record {
      goes_on = went_wrong v w s t e.extends so.1 (e.cause.device (ap Err so.0)) (persist_ran fault (persist_calls v 0 b) s t so.0 e.calls);
      persists = tt;
      number = ap (λ (x : BackState). x.log.reproduced) so.1;
      moments = persist_moments v b s t c.requires.rests (waits_alone v b c.requires.rests c.requires.packet c.requires.next) e.crash.moments;
    }
