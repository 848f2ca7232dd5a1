use Rattle.std.proofs.Common.{◌≡◌, ap, ◌∙◌, subst}
use Rattle.std.specs.Prelude.{Err, Result}
use Rattle.back_store.specs.Answers.{after_persist}
use Rattle.back_store.specs.BackView.{sight_of, state_of}
use Rattle.back_store.specs.declared.back_fault.BackFault.{BackFault}
use Rattle.stm_slots.specs.Calls.{IsKnownBy, handed}
use Rattle.run_threads.specs.Ending.{since}
use Rattle.run_threads.proofs.Handing.{died_handing, full_hand, handed_on, may_hand, new_records, same_under}
use Rattle.run_threads.proofs.persisting.persist.Goals as goal

pub persist-requires : goal.persist-requires
persist-requires g c =
    let old = c.args.back.now in let h = c.requires.may in
    record { may = may_hand h.may.ending h.rest h.from (state_of old) (sight_of old) h.may.under c.args.taken.now h.bundled }

pub returns-in-Ok-clause-hands : goal.returns-in-Ok-clause-hands
returns-in-Ok-clause-hands g c =
    let old = c.args.back.now in let new = c.persist.new.back in let o = c.args.taken.now in
    λ rest from b e u.
    handed_on e rest from (state_of old) (sight_of old) u o b (state_of new) (sight_of new) c.in-Ok.ensures.state
    (c.in-Ok.ensures.known (since e) u.records b.records b.joins (new_records e rest from (state_of old) (sight_of old) u o b) u.known.known)

pub returns-in-Err-RingFull-clause-hands : goal.returns-in-Err-RingFull-clause-hands
returns-in-Err-RingFull-clause-hands g c =
    let old = c.args.back.now in let new = c.persist.new.back in let o = c.args.taken.now in let h = c.requires.may in let p = c.persist.ensures in
    let arm = c.in-Err-RingFull in let full = arm.is ∙ ap (λ f. Err f) arm.field-0-is in
    let was = full_hand h.may.ending h.rest h.from (state_of old) (sight_of old) h.may.under o h.bundled c.persist.result arm.field-0-0 arm.field-0-1 full (state_of new) p.state p.cause.only p.cause.full in record {
      stays = λ rest from b e u.
          same_under e rest from (state_of old) (state_of new) (sight_of old) (sight_of new) u was.0
          (subst (λ (r : Result (Unit {0}) BackFault). IsKnownBy (since e) (handed r b.records u.records) new) full
          (p.known (since e) u.records b.records b.joins (new_records e rest from (state_of old) (sight_of old) u o b) u.known.known));
      late = was.1;
    }

pub returns-in-Err-Device-clause-err : goal.returns-in-Err-Device-clause-err
returns-in-Err-Device-clause-err g c =
    let old = c.args.back.now in let new = c.persist.new.back in let o = c.args.taken.now in let p = c.persist.ensures in
    let arm = c.in-Err-Device in let failed = arm.is ∙ ap (λ f. Err f) arm.field-0-is in
    λ rest from b e u.
    died_handing e rest from (state_of old) (sight_of old) u o b (state_of new) (sight_of new)
    (subst (λ (r : Result (Unit {0}) BackFault). state_of new ≡ after_persist r o.ring o.bundle (state_of old)) failed p.state)
    (subst (λ (r : Result (Unit {0}) BackFault). IsKnownBy (since e) (handed r b.records u.records) new) failed
    (p.known (since e) u.records b.records b.joins (new_records e rest from (state_of old) (sight_of old) u o b) u.known.known))
