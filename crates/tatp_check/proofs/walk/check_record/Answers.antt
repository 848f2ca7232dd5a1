use Rattle.std.proofs.Common.{arith, refl, sym, ◌∙◌}
use Rattle.std.proofs.lemmas.Bool.{false≢true}
use Rattle.tatp_check.proofs.Judged.{wrong_front, wrong_behind, takes_sound}
use Rattle.tatp_check.proofs.PoolSteps.{word_inside}
use Rattle.tatp_check.proofs.walk.check_record.Goals.{then-not-allows-via-then-not-allows, then-not-allows-via-else-not-allows+then-key-table, then-not-allows-via-else-not-allows+else-key-table+in_ok-take+then-not-branch}
use Rattle.tatp_check.proofs.walk.check_record.Goals as goal

pub offset_bounds-a-at : goal.offset_bounds-a-at
offset_bounds-a-at g c = omega (arith, word_inside 0 c.requires.fits.pool c.requires.place (omega (arith, c.requires.fits.pool.size)))

pub bounds-a-at : goal.bounds-a-at
bounds-a-at g c = omega (arith, word_inside 0 c.requires.fits.pool c.requires.place (omega (arith, c.requires.fits.pool.size)))

pub returns-then-not-allows-clause-fault : goal.returns-then-not-allows-clause-fault
returns-then-not-allows-clause-fault g c = λ met taken new.
    wrong_front _ _ _ _ _ met new (omega (arith, c.requires.fits.pool.size))
    (elim c.then-not-allows.branch [
      | then-not-allows-via-then-not-allows w ↦ λ fits. false≢true (sym w.if-not-allows.true ∙ c.allows.ensures.1 fits.0.0)
      | then-not-allows-via-else-not-allows+then-key-table w ↦ λ fits. w.if-key-table.true fits.0.1
      | then-not-allows-via-else-not-allows+else-key-table+in_ok-take+then-not-branch w ↦ λ fits.
          let takes = w.in_ok-take.ensures c.args.a.now refl met taken in
          (rw w.if-not-branch.true at takes) fits.1
    ])

pub overflow_add-result : goal.overflow_add-result
overflow_add-result g c = omega (arith, word_inside c.in-Some.offset c.requires.fits.pool c.requires.place c.in-Some.ensures.1)

pub returns-in-Some-clause-fault : goal.returns-in-Some-clause-fault
returns-in-Some-clause-fault g c = λ met taken new.
    let takes = c.in_ok-take.ensures c.args.a.now refl met taken in
    let taken_in = rw c.if-not-branch.false at takes in
    wrong_behind _ _ _ _ _ met c.in-Some.offset new ((c.allows.ensures.0 c.if-not-allows.false, c.if-key-table.false), taken_in.0) c.in-Some.ensures

pub returns-in-None-clause-sound : goal.returns-in-None-clause-sound
returns-in-None-clause-sound g c = λ met taken.
    let takes = c.in_ok-take.ensures c.args.a.now refl met taken in
    let taken_in = rw c.if-not-branch.false at takes in
    takes_sound _ _ _ _ _ met _ c.requires.place ((c.allows.ensures.0 c.if-not-allows.false, c.if-key-table.false), taken_in.0) c.in-None.ensures taken_in.1
