use Rattle.std.proofs.Common.{refl}
use Rattle.back_store.specs.BackView.{medium_of, state_of}
use Rattle.back_store.specs.Answers.{persist_calls}
use Rattle.back_store.proofs.NoTells.{append_tells_nothing}
use Rattle.stm_slots.proofs.Goes.{persist_known}
use Rattle.stm_slots.proofs.known_back.persist.Goals as goal

pub returns-clause-known : goal.returns-clause-known
returns-clause-known g c =
    let e = c.persist.ensures in
    let old = c.args.back.now in
    let new = c.persist.new.self in
    λ b rs more joined over known. persist_known b (state_of old) rs (g.M.Medium.sight (medium_of old)) (g.M.Medium.sight (medium_of new)) known (state_of new) c.args.ring c.args.bundle.now more c.requires.may joined over c.persist.result
    e.cause.full e.cause.dead (persist_calls (state_of old) c.args.ring c.args.bundle.now) refl (append_tells_nothing _ _ c.args.bundle.now) e.calls e.crash.moments e.crash.keeps e.home_stays e.state
