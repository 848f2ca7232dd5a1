use Rattle.back_store.specs.BackView.{medium_of, state_of}
use Rattle.stm_slots.proofs.Goes.{announced_end, announce_known}
use Rattle.stm_slots.proofs.known_back.announce.Goals as goal

pub returns-clause-answer : goal.returns-clause-answer
returns-clause-answer g c = announced_end (state_of c.args.back.now) (g.M.Medium.sight (medium_of c.args.back.now)) (g.M.Medium.sight (medium_of c.announce-result.new.self)) c.announce-result.result c.announce-result.ensures.calls

pub returns-clause-known : goal.returns-clause-known
returns-clause-known g c =
    let e = c.announce-result.ensures in
    let old = c.args.back.now in
    let new = c.announce-result.new.self in
    λ b rs known. announce_known b (state_of old) rs (g.M.Medium.sight (medium_of old)) (g.M.Medium.sight (medium_of new)) known (state_of new) c.announce-result.result c.durable-durable.ensures.lawful
    e.calls e.cause.dead e.crash.moments e.told.told e.crash.keeps e.home_stays e.cause.only e.state
