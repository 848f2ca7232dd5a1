use Rattle.back_store.specs.BackView.{medium_of, state_of}
use Rattle.stm_slots.proofs.Goes.{reproduce_known}
use Rattle.stm_slots.proofs.Untold.{tells_none}
use Rattle.stm_slots.proofs.known_back.reproduce.Goals as goal

pub returns-clause-told : goal.returns-clause-told
returns-clause-told g c =
    tells_none (state_of c.args.back.now) c.args.most c.reproduce-result.result (g.M.Medium.sight (medium_of c.args.back.now)) (g.M.Medium.sight (medium_of c.reproduce-result.new.self)) c.reproduce-result.ensures.calls

pub returns-clause-known : goal.returns-clause-known
returns-clause-known g c =
    let e = c.reproduce-result.ensures in
    let old = c.args.back.now in
    let new = c.reproduce-result.new.self in
    λ b rs known. reproduce_known b (state_of old) rs (g.M.Medium.sight (medium_of old)) (g.M.Medium.sight (medium_of new)) known (state_of new) c.reproduce-result.result c.args.most c.durable-durable.ensures.lawful
    e.answer e.calls e.cause.dead e.crash.moments e.crash.keeps e.home e.state
