use Rattle.std.proofs.Common.{◌≡◌, false, is_ok, rules}
use Rattle.std.proofs.lemmas.List.Elements.{All-contains}
use Rattle.dude_follow.specs.Packets.{IsPacket}
use Rattle.dude_follow.specs.Replica.{replica_back, replica_sight}
use Rattle.dude_follow.proofs.Chains.{goes_then}
use Rattle.dude_follow.proofs.Progress.{begins, chain_failed, chain_stopped, goes_further, nearer, next_at}
use Rattle.dude_follow.proofs.chain.apply_chain.Goals as goal

pub returns-in_err-apply-clause-chain : goal.returns-in_err-apply-clause-chain
returns-in_err-apply-clause-chain g c =
    let err : is_ok c.from_residual.result ≡ false = search rules in
    rw err (chain_failed (replica_back c.args.replica.now).log.sizes c.args.buffer.now.kept.items c.requires.packets c.args.b.now (replica_back c.args.replica.now) (replica_back c.apply.new.self) (replica_sight c.args.replica.now) (replica_sight c.apply.new.self)
    c.requires.next c.in_err-apply.ensures.number c.in_err-apply.ensures.moments)

pub loop-k-init : goal.loop-k-init
loop-k-init g c = begins c.args.buffer.now.kept.items c.args.b.now (replica_back c.args.replica.now) (replica_back c.apply.new.self) (replica_sight c.args.replica.now) (replica_sight c.apply.new.self)
    c.in_ok-apply.ensures.goes_on c.in_ok-apply.ensures.applies c.in_ok-apply.ensures.moments

pub loop-k-preserved : goal.loop-k-preserved
loop-k-preserved g c =
    let kept = c.args.buffer.now.kept.items in
    let one = c.index.result.now in
    let next = next_at kept c.in-Some.k c.number.result (replica_back c.loop-k.replica).log.reproduced one c.in-Some.ensures.some.0 c.in-Some.ensures.some.1 c.number.ensures.number (search (rules, c.index.ensures)) in
    goes_further kept c.args.b.now one (replica_back c.args.replica.now) (replica_back c.loop-k.replica) (replica_back c.apply-in-Some.new.self) (replica_sight c.args.replica.now) (replica_sight c.loop-k.replica) (replica_sight c.apply-in-Some.new.self)
    c.loop-k.invariant next.0 c.in_ok-apply-2.ensures.goes_on c.in_ok-apply-2.ensures.applies c.in_ok-apply-2.ensures.moments

pub loop-k-smaller : goal.loop-k-smaller
loop-k-smaller g c =
    let kept = c.args.buffer.now.kept.items in
    let one = c.index.result.now in
    let next = next_at kept c.in-Some.k c.number.result (replica_back c.loop-k.replica).log.reproduced one c.in-Some.ensures.some.0 c.in-Some.ensures.some.1 c.number.ensures.number (search (rules, c.index.ensures)) in
    nearer (replica_back c.loop-k.replica).log.reproduced (replica_back c.apply-in-Some.new.self).log.reproduced one c.in_ok-apply-2.ensures.applies.lead
    (All-contains (IsPacket (replica_back c.args.replica.now).log.sizes) kept one c.requires.packets next.0).numbers.high

pub returns-in_err-apply-2-clause-goes_on : goal.returns-in_err-apply-2-clause-goes_on
returns-in_err-apply-2-clause-goes_on g c =
    let err : is_ok c.from_residual-in_err-apply-2.result ≡ false = search rules in
    rw err (goes_then (replica_back c.args.replica.now) (replica_back c.loop-k.replica) (replica_back c.apply-in-Some.new.self) (replica_sight c.args.replica.now) (replica_sight c.loop-k.replica) (replica_sight c.apply-in-Some.new.self)
    c.loop-k.invariant.goes c.in_err-apply-2.ensures.goes_on)

pub returns-in_err-apply-2-clause-chain : goal.returns-in_err-apply-2-clause-chain
returns-in_err-apply-2-clause-chain g c =
    let kept = c.args.buffer.now.kept.items in
    let one = c.index.result.now in
    let next = next_at kept c.in-Some.k c.number.result (replica_back c.loop-k.replica).log.reproduced one c.in-Some.ensures.some.0 c.in-Some.ensures.some.1 c.number.ensures.number (search (rules, c.index.ensures)) in
    let err : is_ok c.from_residual-in_err-apply-2.result ≡ false = search rules in
    rw err (chain_stopped (replica_back c.args.replica.now).log.sizes kept c.requires.packets c.args.b.now one (replica_back c.args.replica.now) (replica_back c.loop-k.replica) (replica_back c.apply-in-Some.new.self) (replica_sight c.args.replica.now) (replica_sight c.loop-k.replica) (replica_sight c.apply-in-Some.new.self)
    c.loop-k.invariant next.0 next.1 c.in_err-apply-2.ensures.number c.in_err-apply-2.ensures.moments)
