use Rattle.std.proofs.Common.{◌≡◌, ◌+◌, ◌-◌, ◌*◌, ℕ, List, ◌∷◌, [], ◌++◌, drop, take, length, Option, ap, ◌∙◌, subst, arith}
use Rattle.std.specs.Prelude.{IfNone}
use Rattle.dude_base.specs.Records.{RedoBundle}
use Rattle.dude_follow.specs.Packet.{BeginsWith, BeginsWithNone, IsBadAt}
use Rattle.dude_follow.proofs.ReadPackets.{all_read, bad_read, next_read, rest_of}
use Rattle.dude_follow.proofs.packets.read_packets.Goals as goal

pub returns-clause-packets : goal.returns-clause-packets
returns-clause-packets c = all_read c.args.sizes.now c.args.bytes.now c.loop-start.start c.loop-start.packets.items c.loop-start-test.false c.loop-start.invariant

pub returns-in_default-clause-bad : goal.returns-in_default-clause-bad
returns-in_default-clause-bad c packet is =
    let place : c.len.result + 1 ≡ packet = cc in
    let same : length c.loop-start.packets.items + 1 ≡ packet = omega (arith, place, c.len.ensures, c.loop-start.packets.ok.0) in
    let part : List ℕ = take (length c.args.bytes.now - c.loop-start.start) (drop c.loop-start.start c.args.bytes.now) in
    let nothing_there : BeginsWithNone c.args.sizes.now part = subst (λ (o : Option RedoBundle). IfNone o (BeginsWithNone c.args.sizes.now part)) c.in_default.is c.read_packet.ensures.none in
    let nothing : BeginsWithNone c.args.sizes.now (drop c.loop-start.start c.args.bytes.now) = subst (λ (l : List ℕ). BeginsWithNone c.args.sizes.now l) (rest_of c.args.bytes.now c.loop-start.start) nothing_there in
    subst (λ (n : ℕ). IsBadAt c.args.sizes.now c.args.bytes.now n) same (bad_read c.args.sizes.now c.args.bytes.now c.loop-start.start c.loop-start.packets.items c.loop-start-test.true nothing c.loop-start.invariant)

pub loop-start-preserved : goal.loop-start-preserved
loop-start-preserved c =
    next_read c.args.sizes.now c.args.bytes.now c.loop-start.start c.loop-start.packets.items c.push_reserved.new.self.items c.in-Some.packet (c.loop-start.start + 64 * c.cells_of.result)
    (c.push_reserved.ensures.items ∙ ap (λ (l : List RedoBundle). l ++ c.in-Some.packet ∷ []) c.reserve.ensures.items)
    (ap (λ (n : ℕ). c.loop-start.start + 64 * n) c.cells_of.ensures.cells)
    (subst (λ (l : List ℕ). BeginsWith c.args.sizes.now l c.in-Some.packet) (rest_of c.args.bytes.now c.loop-start.start) c.in-Some.ensures.some) c.loop-start.invariant
