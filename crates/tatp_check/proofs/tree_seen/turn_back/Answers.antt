use Rattle.std.proofs.Common.{◌≡◌, ◌+◌, ◌<◌, ◌^◌, All, Some, length, rules, sym, subst}
use Rattle.std.proofs.lemmas.List.{nil_from_length}
use Rattle.std.proofs.lemmas.List.Elements.{All-take}
use Rattle.tatp_check.specs.declared.tree_seen.OpenFork.{OpenFork}
use Rattle.tatp_check.specs.TreeSeen.{IsTurned, turned}
use Rattle.tatp_check.proofs.KeptTurns.{back_at_end, back_further, back_to_ones}
use Rattle.tatp_check.proofs.tree_seen.turn_back.Goals as goal

pub loop-fork-preserved : goal.loop-fork-preserved
loop-fork-preserved c = record {
  small = subst (All (λ (fork : OpenFork). fork.at + 3 < 2 ^ 64)) (sym c.in-Some.ensures.rest) (All-take (λ (fork : OpenFork). fork.at + 3 < 2 ^ 64) _ c.loop-fork.above.items c.loop-fork.invariant.small);
  stands = λ turns shape same least.
      back_further (turned shape turns) c.loop-fork.first c.loop-fork.above.items c.pop.new.self.items c.in-Some.fork (c.loop-fork.invariant.stands turns shape same least) c.in-Some.ensures.items c.in-Some-first.other c.in-Some-first.is;
}

pub returns-in-None : goal.returns-in-None
returns-in-None c = λ root turns shape same least.
    subst (λ l. IsTurned root (turned shape turns) (Some (c.in-Some.fork.at + 3)) l) (sym c.in_ok-push-in-None.ensures.items)
    (back_to_ones (turned shape turns) c.loop-fork.first c.loop-fork.above.items c.pop.new.self.items c.in-Some.fork (c.loop-fork.invariant.stands turns shape same least) c.in-Some.ensures.items root c.in-None.is)

pub returns : goal.returns
returns c =
    let none : length c.loop-fork.above.items ≡ 0 = search rules in
    λ root turns shape same least.
    back_at_end root (turned shape turns) c.loop-fork.first c.loop-fork.above.items c.pop.new.self.items (c.loop-fork.invariant.stands turns shape same least) (nil_from_length c.loop-fork.above.items none)
