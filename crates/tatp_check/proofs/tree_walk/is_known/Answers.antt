use Rattle.std.proofs.Common.{◌↔◌, Contains, sym, subst}
use Rattle.std.specs.Bool.{IsTrue}
use Rattle.std.proofs.lemmas.List.Sorted.{searched}
use Rattle.tatp_check.proofs.KnownKeys.{known_by}
use Rattle.tatp_check.proofs.tree_walk.is_known.Goals as goal

pub returns : goal.returns
returns c =
    let keys = c.args.keys.now in
    subst (λ b. IsTrue b ↔ Contains keys c.args.key) (sym c.is_ok.ensures.value)
    (known_by keys c.args.key c.binary_search.result (searched keys c.args.key c.binary_search.result c.binary_search.ensures.position (λ i j le below. c.requires.rising i j 0 le below)))
