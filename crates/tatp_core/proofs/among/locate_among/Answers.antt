use Rattle.std.proofs.Common.{map, sym, ap, ◌∙◌, subst, arith}
use Rattle.std.proofs.lemmas.List.{take_all}
use Rattle.tatp_core.specs.Located.{Locates}
use Rattle.tatp_core.proofs.KeyRanges.{pair_of}
use Rattle.tatp_core.proofs.LocatedRows.{locates_sorted}
use Rattle.tatp_core.proofs.among.locate_among.Goals as goal

pub returns : goal.returns
returns c =
    let a = c.args in
    let all = c.loop-key.invariant.found ∙ ap (map pair_of) (take_all c.loop-key.key-index c.deref-key-items.result.now (omega (arith, c.loop-key-test.false)) ∙ c.deref-key-items.ensures.value ∙ c.truncate.ensures.items) in
    subst (Locates a.low a.high a.limit a.rows.now) (sym all)
    (locates_sorted a.low a.high a.limit a.rows.now c.in_ok-keys.keys.items c.sort_unstable.new.self.items c.requires.in_range c.requires.rise c.in_ok-keys.ensures c.sort_unstable.ensures.permutation c.sort_unstable.ensures.sorted)
