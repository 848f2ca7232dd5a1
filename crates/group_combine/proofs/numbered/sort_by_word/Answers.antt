use Rattle.std.proofs.Common.{rules}
use Rattle.std.proofs.lemmas.List.Sorted.{answers_always}
use Rattle.group_combine.specs.declared.numbered.Numbered.{Numbered}
use Rattle.group_combine.proofs.LastWrites.{in_order_from_sorted}
use Rattle.group_combine.proofs.numbered.sort_by_word.Goals as goal

pub returns-clause-in_order : goal.returns-clause-in_order
returns-clause-in_order c =
    in_order_from_sorted _ (c.sort_unstable_by_key.ensures.sorted (λ (w : Numbered). (w.at, w.order)) (answers_always _ _ _ (λ a r q k. search rules)))
