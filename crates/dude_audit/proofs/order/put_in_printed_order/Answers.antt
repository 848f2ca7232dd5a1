use Rattle.std.proofs.Common.{rules}
use Rattle.std.proofs.lemmas.List.Sorted.{answers_always}
use Rattle.dude_audit.proofs.Sorted.{apart_permuted, printed_from_sort, key_of}
use Rattle.dude_audit.proofs.order.put_in_printed_order.Goals as goal

pub returns-clause-sorted : goal.returns-clause-sorted
returns-clause-sorted c = λ apart.
    printed_from_sort _ (c.sort_unstable_by_key.ensures.sorted key_of (answers_always _ _ _ (λ a r q k. search rules)))
    (apart_permuted _ _ c.sort_unstable_by_key.ensures.permutation apart)
