use Rattle.std.proofs.Common.{rules}
use Rattle.std.proofs.lemmas.List.Sorted.{answers_always}
use Rattle.run_order.proofs.Apart.{apart_permuted, in_files_from_sort, place_of}
use Rattle.run_order.proofs.files.put_in_files.Goals as goal

pub returns-clause-sorted : goal.returns-clause-sorted
returns-clause-sorted c = λ apart.
    in_files_from_sort _ (c.sort_unstable_by_key.ensures.sorted place_of (answers_always _ _ _ (λ a r q k. search rules)))
    (apart_permuted _ _ c.sort_unstable_by_key.ensures.permutation apart)
