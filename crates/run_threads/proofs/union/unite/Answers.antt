use Rattle.std.proofs.Common.{List, sym, subst}
use Rattle.std.specs.List.{AllPairs}
use Rattle.tatp_model.specs.declared.done.Done.{Done}
use Rattle.run_order.specs.Runs.{StandApart}
use Rattle.run_threads.proofs.union.unite.Goals as goal

pub returns-clause-sorted : goal.returns-clause-sorted
returns-clause-sorted c = λ apart. c.put_in_files.ensures.sorted (subst (λ (l : List Done). AllPairs StandApart l) (sym c.append.ensures) apart)
