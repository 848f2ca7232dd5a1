use Rattle.std.proofs.Common.{◌+◌, ◌%◌, rules}
use Rattle.std.proofs.lemmas.List.FromFn.{fill_by_all}
use Rattle.tatp_rows.proofs.rows.columns.Goals as goal

pub returns : goal.returns
returns c = fill_by_all (λ k. (c.args.start + (k + 1)) % c.args.base) c.loop-i.columns 10 0 c.loop-i.invariant.count (search rules)
