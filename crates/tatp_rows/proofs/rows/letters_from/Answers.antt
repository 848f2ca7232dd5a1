use Rattle.std.proofs.Common.{◌+◌, ◌%◌, rules}
use Rattle.std.proofs.lemmas.List.FromFn.{fill_by_all}
use Rattle.tatp_rows.proofs.rows.letters_from.Goals as goal

pub returns : goal.returns
returns g c = fill_by_all (λ k. 65 + (c.args.start + k) % 26) c.loop-j.letters g.row.N 0 c.loop-j.invariant.count (search rules)
