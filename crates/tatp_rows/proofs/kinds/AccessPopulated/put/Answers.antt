use Rattle.std.proofs.Common.{◌+◌, sym, ap, ◌∙◌, arith}
use Rattle.hash_table.specs.declared.table.Table.{Table}
use Rattle.tatp_rows.proofs.EntryLists.{length-access_entries}
use Rattle.tatp_rows.proofs.kinds.AccessPopulated.put.Goals as goal

pub put_kinds-requires-clause-room : goal.put_kinds-requires-clause-room
put_kinds-requires-clause-room c = omega (arith, c.requires.room, length-access_entries c.args.s, ap (λ (t : Table). t.pool.count) c.access.ensures.table)

pub returns-clause-index : goal.returns-clause-index
returns-clause-index c = c.put_kinds.ensures.index ∙ ap (λ n. c.args.index + n) (sym (length-access_entries c.args.s))
