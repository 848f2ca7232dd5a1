use Rattle.dude_io.proofs.write_cache.WriteCache.note.Goals as goal

pub returns-clause-noted : goal.returns-clause-noted
returns-clause-noted c = (c.line-line.result, c.push_reserved.ensures.items, c.line-line.ensures.line)
