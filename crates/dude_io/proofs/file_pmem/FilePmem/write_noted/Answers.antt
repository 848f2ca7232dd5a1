use Rattle.dude_io.proofs.file_pmem.FilePmem.write_noted.Goals as goal

pub returns-then-not-settled-clause-noted : goal.returns-then-not-settled-clause-noted
returns-then-not-settled-clause-noted g c = c.write_and_sync.ensures.noted
