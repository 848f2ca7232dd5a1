use Rattle.dude_io.proofs.file_pmem.FilePmemMedium.put.Goals as goal

pub returns-clause-put : goal.returns-clause-put
returns-clause-put g c = c.set.ensures.words
