use Rattle.dude_io.proofs.file_pmem.FilePmemMedium.read.Goals as goal

pub returns-clause-word : goal.returns-clause-word
returns-clause-word g c = c.word.ensures
