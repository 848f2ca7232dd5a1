use Rattle.std.proofs.Common.{rules}
use Rattle.dude_io.proofs.file_pmem.FilePmem.write_and_sync.Goals as goal
use Rattle.dude_io.proofs.file_pmem.FilePmem.write_and_sync.Goals.{in-Lost, in_default}

pub returns-clause-lost : goal.returns-clause-lost
returns-clause-lost g c = elim c.match-matches.branch [ in-Lost w ↦ λ lost. search rules | in_default w ↦ λ lost. search rules ]
