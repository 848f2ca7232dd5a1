use Rattle.pmem_trait.proofs.ReadRuns.{reads_same}
use Rattle.pmem_trait.proofs.medium_laws.law_of_reads.Goals as goal

pub returns : goal.returns
returns c = reads_same
