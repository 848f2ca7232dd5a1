use Rattle.std.proofs.Common.{ℕ, Err, ap}
use Rattle.command_openings.proofs.ReadOnly.{fails_reading, read_on}
use Rattle.command_openings.proofs.image_read.read_image.Goals as goal

pub returns-in-Err-clause-reads : goal.returns-in-Err-clause-reads
returns-in-Err-clause-reads g c =
    rw c.fault_of.ensures (fails_reading ℕ c.in-Err.fault (g.M.Medium.sight c.args.medium.now) (g.M.Medium.sight c.recover.new.m) c.in-Err.ensures.reads c.in-Err.ensures.refused (λ is. c.in-Err.ensures.cause (ap Err is)))

pub returns-in-Ok-tables_of-clause-image : goal.returns-in-Ok-tables_of-clause-image
returns-in-Ok-tables_of-clause-image g c =
    let found = c.in-Ok.found in
    rw c.sizes.ensures.sizes (read_on found.0 found.1.number found.1.words.items c.in-Ok-tables_of.tables (g.M.Medium.sight c.args.medium.now) c.in-Ok.ensures.lawful c.in-Ok.ensures.recovered
    (rw c.deref.ensures.value at c.in-Ok-tables_of.ensures))
