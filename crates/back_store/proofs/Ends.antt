-- There is an end to which waiting bundles lead.
use Rattle.redo_record.proofs.WaitingRecords.{waiting_law}
use Rattle.back_store.specs.Backlog.{IsLawful}
use Rattle.back_store.specs.Back.{BackState, EndsFrom, waiting_now}
use Rattle.back_store.proofs.KeptLogs.{durable_upto}

-- the end is no less than the durable number
pub ends : (v : BackState) → IsLawful v.log → EndsFrom v v.log.durable
ends v lawful =
    let found = waiting_law.some_end (waiting_now v) v.log.reproduced in
    record { end = found.0; is_end = found.1; up = durable_upto v found.0 lawful found.1 }
