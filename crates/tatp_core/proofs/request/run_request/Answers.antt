use Rattle.std.proofs.Common.{rules}
use Rattle.tatp_core.specs.Reads.{IsRead}
use Rattle.tatp_core.proofs.Serving.{serves_read}
use Rattle.tatp_core.proofs.request.run_request.Goals as goal

pub returns-in_default : goal.returns-in_default
returns-in_default g c =
    let read : IsRead c.args.q.now = search rules in
    serves_read c.args.lay.now c.args.q.now g.met.W.Words.well_formed c.read_request.result read c.requires.size c.requires.no_writes c.read_request.ensures
