use Rattle.std.proofs.Common.{map, subst}
use Rattle.core_table.specs.Layout.{TableSight}
use Rattle.run_workers.specs.Jobs.{IsBack}
use Rattle.run_workers.specs.Joined.{AreServed}
use Rattle.stm_slots.specs.declared.opening.Opening.{Opening}
use Rattle.run_threads.specs.Begun.{begun_table}
use Rattle.run_threads.proofs.FilesServed.{has_served, none_served}
use Rattle.run_threads.proofs.stream_serving.serve_streaming.Goals as goal

pub returns-in-Ok-clause-served : goal.returns-in-Ok-clause-served
returns-in-Ok-clause-served g c =
    let files = map (λ f. f.items) c.args.files.now in let b = c.args.begun in let joined = c.in-Ok.streamed.joined in let r = c.by_workers.ensures in
    let served = subst (λ (t : TableSight (Opening g.row.M.Denot g.M.Medium)). AreServed t b.lay files joined) c.steps.ensures c.in-Ok.ensures.served in
    has_served g.M.Medium.sight (begun_table b) b.lay files c.by_workers.result c.requires.starts c.requires.setup joined served r.closed r.done r.counts r.end

pub returns-in-Err-clause-served : goal.returns-in-Err-clause-served
returns-in-Err-clause-served g c =
    let files = map (λ f. f.items) c.args.files.now in let b = c.args.begun in let left = c.in-Err.field-0.pass in let r = c.by_none.ensures in
    let back = subst (λ (t : TableSight (Opening g.row.M.Denot g.M.Medium)). IsBack t b.pass left) c.steps.ensures c.in-Err.ensures.err in
    none_served g.M.Medium.sight (begun_table b) b.lay files c.by_none.result c.requires.starts c.requires.setup b.pass left c.requires.pass.no_entry back r.closed r.none r.end
