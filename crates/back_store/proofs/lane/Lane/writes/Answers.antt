use Rattle.std.proofs.Common.{◌<◌, length, get_or, sym, ap, ◌∙◌, arith}
use Rattle.dude_base.specs.Records.{RedoBundle}
use Rattle.back_store.specs.declared.entry.Entry.{Entry}
use Rattle.back_store.specs.KeptLane.{waiting_in_lane}
use Rattle.back_store.proofs.KeptLanes.{bundle_at_entry, count_in, length_waiting}
use Rattle.back_store.proofs.lane.Lane.writes.Goals as goal

pub returns-clause-count : goal.returns-clause-count
returns-clause-count c d =
    let a = c.self.inside in
    let e : Entry = c.index.result.now in
    let within : c.args.k < length (waiting_in_lane a) = rw (← c.self.view_is) at c.requires in
    rw (← c.self.view_is) (c.from.ensures ∙ ap (λ (x : Entry). x.count) c.index.ensures ∙ sym (count_in a.ring.sizes.cells a.writes.items (get_or a.entries.items c.args.k e))
    ∙ sym (ap (λ (r : RedoBundle). length r.writes) (bundle_at_entry a c.args.k d e (omega (arith, length_waiting a)))))
