use Rattle.std.proofs.Common.{nat_le, rules}
use Rattle.std.proofs.lemmas.List.Sorted.{IsPartitionPoint-from_clause}
use Rattle.back_store.specs.declared.entry.Entry.{Entry}
use Rattle.back_store.proofs.KeptLanes.{front_entries, partitioned_entries}
use Rattle.back_store.proofs.lane.Lane.count_upto.Goals as goal

pub returns : goal.returns
returns c =
    let a = c.self.inside in
    rw (← c.self.view_is, ← c.deref.ensures.value)
    (front_entries c.args.number a.ring.sizes.cells a.writes.items c.deref.result.now c.partition_point.result c.partition_point.ensures.bound
    (IsPartitionPoint-from_clause (λ (e : Entry). nat_le e.last c.args.number) c.deref.result.now c.partition_point.result c.partition_point.ensures.partitioned
    (partitioned_entries c.args.number a.ring.sizes.cells a.writes.items c.deref.result.now (rw c.deref.ensures.value c.self.invariant.rising)) (λ a r q k. search rules)))
