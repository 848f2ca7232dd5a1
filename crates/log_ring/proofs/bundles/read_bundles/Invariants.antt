-- the bundles of the heads gone over so far
use Rattle.std.proofs.Common.{◌≡◌, ◌+◌, ◌*◌, ◌≤◌, true, All, length, map, take, vec_len}
use Rattle.std.specs.Vec.{vec_capacity}
use Rattle.pmem_trait.specs.Reads.{OnlyReads, ContentHas}
use Rattle.log_ring.specs.Heads.{bundle_of_head}
use Rattle.log_ring.specs.Scan.{IsReplayable, record_reads}
use Rattle.log_ring.proofs.bundles.read_bundles.Given as goal

abbrev pub invariant-loop-head : goal.invariant-loop-head
invariant-loop-head g l = record {
  len : (g.M.Medium.sight l.m).len ≡ (g.M.Medium.sight l.fn.m).len;
  reads : OnlyReads true (g.M.Medium.sight l.fn.m) (g.M.Medium.sight l.m);
  few : (g.M.Medium.sight l.m).now ≤ (g.M.Medium.sight l.fn.m).now + record_reads * l.head-index;
  count : vec_len l.bundles ≡ l.head-index;
  capacity : vec_capacity l.bundles ≡ length l.found;
  replayable : All (IsReplayable l.place) l.bundles.items;
  bundles : ContentHas (λ content. l.bundles.items ≡ map (bundle_of_head l.place content) (take l.head-index l.found)) (g.M.Medium.sight l.fn.m);
}
