-- the bundles of the heads gone over so far lead on, and were applied
use Rattle.std.proofs.Common.{◌≡◌, ◌+◌, ◌*◌, ◌≤◌, true, length, map, take}
use Rattle.dude_base.specs.declared.limits.TheConstants.{MAX_NUMBER}
use Rattle.pmem_trait.specs.Reads.{OnlyReads, ContentHas}
use Rattle.redo_record.specs.Recovery.{AreConsecutive, overwritten_by_all}
use Rattle.log_ring.specs.Heads.{bundle_of_head}
use Rattle.log_ring.specs.Scan.{record_reads}
use Rattle.image_recovery.proofs.apply.apply_consecutive.Given as goal

abbrev pub invariant-loop-head : goal.invariant-loop-head
invariant-loop-head g l = record {
  len : (g.M.Medium.sight l.m).len ≡ (g.M.Medium.sight l.fn.m).len;
  reads : OnlyReads true (g.M.Medium.sight l.fn.m) (g.M.Medium.sight l.m);
  few : (g.M.Medium.sight l.m).now ≤ (g.M.Medium.sight l.fn.m).now + record_reads * l.head-index;
  small : l.number ≤ MAX_NUMBER;
  size : length l.words ≡ length l.fn.words;
  lead : ContentHas (λ content. AreConsecutive l.mark (map (bundle_of_head l.place content) (take l.head-index l.log)) l.number) (g.M.Medium.sight l.fn.m);
  result : ContentHas (λ content. l.words ≡ overwritten_by_all (map (bundle_of_head l.place content) (take l.head-index l.log)) l.fn.words) (g.M.Medium.sight l.fn.m);
}
