-- what is known of the rings gone over so far
use Rattle.std.proofs.Common.{◌≡◌, ◌+◌, ◌*◌, ◌≤◌, true}
use Rattle.pmem_trait.specs.Reads.{OnlyReads, ContentHas}
use Rattle.redo_record.specs.Images.{version_of}
use Rattle.log_ring.specs.Scan.{HoldsCells, ring_reads}
use Rattle.log_ring.specs.Scanning.{KnowsBelow}
use Rattle.log_ring.proofs.scanning.scan_rings.Given as goal

abbrev pub invariant-loop-ring : goal.invariant-loop-ring
invariant-loop-ring g l = record {
  len : (g.M.Medium.sight l.m).len ≡ (g.M.Medium.sight l.fn.m).len;
  reads : OnlyReads true (g.M.Medium.sight l.fn.m) (g.M.Medium.sight l.m);
  few : (g.M.Medium.sight l.m).now ≤ (g.M.Medium.sight l.fn.m).now + ring_reads * l.ring;
  holds : HoldsCells l.place (l.ring * l.place.cells) l.found;
  knows : ContentHas (λ content. version_of content ≡ l.version → KnowsBelow l.place l.above content (2 + l.ring * l.place.cells) l.found) (g.M.Medium.sight l.fn.m);
}
