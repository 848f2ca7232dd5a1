-- what is known of the cells gone over so far
use Rattle.std.proofs.Common.{◌≡◌, ◌+◌, ◌*◌, ◌≤◌, true}
use Rattle.pmem_trait.specs.Reads.{OnlyReads, ContentHas}
use Rattle.redo_record.specs.Images.{version_of}
use Rattle.log_ring.specs.Scan.{HoldsCells, cell_reads}
use Rattle.log_ring.specs.Scanning.{KnowsBelow}
use Rattle.log_ring.proofs.scanning.scan_ring.Given as goal

abbrev pub invariant-loop-cell : goal.invariant-loop-cell
invariant-loop-cell g l = record {
  len : (g.M.Medium.sight l.m).len ≡ (g.M.Medium.sight l.fn.m).len;
  reads : OnlyReads true (g.M.Medium.sight l.fn.m) (g.M.Medium.sight l.m);
  few : (g.M.Medium.sight l.m).now ≤ (g.M.Medium.sight l.fn.m).now + cell_reads * l.cell;
  holds : HoldsCells l.place (l.ring * l.place.cells) l.fn.found → HoldsCells l.place (l.ring * l.place.cells + l.cell) l.found;
  knows : ContentHas (λ content. version_of content ≡ l.version → KnowsBelow l.place l.above content (2 + l.ring * l.place.cells) l.fn.found → KnowsBelow l.place l.above content (2 + l.ring * l.place.cells + l.cell) l.found) (g.M.Medium.sight l.fn.m);
}
