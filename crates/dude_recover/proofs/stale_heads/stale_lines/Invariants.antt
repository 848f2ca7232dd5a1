-- the lines of the heads over the number among the cells gone over so far
use Rattle.std.proofs.Common.{◌≡◌, ◌*◌, ◌≤◌, true, slice_index, vec_len}
use Rattle.std.specs.List.{filter, range_with_len}
use Rattle.std.specs.Vec.{vec_capacity}
use Rattle.pmem_trait.specs.Groups.{LinesFit}
use Rattle.pmem_trait.specs.Reads.{OnlyReads, ContentHas}
use Rattle.dude_recover.specs.OpeningCalls.{is_head_over}
use Rattle.dude_recover.proofs.stale_heads.stale_lines.Given as goal

abbrev pub invariant-loop-cell : goal.invariant-loop-cell
invariant-loop-cell g l = record {
  len : (g.M.Medium.sight l.m).len ≡ (g.M.Medium.sight l.fn.m).len;
  reads : OnlyReads true (g.M.Medium.sight l.fn.m) (g.M.Medium.sight l.m);
  count : l.cells ≡ l.place.rings * l.place.cells;
  few : vec_len l.lines ≤ l.cell;
  capacity : vec_capacity l.lines ≡ l.cells;
  fit : LinesFit (g.M.Medium.sight l.fn.m).len l.lines.items;
  lines : ContentHas (λ content. l.lines.items ≡ filter (λ line. is_head_over l.number (slice_index content (8 * line))) (range_with_len 2 l.cell)) (g.M.Medium.sight l.fn.m);
}
