-- the words gone over so far are those of the content
use Rattle.std.proofs.Common.{◌≡◌, ℕ, ◌+◌, ◌/◌, ◌%◌, ◌<◌, ◌≤◌, true, slice_index}
use Rattle.pmem_trait.specs.Reads.{OnlyReads, ContentHas}
use Rattle.redo_record.specs.Images.{word_in_image}
use Rattle.dude_base.specs.Image.{cell_at}
use Rattle.log_ring.proofs.reads.read_cells.Given as goal

abbrev pub invariant-loop-i : goal.invariant-loop-i
invariant-loop-i g l = record {
  len : (g.M.Medium.sight l.m).len ≡ (g.M.Medium.sight l.fn.m).len;
  reads : OnlyReads true (g.M.Medium.sight l.fn.m) (g.M.Medium.sight l.m);
  few : (g.M.Medium.sight l.m).now ≤ (g.M.Medium.sight l.fn.m).now + l.i;
  words : ContentHas (λ content. (i : ℕ) → i < l.i → slice_index l.words i ≡ word_in_image l.place content (cell_at l.ring l.head) (i / 8) (i % 8)) (g.M.Medium.sight l.fn.m);
}
