-- the words read so far are those of the content
use Rattle.std.proofs.Common.{◌≡◌, ℕ, ◌+◌, ◌<◌, ◌≤◌, true, slice_index}
use Rattle.pmem_trait.specs.Reads.{OnlyReads, ContentHas}
use Rattle.image_recovery.proofs.header.read_words.Given as goal

abbrev pub invariant-loop-at : goal.invariant-loop-at
invariant-loop-at g l = record {
  len : (g.M.Medium.sight l.m).len ≡ (g.M.Medium.sight l.fn.m).len;
  reads : OnlyReads true (g.M.Medium.sight l.fn.m) (g.M.Medium.sight l.m);
  few : (g.M.Medium.sight l.m).now ≤ (g.M.Medium.sight l.fn.m).now + l.at;
  words : ContentHas (λ content. (i : ℕ) → i < l.at → slice_index l.header i ≡ slice_index content i) (g.M.Medium.sight l.fn.m);
}
