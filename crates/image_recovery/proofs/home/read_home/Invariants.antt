-- the words read so far are those of the content
use Rattle.std.proofs.Common.{◌≡◌, ℕ, ◌+◌, ◌<◌, ◌≤◌, true, vec_len, slice_index}
use Rattle.std.specs.Vec.{vec_capacity}
use Rattle.dude_base.specs.Image.{home_word}
use Rattle.pmem_trait.specs.Reads.{OnlyReads, ContentHas}
use Rattle.image_recovery.proofs.home.read_home.Given as goal

abbrev pub invariant-loop-i : goal.invariant-loop-i
invariant-loop-i g l = record {
  len : (g.M.Medium.sight l.m).len ≡ (g.M.Medium.sight l.fn.m).len;
  reads : OnlyReads true (g.M.Medium.sight l.fn.m) (g.M.Medium.sight l.m);
  few : (g.M.Medium.sight l.m).now ≤ (g.M.Medium.sight l.fn.m).now + l.i;
  size : vec_len l.words ≡ l.i;
  capacity : vec_capacity l.words ≡ l.count;
  words : ContentHas (λ content. (i : ℕ) → i < l.i → slice_index l.words.items i ≡ slice_index content (home_word l.place i)) (g.M.Medium.sight l.fn.m);
}
