-- the words gone over so far are those of the bytes
use Rattle.std.proofs.Common.{◌≡◌, ℕ, ◌<◌, length, slice_index}
use Rattle.dude_follow.specs.Packet.{word_in_bytes}
use Rattle.dude_follow.proofs.packet.words_in.Given as goal

abbrev pub invariant-loop-i : goal.invariant-loop-i
invariant-loop-i l = record {
  size : length l.words ≡ 256;
  before : (j : ℕ) → j < l.i → slice_index l.words j ≡ word_in_bytes l.bytes j;
}
