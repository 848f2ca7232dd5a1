-- the words gone over so far are appended
use Rattle.std.proofs.Common.{◌≡◌, ◌+◌, ◌*◌, ◌^◌, ◌<◌, ◌++◌, ℕ, flat_map, take, slice_index, vec_capacity, vec_len}
use Rattle.std.specs.Int.{w64, to_le_bytes}
use Rattle.dude_follow.proofs.packet.put_cell.Given as goal

abbrev pub invariant-loop-word : goal.invariant-loop-word
invariant-loop-word l = record {
  bytes : l.out.items ≡ l.initial.out.items ++ flat_map (to_le_bytes w64) (take l.word-index l.words);
  len : vec_len l.out ≡ vec_len l.initial.out + 8 * l.word-index;
  capacity : vec_capacity l.out ≡ vec_capacity l.initial.out;
  small : (i : ℕ) → i < l.word-index → slice_index l.words i < 2 ^ 64;
}
