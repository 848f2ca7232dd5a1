-- the bytes gone over so far are appended
use Rattle.std.proofs.Common.{◌≡◌, ◌+◌, ◌++◌, take, vec_capacity, vec_len}
use Rattle.dude_follow.proofs.packet.put_word.Given as goal

abbrev pub invariant-loop-byte : goal.invariant-loop-byte
invariant-loop-byte l = record {
  bytes : l.out.items ≡ l.initial.out.items ++ take l.byte-index l.byte-items;
  len : vec_len l.out ≡ vec_len l.initial.out + l.byte-index;
  capacity : vec_capacity l.out ≡ vec_capacity l.initial.out;
}
