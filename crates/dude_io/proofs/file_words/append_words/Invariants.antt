use Rattle.std.proofs.Common.{◌≡◌, ◌+◌, ◌++◌, map, take, vec_len, vec_capacity}
use Rattle.std.specs.Int.{w64, from_le_bytes}
use Rattle.dude_io.proofs.file_words.append_words.Given as goal

abbrev pub invariant-loop-word : goal.invariant-loop-word
invariant-loop-word l = record {
  items : l.words.items ≡ l.initial.words.items ++ map (from_le_bytes w64) (take l.word-index l.word-items);
  len : vec_len l.words ≡ vec_len l.initial.words + l.word-index;
  capacity : vec_capacity l.words ≡ vec_capacity l.initial.words;
}
