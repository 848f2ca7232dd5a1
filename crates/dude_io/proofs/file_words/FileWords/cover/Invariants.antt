use Rattle.std.proofs.Common.{◌≡◌, ◌-◌, ◌≤◌, vec_len, vec_capacity}
use Rattle.dude_io.specs.FileWords.{words_of}
use Rattle.dude_io.proofs.file_words.FileWords.cover.Given as goal

abbrev pub invariant-loop-self : goal.invariant-loop-self
invariant-loop-self l = record {
  words : words_of l.self ≡ words_of l.initial.self;
  grows : vec_len l.initial.self.stored ≤ vec_len l.self.stored;
  count : l.self.count ≡ l.initial.self.count;
  capacity : vec_capacity l.self.stored ≡ vec_capacity l.initial.self.stored;
}

abbrev pub decreases-loop-self : goal.decreases-loop-self
decreases-loop-self l = l.end - vec_len l.self.stored
