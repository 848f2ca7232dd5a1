use Rattle.std.proofs.Common.{◌≡◌, ◌-◌}
use Rattle.word_space.specs.Flats.{flat_sight, fresh, words_of}
use Rattle.tatp_rows.specs.Populated.{IsPopulatedTo}
use Rattle.tatp_rows.proofs.indexing.fill_index.Given as goal

-- the keys of the subscribers before this one are there, and no write is pending
abbrev pub invariant-loop-s : goal.invariant-loop-s
invariant-loop-s l = record {
  populated : IsPopulatedTo l.lay (l.s - 1) (words_of l.flat);
  fresh : flat_sight l.flat ≡ fresh (words_of l.flat);
}
