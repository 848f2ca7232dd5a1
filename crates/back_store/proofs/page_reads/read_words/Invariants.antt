-- the words gone over so far were read, and are those of the medium
use Rattle.std.proofs.Common.{◌≡◌, ℕ, ◌+◌, ◌<◌, map, take, true, slice_index, IsTrue}
use Rattle.std.specs.List.{range_with_len}
use Rattle.pmem_trait.specs.declared.call.Call.TheVariants.{Read}
use Rattle.pmem_trait.specs.Words.{value_of}
use Rattle.pmem_trait.specs.Sights.{state_now, CallsMade}
use Rattle.back_store.proofs.page_reads.read_words.Given as goal

abbrev pub invariant-loop-i : goal.invariant-loop-i
invariant-loop-i g l = record {
  len : (g.M.Medium.sight l.m).len ≡ (g.M.Medium.sight l.fn.m).len;
  made : CallsMade (take l.i (map Read (range_with_len l.at 64))) true (g.M.Medium.sight l.fn.m) (g.M.Medium.sight l.m);
  words : IsTrue (g.M.Medium.sight l.fn.m).is_visible → (j : ℕ) → j < l.i → slice_index l.into j ≡ value_of ((state_now (g.M.Medium.sight l.fn.m)).word (l.at + j));
}
