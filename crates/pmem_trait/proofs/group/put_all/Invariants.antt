-- the calls of the writes gone over so far were made
use Rattle.std.proofs.Common.{◌≡◌, true, take}
use Rattle.pmem_trait.specs.Sights.{CallsMade}
use Rattle.pmem_trait.specs.Groups.{put_pairs}
use Rattle.pmem_trait.proofs.group.put_all.Given as goal

abbrev pub invariant-loop-at : goal.invariant-loop-at
invariant-loop-at g l = record {
  len : (g.M.Medium.sight l.m).len ≡ (g.M.Medium.sight l.fn.m).len;
  made : CallsMade (take l.at-index (put_pairs l.writes)) true (g.M.Medium.sight l.fn.m) (g.M.Medium.sight l.m);
}
