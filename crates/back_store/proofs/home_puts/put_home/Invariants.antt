-- the calls of the writes gone over so far were made
use Rattle.std.proofs.Common.{◌≡◌, true, take}
use Rattle.pmem_trait.specs.Sights.{CallsMade}
use Rattle.pmem_trait.specs.Groups.{put_pairs}
use Rattle.redo_record.specs.BackCalls.{home_writes}
use Rattle.back_store.proofs.home_puts.put_home.Given as goal

abbrev pub invariant-loop-index : goal.invariant-loop-index
invariant-loop-index g l = record {
  len : (g.M.Medium.sight l.m).len ≡ (g.M.Medium.sight l.fn.m).len;
  made : CallsMade (take l.index (put_pairs (home_writes l.place l.group.writes))) true (g.M.Medium.sight l.fn.m) (g.M.Medium.sight l.m);
}
