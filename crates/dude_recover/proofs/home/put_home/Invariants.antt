-- the words gone over so far were put
use Rattle.std.proofs.Common.{◌≡◌, true, take}
use Rattle.pmem_trait.specs.Sights.{CallsMade}
use Rattle.pmem_trait.specs.Groups.{put_pairs}
use Rattle.dude_recover.specs.OpeningCalls.{home_puts}
use Rattle.dude_recover.proofs.home.put_home.Given as goal

abbrev pub invariant-loop-i : goal.invariant-loop-i
invariant-loop-i g l = record {
  len : (g.M.Medium.sight l.m).len ≡ (g.M.Medium.sight l.fn.m).len;
  made : CallsMade (take l.i (put_pairs (home_puts l.place l.words))) true (g.M.Medium.sight l.fn.m) (g.M.Medium.sight l.m);
}
