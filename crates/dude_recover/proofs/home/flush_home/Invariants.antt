-- the lines gone over so far were flushed
use Rattle.std.proofs.Common.{◌≡◌, true, take}
use Rattle.pmem_trait.specs.Sights.{CallsMade}
use Rattle.pmem_trait.specs.Groups.{flush_lines}
use Rattle.dude_recover.specs.OpeningCalls.{home_lines}
use Rattle.dude_recover.proofs.home.flush_home.Given as goal

abbrev pub invariant-loop-i : goal.invariant-loop-i
invariant-loop-i g l = record {
  len : (g.M.Medium.sight l.m).len ≡ (g.M.Medium.sight l.fn.m).len;
  made : CallsMade (take l.i (flush_lines (home_lines l.place))) true (g.M.Medium.sight l.fn.m) (g.M.Medium.sight l.m);
}
