-- the calls of the lines gone over so far were made
use Rattle.std.proofs.Common.{◌≡◌, true, take}
use Rattle.pmem_trait.specs.Sights.{CallsMade}
use Rattle.pmem_trait.specs.Groups.{flush_lines}
use Rattle.pmem_trait.proofs.group.flush_all.Given as goal

abbrev pub invariant-loop-line : goal.invariant-loop-line
invariant-loop-line g l = record {
  len : (g.M.Medium.sight l.m).len ≡ (g.M.Medium.sight l.fn.m).len;
  made : CallsMade (take l.line-index (flush_lines l.lines)) true (g.M.Medium.sight l.fn.m) (g.M.Medium.sight l.m);
}
