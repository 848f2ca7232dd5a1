use Rattle.std.proofs.Common.{◌≡◌, ◌-◌, take, true}
use Rattle.pmem_trait.specs.Sights.{CallsMade}
use Rattle.pmem_trait.specs.Groups.{flush_lines}
use Rattle.dude_recover.specs.FormatCalls.{content_lines}
use Rattle.dude_recover.proofs.image_writing.flush_contents.Given as goal

abbrev pub invariant-loop-line : goal.invariant-loop-line
invariant-loop-line g l = record {
  len : (g.M.Medium.sight l.m).len ≡ (g.M.Medium.sight l.initial.m).len;
  made : CallsMade (take (l.line - 1) (flush_lines (content_lines l.place))) true (g.M.Medium.sight l.initial.m) (g.M.Medium.sight l.m);
}
