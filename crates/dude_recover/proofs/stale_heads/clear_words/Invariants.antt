-- 0 was put in the lines gone over so far
use Rattle.std.proofs.Common.{◌≡◌, true, take}
use Rattle.pmem_trait.specs.Sights.{CallsMade}
use Rattle.pmem_trait.specs.Groups.{put_pairs}
use Rattle.dude_recover.specs.OpeningCalls.{clear_puts}
use Rattle.dude_recover.proofs.stale_heads.clear_words.Given as goal

abbrev pub invariant-loop-line : goal.invariant-loop-line
invariant-loop-line g l = record {
  len : (g.M.Medium.sight l.m).len ≡ (g.M.Medium.sight l.fn.m).len;
  made : CallsMade (take l.line-index (put_pairs (clear_puts l.lines))) true (g.M.Medium.sight l.fn.m) (g.M.Medium.sight l.m);
}
