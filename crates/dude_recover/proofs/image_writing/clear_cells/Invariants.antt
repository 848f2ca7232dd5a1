use Rattle.std.proofs.Common.{◌≡◌, ◌-◌, take, true}
use Rattle.std.specs.List.{enumerate_from}
use Rattle.pmem_trait.specs.Sights.{CallsMade}
use Rattle.pmem_trait.specs.Groups.{put_pairs}
use Rattle.dude_recover.specs.FormatCalls.{empty_cells}
use Rattle.dude_recover.proofs.image_writing.clear_cells.Given as goal

abbrev pub invariant-loop-word : goal.invariant-loop-word
invariant-loop-word g l = record {
  len : (g.M.Medium.sight l.m).len ≡ (g.M.Medium.sight l.initial.m).len;
  made : CallsMade (take (l.word - 16) (put_pairs (enumerate_from 16 (empty_cells l.place)))) true (g.M.Medium.sight l.initial.m) (g.M.Medium.sight l.m);
}
