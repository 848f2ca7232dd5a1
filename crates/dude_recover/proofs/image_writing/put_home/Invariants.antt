use Rattle.std.proofs.Common.{◌≡◌, take, true}
use Rattle.std.specs.List.{enumerate_from}
use Rattle.dude_base.specs.Image.{home_word}
use Rattle.pmem_trait.specs.Sights.{CallsMade}
use Rattle.pmem_trait.specs.Groups.{put_pairs}
use Rattle.dude_recover.proofs.image_writing.put_home.Given as goal

abbrev pub invariant-loop-word : goal.invariant-loop-word
invariant-loop-word g l = record {
  len : (g.M.Medium.sight l.m).len ≡ (g.M.Medium.sight l.initial.m).len;
  made : CallsMade (take l.word (put_pairs (enumerate_from (home_word l.place 0) l.home))) true (g.M.Medium.sight l.initial.m) (g.M.Medium.sight l.m);
}
