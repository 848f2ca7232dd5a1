use Rattle.std.proofs.Common.{◌≡◌, length, arith}
use Rattle.std.proofs.lemmas.List.{length-map}
use Rattle.dude_base.specs.declared.write.Write.{Write}
use Rattle.dude_base.specs.Image.{home_word}
use Rattle.redo_record.specs.BackCalls.{home_writes}
use Rattle.back_store.proofs.PutLinesLemmas.{starts_or_shares}
use Rattle.back_store.proofs.home_puts.starts_line.Goals as goal

pub returns-else-k-eq0 : goal.returns-else-k-eq0
returns-else-k-eq0 c =
    let long : length (home_writes c.args.place.now c.args.group.now.writes) ≡ length c.args.group.now.writes = length-map c.args.group.now.writes (λ (w : Write). (home_word c.args.place.now w.at, w.value)) in
    starts_or_shares (home_writes c.args.place.now c.args.group.now.writes) c.args.k c.line_at.result c.line_at-else-k-eq0.result (0, 0) (omega arith) (omega (arith, long, c.requires.within)) (c.line_at.ensures (0, 0)) (c.line_at-else-k-eq0.ensures (0, 0))
