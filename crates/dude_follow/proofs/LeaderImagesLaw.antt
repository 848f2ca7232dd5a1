-- Images that recover along a leader's packets.
use Rattle.std.proofs.Common.{List, ◌++◌, append_assoc, sym, ap, ◌∙◌}
use Rattle.dude_base.specs.Records.{RedoBundle, overwritten_by_all}
use Rattle.redo_record.proofs.Reproducing.{overwritten-append}
use Rattle.dude_follow.specs.LeaderImages.{LawOfImages}
use Rattle.dude_follow.proofs.Leading.{consecutive_append}

pub images : LawOfImages
images l opening array applied packets s t sizes before told image f g is along = record {
  number = along.number;
  array = overwritten_by_all along.front array;
  recovered = along.recovered;
  is_leader = record {
    front = applied ++ along.front;
    rest = along.rest ++ g.rest;
    split = g.split ∙ ap (λ (xs : List RedoBundle). applied ++ xs ++ g.rest) along.split
        ∙ ap (λ (xs : List RedoBundle). xs ++ g.rest) (sym (append_assoc applied along.front along.rest))
        ∙ append_assoc (applied ++ along.front) along.rest g.rest;
    upto = consecutive_append l.first s.number along.number applied along.front f.before along.lead;
    result = ap (overwritten_by_all along.front) is ∙ sym (overwritten-append applied along.front opening);
  };
  floor = along.floor;
}
