use Rattle.std.proofs.Common.{◌<◌, length, sym, subst, List, Ok, Err, rules}
use Rattle.dude_base.specs.declared.write.Write.{Write}
use Rattle.dude_base.specs.Writes.{IsWide}
use Rattle.dude_base.proofs.WriteLists.{All-put_write, IsWriteList-put_write}
use Rattle.word_space.specs.declared.stop.Stop.TheVariants.{Wide}
use Rattle.word_space.specs.Flats.{flat_sight}
use Rattle.word_space.specs.Sound.{IsSound}
use Rattle.word_space.proofs.Meets.{shown_write}
use Rattle.word_space.proofs.Runs.{used_write}
use Rattle.word_space.proofs.flat.FlatWords.write.Goals as goal

pub invariant_of-self : goal.invariant_of-self
invariant_of-self c =
    let f = c.args.self.now in
    let w : Write = record { at = c.args.at; value = c.args.value } in
    let narrow : ¬ IsWide f.writes c.args.at = λ wide. let refused = c.in-Ok.ensures.wide.1 wide in cc in
    record {
      sound = subst (λ (ws : List Write). IsSound f.words.items f.reads.reads ws f.stopped) (sym c.in-Ok.ensures.ok) (record {
        in_range = f.sound.in_range;
        reads_inside = f.sound.reads_inside;
        list = IsWriteList-put_write w f.writes f.sound.list narrow;
        inside = All-put_write w (λ i. i < length f.words.items) c.requires.inside f.writes f.sound.inside;
        agrees = f.sound.agrees;
        stops = f.sound.stops;
      });
    }

pub returns-in-Ok-clause-shown : goal.returns-in-Ok-clause-shown
returns-in-Ok-clause-shown c =
    let s = flat_sight c.args.self.now in
    shown_write s (record s { writes = c.put.new.self }) c.args.at c.args.value (search rules)

pub returns-in-Ok-clause-uses : goal.returns-in-Ok-clause-uses
returns-in-Ok-clause-uses c = used_write {at = c.args.at} {value = c.args.value} (Ok tt) (record { does = search rules }) (λ x led. led)

pub returns-in-Err-clause-uses : goal.returns-in-Err-clause-uses
returns-in-Err-clause-uses c = used_write {at = c.args.at} {value = c.args.value} (Err Wide) (record { does = search rules }) (λ x led. led)
