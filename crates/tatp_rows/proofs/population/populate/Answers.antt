use Rattle.std.proofs.Common.{◌≡◌, length, drop, arith, sym, subst}
use Rattle.std.proofs.lemmas.List.{take_at}
use Rattle.tatp_rows.specs.Populated.{IsPopulatedTo}
use Rattle.tatp_rows.proofs.Standing.{population_stands}
use Rattle.tatp_rows.proofs.population.populate.Goals as goal

pub fill_index-requires : goal.fill_index-requires
fill_index-requires c =
    let filled = c.fill_home.new.words in
    let long : length filled ≡ c.in-Ok.words.len = omega arith in
    subst (IsPopulatedTo c.args.lay.now 0) (sym (take_at filled (drop (length filled) c.in-Ok.words.items) c.in-Ok.words.len long)) c.fill_home.ensures

pub returns-clause-stands : goal.returns-clause-stands
returns-clause-stands c = population_stands c.sizes-sizes.ensures.accepted c.in-Ok-fill_index.ensures.populated
