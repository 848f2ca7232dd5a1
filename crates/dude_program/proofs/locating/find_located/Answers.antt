use Rattle.std.proofs.Common.{◌≡◌, List, ℕ, refl, sym, ap, ◌∙◌, subst}
use Rattle.std.proofs.lemmas.Result.{IfOk-weaker}
use Rattle.dude_base.specs.Writes.{overwritten}
use Rattle.word_space.specs.Flats.{flat_below, flat_sight, words_of}
use Rattle.word_space.specs.Sights.{WordsSight, shown}
use Rattle.tatp_model.specs.Database.{Database, database_of}
use Rattle.tatp_layout.specs.StandsFor.{StandsFor}
use Rattle.tatp_check.proofs.OneDatabase.{one_database}
use Rattle.tatp_core.specs.Located.{Locates}
use Rattle.dude_program.proofs.locating.find_located.Goals as goal

pub returns-then-is_none : goal.returns-then-is_none
returns-then-is_none c = IfOk-weaker c.locate_among.result _ _ (λ found located db stands.
    let r = c.args.range in
    let words = c.args.words.items in
    let of_tables = subst (λ (l : List ℕ). StandsFor c.args.lay.now l (database_of c.in_ok-tables.tables)) c.deref.ensures.value c.in_ok-tables.ensures in
    subst (λ (d : Database). Locates r.low r.high r.limit d.subscribers found.items) (one_database c.args.lay.now words (database_of c.in_ok-tables.tables) db of_tables stands)
    (subst (λ rows. Locates r.low r.high r.limit rows found.items) c.deref-then-is_none.ensures.value located)) c.locate_among.ensures

pub returns-in-Ok : goal.returns-in-Ok
returns-in-Ok c = λ db stands.
    let home = c.new-home.result in
    let flat = c.locate_rows.new.w in
    let same : words_of flat ≡ c.args.words.items = c.in-Ok.ensures.uses.used.turns home refl ∙ c.new-home.ensures.words in
    let seen : shown (flat_sight home) (words_of flat) ≡ c.args.words.items = ap (λ (s : WordsSight). overwritten s.writes (words_of flat)) c.new-home.ensures.fresh ∙ same in
    c.in-Ok.ensures.located (words_of flat) (flat_below flat) db (subst (λ (l : List ℕ). StandsFor c.args.lay.now l db) (sym seen) stands)
