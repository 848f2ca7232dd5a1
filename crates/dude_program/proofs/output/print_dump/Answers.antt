use Rattle.std.proofs.Common.{None, subst, List, ℕ}
use Rattle.dude_base.specs.declared.sizes.Sizes.{Sizes}
use Rattle.tatp_layout.specs.StandsFor.{StandsFor}
use Rattle.tatp_model.specs.Database.{Database, database_of}
use Rattle.tatp_text.specs.Dump.{dump_text}
use Rattle.tatp_check.proofs.OneDatabase.{one_database}
use Rattle.dude_program.specs.Work.{PrintsText}
use Rattle.dude_program.proofs.output.print_dump.Goals as goal

pub returns-in-Ok : goal.returns-in-Ok
returns-in-Ok g c db stands =
    let o = c.args.opened.now in
    let tables : StandsFor o.sizes o.words.items (database_of c.in-Ok.tables) =
    subst (λ (z : Sizes). StandsFor z o.words.items (database_of c.in-Ok.tables)) c.requires.opened.layout (subst (λ (l : List ℕ). StandsFor o.lay l (database_of c.in-Ok.tables)) c.deref.ensures.value c.in-Ok.ensures) in
    subst (λ (d : Database). PrintsText (dump_text d o.number) None c.print_tables.result (g.K.Sink.sight c.args.out.now) (g.K.Sink.sight c.print_tables.new.out))
    (one_database o.sizes o.words.items (database_of c.in-Ok.tables) db tables stands) c.print_tables.ensures
