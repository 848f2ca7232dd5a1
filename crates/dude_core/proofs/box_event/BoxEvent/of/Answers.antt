use Rattle.std.proofs.Common.{sym, subst}
use Rattle.dude_core.specs.declared.deed.Deed.{Deed}
use Rattle.dude_core.specs.Named.{event_of}
use Rattle.dude_core.specs.BoxEvents.{IsPlain}
use Rattle.dude_core.proofs.MadeStates.{read_plain, write_plain, page_plain}
use Rattle.dude_core.proofs.box_event.BoxEvent.of.Goals as goal

pub returns-in-Read : goal.returns-in-Read
returns-in-Read c = subst (λ (d : Deed). IsPlain (event_of d)) (sym c.in-Read.is) (read_plain c.in-Read.field-0)

pub returns-in-Write : goal.returns-in-Write
returns-in-Write c = subst (λ (d : Deed). IsPlain (event_of d)) (sym c.in-Write.is) (write_plain c.in-Write.field-0)

pub returns-in-Page : goal.returns-in-Page
returns-in-Page c = subst (λ (d : Deed). IsPlain (event_of d)) (sym c.in-Page.is) (page_plain c.in-Page.field-0)
