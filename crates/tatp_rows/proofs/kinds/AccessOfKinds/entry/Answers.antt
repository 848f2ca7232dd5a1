use Rattle.std.proofs.Common.{ap, subst, sym, ◌∙◌}
use Rattle.tatp_model.specs.Database.{IsAccessRow}
use Rattle.tatp_model.proofs.PopulationInOrder.{access_in_range}
use Rattle.tatp_layout.specs.Records.{access_form}
use Rattle.tatp_rows.specs.Filling.{entry_of}
use Rattle.tatp_rows.proofs.kinds.AccessOfKinds.entry.Goals as goal

pub access_entry-requires : goal.access_entry-requires
access_entry-requires c = subst IsAccessRow (sym c.access_row.ensures) (access_in_range c.args.s c.args.kind c.requires.subscriber.0 c.requires.subscriber.1 c.requires.kind.0 c.requires.kind.1)

pub returns : goal.returns
returns c = c.access_entry.ensures ∙ ap (entry_of access_form) c.access_row.ensures
