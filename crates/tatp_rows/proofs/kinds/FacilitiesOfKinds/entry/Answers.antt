use Rattle.std.proofs.Common.{ap, subst, sym, ◌∙◌}
use Rattle.tatp_model.specs.Database.{IsFacRow}
use Rattle.tatp_model.proofs.PopulationInOrder.{facility_in_range}
use Rattle.tatp_layout.specs.Records.{facility_form}
use Rattle.tatp_rows.specs.Filling.{entry_of}
use Rattle.tatp_rows.proofs.kinds.FacilitiesOfKinds.entry.Goals as goal

pub facility_entry-requires : goal.facility_entry-requires
facility_entry-requires c = subst IsFacRow (sym c.facility_row.ensures) (facility_in_range c.args.s c.args.kind c.requires.subscriber.0 c.requires.subscriber.1 c.requires.kind.0 c.requires.kind.1)

pub returns : goal.returns
returns c = c.facility_entry.ensures ∙ ap (entry_of facility_form) c.facility_row.ensures
