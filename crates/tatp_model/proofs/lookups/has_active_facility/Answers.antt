use Rattle.std.proofs.Common.{◌+◌, ◌-◌, ◌*◌, sym}
use Rattle.std.specs.Prelude.{◌==◌}
use Rattle.tatp_model.specs.declared.fac_row.FacRow.{FacRow}
use Rattle.tatp_model.specs.Transaction.{is_facility}
use Rattle.tatp_model.specs.Database.{facility_key}
use Rattle.tatp_model.proofs.Rows.{both-none, both-position, AtMostOne-from_keys}
use Rattle.tatp_model.proofs.Rising.{keys_differ}
use Rattle.tatp_model.proofs.Facilities.{facility_key-is_facility}
use Rattle.tatp_model.proofs.lookups.has_active_facility.Goals as goal

pub returns-in-Some : goal.returns-in-Some
returns-in-Some c =
    let one = AtMostOne-from_keys (is_facility c.args.s_id c.args.sf_type) facility_key (4 * c.args.s_id + c.args.sf_type - 1) c.args.rows.now (facility_key-is_facility c.args.s_id c.args.sf_type) (keys_differ facility_key c.args.rows.now c.requires.rise) in
    sym (both-position (is_facility c.args.s_id c.args.sf_type) (λ (r : FacRow). r.is_active == 1) c.args.rows.now c.in-Some.at _ one (sym c.in-Some.ensures))

pub returns-in-None : goal.returns-in-None
returns-in-None c = sym (both-none (is_facility c.args.s_id c.args.sf_type) (λ (r : FacRow). r.is_active == 1) c.args.rows.now (sym c.in-None.ensures))
