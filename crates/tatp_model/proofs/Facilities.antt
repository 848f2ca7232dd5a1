-- Facilities and access rows by their keys.
use Rattle.std.proofs.Common.{◌≡◌, ℕ, ◌+◌, ◌-◌, ◌*◌, true, refl}
use Rattle.std.specs.Prelude.{◌==◌}
use Rattle.std.proofs.lemmas.Bool.{eqb-true, and_parts}
use Rattle.tatp_model.specs.declared.access_row.AccessRow.{AccessRow}
use Rattle.tatp_model.specs.declared.fac_row.FacRow.{FacRow}
use Rattle.tatp_model.specs.Database.{access_key, facility_key}
use Rattle.tatp_model.specs.Transaction.{is_access, is_facility}

-- a facility that a request names has the key of its names
pub facility_key-is_facility : (s_id sf_type : ℕ) (r : FacRow) → is_facility s_id sf_type r ≡ true → facility_key r ≡ 4 * s_id + sf_type - 1
facility_key-is_facility s_id sf_type r named =
    let names = and_parts (r.s_id == s_id) (r.sf_type == sf_type) named in
    rw (eqb-true _ _ names.0, eqb-true _ _ names.1) refl

-- so has an access row
pub access_key-is_access : (s_id ai_type : ℕ) (r : AccessRow) → is_access s_id ai_type r ≡ true → access_key r ≡ 4 * s_id + ai_type - 1
access_key-is_access s_id ai_type r named =
    let names = and_parts (r.s_id == s_id) (r.ai_type == ai_type) named in
    rw (eqb-true _ _ names.0, eqb-true _ _ names.1) refl
