use Rattle.std.proofs.Common.{◌≡◌, ◌∷◌, ◌++◌, []}
use Rattle.std.proofs.lemmas.Result.{IfOk-equal}
use Rattle.csv.specs.Records.{fields_of, partial_of}
use Rattle.tatp_text.specs.Dump.{facility_record}
use Rattle.tatp_text.proofs.Plain.{facility-plain, plain-where}
use Rattle.tatp_text.proofs.rows.FacRowDumpRow.fill.Goals as goal

pub returns-clause-fields : goal.returns-clause-fields
returns-clause-fields c =
    let row = c.args.self.now in
    let steps : fields_of c.push_number-5.new.fields ++ (partial_of c.push_number-5.new.fields ++ row.data_b) ∷ [] ≡ facility_record row =
    rw (c.in_ok-push_number-5.ensures.whole, c.in_ok-push_number-5.ensures.added, c.in_ok-push_number-4.ensures.added, c.in_ok-push_number-3.ensures.added, c.in_ok-push_number-2.ensures.added, c.in_ok-push_number.ensures.added, c.in_ok-push_field.ensures.fields, c.clear.ensures.partial, c.clear.ensures.fields, c.from.ensures, c.from-2.ensures, c.from-3.ensures) in
    IfOk-equal _ _ _ _ c.push_field-2.ensures.fields steps

pub returns-clause-plain : goal.returns-clause-plain
returns-clause-plain c =
    plain-where c.push_field-2.result _ _ (returns-clause-fields c) (facility-plain c.args.self.now c.requires)
