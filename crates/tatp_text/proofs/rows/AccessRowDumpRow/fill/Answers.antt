use Rattle.std.proofs.Common.{◌≡◌, ◌∷◌, ◌++◌, []}
use Rattle.std.proofs.lemmas.Result.{IfOk-equal}
use Rattle.csv.specs.Records.{fields_of, partial_of}
use Rattle.tatp_text.specs.Dump.{access_record}
use Rattle.tatp_text.proofs.Plain.{access-plain, plain-where}
use Rattle.tatp_text.proofs.rows.AccessRowDumpRow.fill.Goals as goal

pub returns-clause-fields : goal.returns-clause-fields
returns-clause-fields c =
    let row = c.args.self.now in
    let steps : fields_of c.push_field-2.new.self ++ (partial_of c.push_field-2.new.self ++ row.info.data4) ∷ [] ≡ access_record row =
    rw (c.in_ok-push_field-2.ensures.partial, c.in_ok-push_field-2.ensures.fields, c.in_ok-push_number-4.ensures.whole, c.in_ok-push_number-4.ensures.added, c.in_ok-push_number-3.ensures.added, c.in_ok-push_number-2.ensures.added, c.in_ok-push_number.ensures.added, c.in_ok-push_field.ensures.fields, c.clear.ensures.partial, c.clear.ensures.fields, c.from.ensures, c.from-2.ensures) in
    IfOk-equal _ _ _ _ c.push_field-3.ensures.fields steps

pub returns-clause-plain : goal.returns-clause-plain
returns-clause-plain c =
    plain-where c.push_field-3.result _ _ (returns-clause-fields c) (access-plain c.args.self.now c.requires)
