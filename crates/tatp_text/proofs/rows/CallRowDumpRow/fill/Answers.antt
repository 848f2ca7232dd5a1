use Rattle.std.proofs.Common.{◌≡◌, ◌∷◌, ◌++◌, []}
use Rattle.tatp_text.specs.Number.{phone_text}
use Rattle.std.proofs.lemmas.Result.{IfOk-equal}
use Rattle.csv.specs.Records.{fields_of}
use Rattle.tatp_text.specs.Dump.{call_record}
use Rattle.tatp_text.proofs.Plain.{call-plain, plain-where}
use Rattle.tatp_text.proofs.rows.CallRowDumpRow.fill.Goals as goal

pub returns-clause-fields : goal.returns-clause-fields
returns-clause-fields c =
    let row = c.args.self.now in
    let steps : fields_of c.push_number-4.new.fields ++ phone_text row.numberx ∷ [] ≡ call_record row =
    rw (c.in_ok-push_number-4.ensures.added, c.in_ok-push_number-3.ensures.added, c.in_ok-push_number-2.ensures.added, c.in_ok-push_number.ensures.added, c.in_ok-push_field.ensures.fields, c.clear.ensures.partial, c.clear.ensures.fields) in
    IfOk-equal _ _ _ _ c.push_phone.ensures.added steps

pub returns-clause-plain : goal.returns-clause-plain
returns-clause-plain c =
    plain-where c.push_phone.result _ _ (returns-clause-fields c) (call-plain c.args.self.now c.requires)
