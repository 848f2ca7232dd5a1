use Rattle.std.proofs.Common.{◌≡◌, ◌∷◌, ◌++◌, [], append_assoc}
use Rattle.std.specs.Prelude.{decimal}
use Rattle.std.proofs.lemmas.List.{map-append}
use Rattle.std.proofs.lemmas.Result.{IfOk-equal}
use Rattle.csv.specs.Records.{fields_of}
use Rattle.tatp_text.specs.Dump.{subscriber_record}
use Rattle.tatp_text.proofs.Plain.{subscriber-plain, plain-where}
use Rattle.tatp_text.proofs.rows.SubRowDumpRow.fill.Goals as goal

pub returns-clause-fields : goal.returns-clause-fields
returns-clause-fields c =
    let row = c.args.self.now in
    let steps : fields_of c.push_number-2.new.fields ++ decimal row.vlr ∷ [] ≡ subscriber_record row =
    rw (c.in_ok-push_number-2.ensures.added, c.in_ok-push_numbers-3.ensures.added, c.in_ok-push_numbers-2.ensures.added, c.in_ok-push_numbers.ensures.added, c.in_ok-push_phone.ensures.added, c.in_ok-push_number.ensures.added, c.in_ok-push_field.ensures.fields, c.clear.ensures.partial, c.clear.ensures.fields) (simp (map-append, append_assoc)) in
    IfOk-equal _ _ _ _ c.push_number-3.ensures.added steps

pub returns-clause-plain : goal.returns-clause-plain
returns-clause-plain c =
    plain-where c.push_number-3.result _ _ (returns-clause-fields c) (subscriber-plain c.args.self.now c.requires)
