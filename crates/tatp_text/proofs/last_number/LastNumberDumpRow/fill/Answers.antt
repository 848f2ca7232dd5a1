use Rattle.std.proofs.Common.{◌≡◌, arith, rules}
use Rattle.std.specs.Prelude.{OnOk}
use Rattle.csv.specs.Records.{fields_of}
use Rattle.tatp_text.specs.Dump.{last_record}
use Rattle.tatp_text.proofs.Plain.{last-plain, plain-where}
use Rattle.tatp_text.proofs.last_number.LastNumberDumpRow.fill.Goals as goal

pub returns-clause-plain : goal.returns-clause-plain
returns-clause-plain c =
    let row = c.args.self.now.number in
    let same : OnOk c.push_number.result (fields_of c.push_number.new.fields ≡ last_record row) = search rules in
    plain-where c.push_number.result _ _ same (last-plain row (omega arith))
