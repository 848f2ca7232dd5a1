use Rattle.std.proofs.Common.{List, ℕ, Option, Some, None, ◌≡◌, refl}
use Rattle.std.specs.Prelude.{IsSome}
use Rattle.csv.specs.Records.{fields_of}
use Rattle.tatp_csv.specs.Rows.{bytes_left}
use Rattle.tatp_csv.proofs.Left.{takes}
use Rattle.tatp_csv.proofs.rows.next_row.Goals as goal

-- what an option holds
some_of : (o : Option (List ℕ)) → IsSome o → (x : List ℕ) × (o ≡ Some x)
some_of None h = absurd (let never : ⊥ = cc in never)
some_of (Some x) h = (x, refl)

pub returns-in-Ok-clause-takes : goal.returns-in-Ok-clause-takes
returns-in-Ok-clause-takes c =
    let set = c.requires in
    let known = some_of (bytes_left c.args.reader.now) set.3 in
    takes c.args.reader.now c.read_byte_record.new.self c.in-Ok.found (fields_of c.read_byte_record.new.row) known.0 set.2 known.1
    (c.in-Ok.ensures.reads set.0 set.1)
