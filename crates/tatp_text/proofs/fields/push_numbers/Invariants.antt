use Rattle.std.proofs.Common.{◌≡◌, ◌++◌, [], map, take}
use Rattle.std.specs.Prelude.{decimal}
use Rattle.csv.specs.Records.{fields_of, partial_of}
use Rattle.tatp_text.proofs.fields.push_numbers.Given as goal

-- the numbers so far are added
abbrev pub invariant-loop-number : goal.invariant-loop-number
invariant-loop-number l = record {
  added : fields_of l.fields ≡ fields_of l.initial.fields ++ map decimal (take l.number-index l.numbers);
  whole : partial_of l.fields ≡ [];
}
