use Rattle.std.proofs.Common.{sym, append-nil}
use Rattle.csv.specs.Records.{fields_of}
use Rattle.tatp_text.proofs.Joined.{numbers_all, numbers_more}
use Rattle.tatp_text.proofs.fields.push_numbers.Goals as goal

pub loop-number-preserved : goal.loop-number-preserved
loop-number-preserved c = record {
  added = numbers_more c.args.numbers.now c.loop-number.number-index (fields_of c.args.fields.now) (fields_of c.loop-number.fields) (fields_of c.push_number.new.fields) c.from.result c.loop-number-test.true c.loop-number.invariant.added c.from.ensures c.in_ok-push_number.ensures.added;
  whole = c.in_ok-push_number.ensures.whole;
}

pub loop-number-init : goal.loop-number-init
loop-number-init c = record { added = sym (append-nil (fields_of c.args.fields.now)); whole = c.requires }

pub returns-clause-added : goal.returns-clause-added
returns-clause-added c =
    numbers_all c.args.numbers.now c.loop-number.number-index (fields_of c.args.fields.now) (fields_of c.loop-number.fields) c.loop-number-test.false c.loop-number.invariant.added
