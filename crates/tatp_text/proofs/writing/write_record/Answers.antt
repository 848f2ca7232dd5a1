use Rattle.std.proofs.Common.{ℕ, List, true, ◌≢◌, ◌∙◌, ◌++◌, ap}
use Rattle.csv.specs.declared.writer.QuoteStyle.TheVariants as style
use Rattle.csv.specs.Records.{fields_of}
use Rattle.tatp_text.specs.Writing.{written}
use Rattle.tatp_text.proofs.Plain.{ok-of, row_text-plain}
use Rattle.tatp_text.proofs.writing.write_record.Goals as goal

pub returns-clause-text : goal.returns-clause-text
returns-clause-text c =
    let set = c.requires.between in
    let plain : c.args.writer.now.cfg.style ≢ style.NonNumeric = rw set.0 (λ e. cc e) in
    let text = ok-of c.write_byte_record.result _ c.if-is_err.ensures.negation c.write_byte_record.ensures.bytes set.1 set.2 plain in
    text ∙ ap (λ (l : List ℕ). written c.args.writer.now ++ l) (rw set.0 (row_text-plain true (fields_of c.args.fields.now) c.requires.plain))
