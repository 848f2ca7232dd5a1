use Rattle.std.proofs.Common.{◌≡◌, ◌/◌, ◌%◌, ◌^◌, sym, ap, ◌∙◌, arith, below_more}
use Rattle.tatp_layout.specs.DigitLists.{shifted_more}
use Rattle.tatp_check.specs.Tests.{is_letter}
use Rattle.tatp_check.proofs.Letters.{not_letters, all_letters, is_letter-true, is_letter-false}
use Rattle.tatp_check.proofs.words.are_letters.Goals as goal

pub returns-then-byte-lt65 : goal.returns-then-byte-lt65
returns-then-byte-lt65 c =
    not_letters c.args.count c.args.word c.loop-i._i (omega arith)
    (ap (λ n. is_letter (n % 256)) (sym c.loop-i.invariant.rest) ∙ is_letter-false (c.loop-i.rest % 256) c.then-byte-lt65.either)

pub loop-i-preserved : goal.loop-i-preserved
loop-i-preserved c =
    let h = c.loop-i.invariant in
    record {
      rest = ap (λ r. r / 256) h.rest ∙ shifted_more 256 c.args.word c.loop-i._i;
      letters = below_more _ _ h.letters (ap (λ n. is_letter (n % 256)) (sym h.rest) ∙ is_letter-true (c.loop-i.rest % 256) c.if-byte-lt65.false c.if-byte-gt90.false);
    }

pub returns : goal.returns
returns c =
    let all : c.loop-i._i ≡ c.args.count = omega arith in
    all_letters c.args.count c.args.word c.loop-i.rest (c.loop-i.invariant.rest ∙ ap (λ n. c.args.word / 256 ^ n) all) (λ k below. c.loop-i.invariant.letters k (omega arith))
