use Rattle.std.proofs.Common.{◌≡◌, true, get_or, sym, arith}
use Rattle.std.specs.Char.{is_ascii_digit}
use Rattle.std.proofs.lemmas.Grind.{common_steps}
use Rattle.tatp_text.proofs.Digits.{value_in_fits, value_in_past_more, digits_value-take_more, list_all-take_more}
use Rattle.tatp_text.proofs.number.value_of.Goals as goal

pub returns-in_err-checked_mul : goal.returns-in_err-checked_mul
returns-in_err-checked_mul c = rw c.from_residual.ensures (sym (value_in_past_more c.args.text.now c.loop-digit.digit-index (omega arith) (sym c.if-not-is_ascii_digit.ensures.value) (omega (arith, c.in_err-checked_mul.ensures))))

pub returns-in_err-value : goal.returns-in_err-value
returns-in_err-value c =
    rw c.from_residual-in_err-value.ensures (sym (value_in_past_more c.args.text.now c.loop-digit.digit-index (omega arith) (sym c.if-not-is_ascii_digit.ensures.value) (omega (arith, c.in_err-value.ensures, c.in_ok-checked_mul.ensures))))

pub loop-digit-preserved : goal.loop-digit-preserved
loop-digit-preserved c =
    let text = c.args.text.now in
    let i = c.loop-digit.digit-index in
    let digit : is_ascii_digit (get_or text i 0) ≡ true = sym c.if-not-is_ascii_digit.ensures.value in
    let more = digits_value-take_more text i (omega arith) digit in
    record {
      digits = list_all-take_more text i (omega arith) c.loop-digit.invariant.digits digit;
      value = omega (arith, c.in_ok-value.ensures, c.in_ok-checked_mul.ensures);
      fits = omega (arith, c.in_ok-value.ensures);
    }

pub returns : goal.returns
returns c = grind (arith, common_steps, value_in_fits)
