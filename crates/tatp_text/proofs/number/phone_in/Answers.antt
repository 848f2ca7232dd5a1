use Rattle.std.proofs.Common.{arith}
use Rattle.std.proofs.lemmas.Grind.{common_steps}
use Rattle.tatp_text.proofs.Digits.{digits_value-lt_power}
use Rattle.tatp_text.proofs.number.phone_in.Goals as goal

pub returns : goal.returns
returns c = grind (arith, common_steps, digits_value-lt_power c.args.text.now 15)
