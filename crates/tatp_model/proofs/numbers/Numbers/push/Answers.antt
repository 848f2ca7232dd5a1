use Rattle.std.proofs.Common.{◌∙◌, ap, arith, length, ◌<◌}
use Rattle.tatp_model.specs.declared.numbers.Numbers.{Numbers}
use Rattle.tatp_model.proofs.NumbersLemmas.{pushed, numbers_of-push}
use Rattle.tatp_model.proofs.numbers.Numbers.push.Goals as goal

pub returns-clause-appended : goal.returns-clause-appended
returns-clause-appended c xs held =
    let room : length xs < 3 = omega (arith, ap (λ (n : Numbers). n.count) held) in
    ap (λ (n : Numbers). pushed n c.args.phone) held ∙ numbers_of-push xs c.args.phone room
