use Rattle.std.proofs.Common.{sym, ◌∙◌}
use Rattle.std.proofs.lemmas.Bool.{eq-eqb, eqb-true}
use Rattle.tree_index.proofs.Numbers.{half}
use Rattle.tatp_check.proofs.tree_seen.agree_above.Goals as goal

pub returns : goal.returns
returns c =
    let key = half c.args.bit c.args.key in
    let other = half c.args.bit c.args.other in
    ((λ same. key ∙ eqb-true _ _ same ∙ sym other), (λ same. eq-eqb _ _ (sym key ∙ same ∙ other)))
