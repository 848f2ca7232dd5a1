use Rattle.std.proofs.Common.{◌≡◌, is_ok, false, rules, ◌∙◌}
use Rattle.pmem_trait.proofs.Runs.{made_stop, made_then}
use Rattle.dude_recover.specs.OpeningCalls.{opening_calls}
use Rattle.dude_recover.proofs.opening.settle_image.Goals as goal

pub returns-in_err-settle_home-clause-made : goal.returns-in_err-settle_home-clause-made
unfolding opening_calls
returns-in_err-settle_home-clause-made g c =
    let err : is_ok c.from_residual.result ≡ false = search rules in
    rw err (made_stop _ c.in_err-settle_home.ensures.made)

pub returns-in_err-settle_group-clause-made : goal.returns-in_err-settle_group-clause-made
unfolding opening_calls
returns-in_err-settle_group-clause-made g c =
    let err : is_ok c.from_residual-in_err-settle_group.result ≡ false = search rules in
    rw err (made_then c.in_ok-settle_home.ensures.made (made_stop _ c.in_err-settle_group.ensures.made))

pub returns-in_err-clear_heads-clause-made : goal.returns-in_err-clear_heads-clause-made
unfolding opening_calls
returns-in_err-clear_heads-clause-made g c =
    let err : is_ok c.from_residual-in_err-clear_heads.result ≡ false = search rules in
    rw err (made_then c.in_ok-settle_home.ensures.made (made_then c.in_ok-settle_group.ensures.made (made_stop _ c.in_err-clear_heads.ensures.made)))

pub returns-in_err-raise_version-clause-made : goal.returns-in_err-raise_version-clause-made
unfolding opening_calls
returns-in_err-raise_version-clause-made g c =
    let err : is_ok c.from_residual-in_err-raise_version.result ≡ false = search rules in
    rw err (made_then c.in_ok-settle_home.ensures.made (made_then c.in_ok-settle_group.ensures.made (made_then c.in_ok-clear_heads.ensures.made c.in_err-raise_version.ensures.made)))

pub returns-clause-made : goal.returns-clause-made
unfolding opening_calls
returns-clause-made g c =
    made_then c.in_ok-settle_home.ensures.made (made_then c.in_ok-settle_group.ensures.made (made_then c.in_ok-clear_heads.ensures.made c.in_ok-raise_version.ensures.made))

pub returns-in_err-settle_home-clause-len : goal.returns-in_err-settle_home-clause-len
returns-in_err-settle_home-clause-len g c = c.settle_home.ensures.len

pub returns-in_err-settle_group-clause-len : goal.returns-in_err-settle_group-clause-len
returns-in_err-settle_group-clause-len g c = c.settle_group.ensures.len ∙ c.in_ok-settle_home.ensures.len

pub returns-in_err-clear_heads-clause-len : goal.returns-in_err-clear_heads-clause-len
returns-in_err-clear_heads-clause-len g c = c.clear_heads.ensures.len ∙ (c.in_ok-settle_group.ensures.len ∙ c.in_ok-settle_home.ensures.len)

pub returns-in_err-raise_version-clause-len : goal.returns-in_err-raise_version-clause-len
returns-in_err-raise_version-clause-len g c = c.raise_version.ensures.len ∙ (c.in_ok-clear_heads.ensures.len ∙ (c.in_ok-settle_group.ensures.len ∙ c.in_ok-settle_home.ensures.len))

pub returns-clause-len : goal.returns-clause-len
returns-clause-len g c = c.raise_version.ensures.len ∙ (c.in_ok-clear_heads.ensures.len ∙ (c.in_ok-settle_group.ensures.len ∙ c.in_ok-settle_home.ensures.len))
