use Rattle.std.proofs.Common.{◌≡◌, is_ok, false, rules, ◌∙◌}
use Rattle.pmem_trait.proofs.Runs.{goes_alone, made_stop, made_then}
use Rattle.dude_recover.proofs.FormatLaw.{calls_made}
use Rattle.dude_recover.proofs.image_writing.write_image.Goals as goal

pub returns-in_err-settle_group-clause-made : goal.returns-in_err-settle_group-clause-made
returns-in_err-settle_group-clause-made g c =
    let err : is_ok c.from_residual.result ≡ false = search rules in
    rw err (calls_made c.args.place.now c.args.home.now (made_stop _ c.in_err-settle_group.ensures.made))

pub returns-in_err-settle_contents-clause-made : goal.returns-in_err-settle_contents-clause-made
returns-in_err-settle_contents-clause-made g c =
    let err : is_ok c.from_residual-in_err-settle_contents.result ≡ false = search rules in
    rw err (calls_made c.args.place.now c.args.home.now (made_then c.in_ok-settle_group.ensures.made (made_stop _ c.in_err-settle_contents.ensures.made)))

pub returns-in_err-settle_header-clause-made : goal.returns-in_err-settle_header-clause-made
returns-in_err-settle_header-clause-made g c =
    let err : is_ok c.from_residual-in_err-settle_header.result ≡ false = search rules in
    rw err (calls_made c.args.place.now c.args.home.now (made_then c.in_ok-settle_group.ensures.made (made_then c.in_ok-settle_contents.ensures.made (made_stop _ c.in_err-settle_header.ensures.made))))

pub returns-in_err-settle_group-2-clause-made : goal.returns-in_err-settle_group-2-clause-made
returns-in_err-settle_group-2-clause-made g c =
    let err : is_ok c.from_residual-in_err-settle_group-2.result ≡ false = search rules in
    rw err (calls_made c.args.place.now c.args.home.now (made_then c.in_ok-settle_group.ensures.made (made_then c.in_ok-settle_contents.ensures.made (made_then c.in_ok-settle_header.ensures.made (made_stop _ c.in_err-settle_group-2.ensures.made)))))

pub returns-clause-made : goal.returns-clause-made
returns-clause-made g c =
    calls_made c.args.place.now c.args.home.now
    (made_then c.in_ok-settle_group.ensures.made (made_then c.in_ok-settle_contents.ensures.made (made_then c.in_ok-settle_header.ensures.made (made_then c.in_ok-settle_group-2.ensures.made (goes_alone (is_ok c.tell.result) c.tell.ensures)))))

pub returns-in_err-settle_group-clause-len : goal.returns-in_err-settle_group-clause-len
returns-in_err-settle_group-clause-len g c = c.in_err-settle_group.ensures.len

pub returns-in_err-settle_contents-clause-len : goal.returns-in_err-settle_contents-clause-len
returns-in_err-settle_contents-clause-len g c = c.in_err-settle_contents.ensures.len ∙ c.in_ok-settle_group.ensures.len

pub returns-in_err-settle_header-clause-len : goal.returns-in_err-settle_header-clause-len
returns-in_err-settle_header-clause-len g c = c.in_err-settle_header.ensures.len ∙ c.in_ok-settle_contents.ensures.len ∙ c.in_ok-settle_group.ensures.len

pub returns-in_err-settle_group-2-clause-len : goal.returns-in_err-settle_group-2-clause-len
returns-in_err-settle_group-2-clause-len g c = c.in_err-settle_group-2.ensures.len ∙ c.in_ok-settle_header.ensures.len ∙ c.in_ok-settle_contents.ensures.len ∙ c.in_ok-settle_group.ensures.len

pub returns-clause-len : goal.returns-clause-len
returns-clause-len g c = c.tell.ensures.later.len ∙ c.in_ok-settle_group-2.ensures.len ∙ c.in_ok-settle_header.ensures.len ∙ c.in_ok-settle_contents.ensures.len ∙ c.in_ok-settle_group.ensures.len
