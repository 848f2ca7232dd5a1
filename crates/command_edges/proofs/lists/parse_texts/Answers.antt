use Rattle.std.proofs.Common.{◌+◌, ◌∷◌, [], ap, ◌∙◌, subst}
use Rattle.std.proofs.lemmas.List.{take_more, map-append}
use Rattle.tatp_model.specs.Files.{requests_in}
use Rattle.command_edges.specs.Texts.{HoldsRequests, IsTextFault}
use Rattle.command_edges.proofs.Told.{first_text_fault}
use Rattle.command_edges.proofs.Zips.{AllZip-more}
use Rattle.command_edges.proofs.lists.parse_texts.Goals as goal

pub returns-in-Err-clause-cause : goal.returns-in-Err-clause-cause
returns-in-Err-clause-cause c =
    first_text_fault c.args.before c.args.texts.now c.loop-index.index c.index-texts-index.result (requests_in c.loop-index.lists.items) c.in-Err.fault c.loop-index-test.true c.loop-index.invariant
    (subst (λ text. IsTextFault text (c.args.before + (c.loop-index.index + 1)) c.in-Err.fault) c.index-texts-index.is c.in-Err.ensures.cause)

pub loop-index-preserved : goal.loop-index-preserved
loop-index-preserved c =
    let pushed = ap requests_in c.in_ok-push-in-Ok.ensures.items ∙ map-append _ c.loop-index.lists.items (c.in-Ok.requests ∷ []) in
    rw (take_more c.args.texts.now c.loop-index.index c.index-texts-index.result c.loop-index-test.true, pushed)
    (AllZip-more HoldsRequests _ _ _ _ c.loop-index.invariant (subst (λ text. HoldsRequests text c.in-Ok.requests.items) c.index-texts-index.is c.in-Ok.ensures.parsed))
