use Rattle.std.proofs.Common.{not, rules, tests, ap, ◌∙◌}
use Rattle.std.specs.List.{filter}
use Rattle.tatp_model.proofs.Retained.{filter_from_test}
use Rattle.dude_audit.specs.declared.claim.Claim.{Claim}
use Rattle.dude_audit.specs.Claim.{claims_sync}
use Rattle.dude_audit.proofs.claims.asked_of.Goals as goal

pub returns : goal.returns
returns c =
    filter_from_test _ (λ r. not (claims_sync r)) _ (λ x b q k. search (rules, tests)) _ c.retain.new.self.items c.retain.ensures.filtered
    ∙ ap (filter (λ (r : Claim). not (claims_sync r))) c.in_ok-asked.ensures.items
