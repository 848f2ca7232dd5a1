use Rattle.std.proofs.Common.{◌∙◌, rules}
use Rattle.std.proofs.lemmas.List.Sorted.{answers_always}
use Rattle.tatp_model.proofs.Halves.{subscriber_halved}
use Rattle.tatp_model.proofs.lookups.index_of_subscriber.Goals as goal

pub returns : goal.returns
returns c =
    let by_key = c.binary_search_by_key.ensures.position (λ r. r.s_id) (answers_always _ _ _ (λ f a r g called. search rules)) in
    c.ok.ensures.value ∙ subscriber_halved c.args.s_id c.args.rows.now c.requires c.binary_search_by_key.result c.binary_search_by_key.ensures.bound by_key
