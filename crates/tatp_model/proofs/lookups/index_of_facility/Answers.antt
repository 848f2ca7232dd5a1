use Rattle.std.proofs.Common.{◌∙◌, rules}
use Rattle.std.proofs.lemmas.List.Sorted.{answers_always}
use Rattle.tatp_model.proofs.Halves.{facility_halved}
use Rattle.tatp_model.proofs.lookups.index_of_facility.Goals as goal

pub returns : goal.returns
returns c =
    let by_key = c.binary_search_by_key.ensures.position (λ r. (r.s_id, r.sf_type)) (answers_always _ _ _ (λ f a r g called. search rules)) in
    c.ok.ensures.value ∙ facility_halved c.args.s_id c.args.sf_type c.args.rows.now c.requires.in_range c.requires.rise c.binary_search_by_key.result c.binary_search_by_key.ensures.bound by_key
