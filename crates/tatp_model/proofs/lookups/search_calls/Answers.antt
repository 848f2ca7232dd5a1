use Rattle.std.proofs.Common.{rules}
use Rattle.std.proofs.lemmas.List.Sorted.{answers_always}
use Rattle.tatp_model.proofs.lookups.search_calls.Goals as goal

pub returns-clause-halved : goal.returns-clause-halved
returns-clause-halved c = c.binary_search_by_key.ensures.position (λ r. (r.s_id, r.sf_type, r.start_time)) (answers_always _ _ _ (λ f a r g called. search rules))
