use Rattle.std.proofs.Common.{◌++◌, ◌∷◌, [], take, get_or, ap, sym, ◌∙◌}
use Rattle.std.proofs.lemmas.List.{map_push, take_more}
use Rattle.tatp_layout.specs.Decoding.{subscriber_in}
use Rattle.tatp_layout.specs.Index.{location_key}
use Rattle.tatp_check.specs.IndexFaults.{location_keys}
use Rattle.tatp_check.proofs.index_check.keys_of.Goals as goal

pub loop-at-preserved : goal.loop-at-preserved
loop-at-preserved c =
    let array = c.args.a.now in
    let i = c.loop-at.at-index in
    let subscribers = c.args.subscribers.now in
    c.in_ok-push.ensures.items
    ∙ ap (λ k. c.loop-at.keys.items ++ k ∷ []) c.key_at.ensures
    ∙ ap (λ l. l ++ location_key (subscriber_in array (get_or subscribers i 0)) ∷ []) c.loop-at.invariant
    ∙ sym (ap (location_keys array) (take_more subscribers i 0 c.loop-at-test.true) ∙ map_push (λ at. location_key (subscriber_in array at)) (take i subscribers) (get_or subscribers i 0))
