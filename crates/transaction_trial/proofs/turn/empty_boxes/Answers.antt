use Rattle.std.proofs.Common.{ap, ◌∙◌}
use Rattle.core_events.specs.Views.{View}
use Rattle.transaction_trial.proofs.KeepsTurn.{kept_full}
use Rattle.transaction_trial.proofs.turn.empty_boxes.Goals as goal

pub empty_box-requires-clause-fits : goal.empty_box-requires-clause-fits
empty_box-requires-clause-fits c =
    let t = c.args.stm.now.events in
    let s = c.see_full.new.seat in
    let is = c.see_full.ensures.view in
    c.law_of_foreseen.ensures.empty t.key t.setup s.id s.me.0 c.args.numbers.now.thread c.loop-place.place c.see_full.result (ap (λ (v : View). v.turn.has_it) is ∙ c.loop-place.invariant.has_it)
    (kept_full t.setup c.loop-place.seat.me.0.view s.me.0.view c.args.numbers.now.thread c.loop-place.place c.see_full.result is c.if-see_full-ne0.true)
