use Rattle.core_events.specs.Events.{take_turn, see_full, view_after}
use Rattle.core_runs.specs.Views.{two, posted}
use Rattle.core_runs.proofs.HistorySteps.{next_view, empty_fits}
use Rattle.core_runs.proofs.history.empty.Goals as goal

pub empty_box-requires-clause-fits : goal.empty_box-requires-clause-fits
empty_box-requires-clause-fits c =
    let z = c.args.stm.now.events.setup in let setup = c.requires.setup in
    let one = next_view z take_turn c.args.seat.now.me.0.view c.take_turn.new.seat.me.0.view posted c.take_turn.result 0 setup c.requires.view c.in_ok-expect.ensures c.take_turn.ensures.view in
    let both = next_view z (see_full 0 0) c.take_turn.new.seat.me.0.view c.see_full.new.seat.me.0.view (view_after two take_turn posted 0) c.see_full.result 1 setup one c.in_ok-expect-2.ensures c.see_full.ensures.view in
    rw setup (empty_fits _ c.args.stm.now.events.key c.see_full.new.seat.id c.see_full.new.seat.me.0 c.law_of_foreseen.ensures.empty both)
