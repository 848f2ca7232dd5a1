use Rattle.std.proofs.Common.{ℕ, ap, ◌∙◌}
use Rattle.core_events.specs.Views.{View}
use Rattle.core_events.specs.Events.{number, view_after}
use Rattle.stm_transactions.specs.Numbers.{first_numbers}
use Rattle.stm_transactions.proofs.Opens.{opens}
use Rattle.stm_transactions.proofs.pass.Pass.first.Goals as goal

pub returns : goal.returns
returns g c =
    let t = c.args.stm.now.events in
    opens t c.number-thread.new.seat c.number-thread.result c.first.result c.of_seat.result (c.number-thread.ensures.view ∙ ap (λ (v : View). view_after t.setup number v c.number-thread.result) c.requires.seat.view) c.number-thread.ensures.found.made.belongs
    (c.first.ensures ∙ (ap (λ (n : ℕ). first_numbers c.number-thread.result n c.args.opening) c.threads.ensures ∙ ap (λ (n : ℕ). first_numbers c.number-thread.result t.setup.threads n) c.requires.opening)) c.of_seat.ensures
