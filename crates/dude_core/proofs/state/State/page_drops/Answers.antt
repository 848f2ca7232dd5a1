use Rattle.std.proofs.Common.{◌==◌, ◌∙◌, ℕ, ap}
use Rattle.std.specs.Prelude.{slice_index}
use Rattle.core_events.specs.Setups.{without_pins}
use Rattle.core_events.specs.Words.{State}
use Rattle.core_events.specs.Events.{kept_entry}
use Rattle.dude_core.proofs.DroppedReads.{evict_drops}
use Rattle.dude_core.proofs.state.State.page_drops.Goals as goal

pub returns-in-Evict : goal.returns-in-Evict
returns-in-Evict c = evict_drops c.args.z.now c.args.self.now c.args.view.now c.args.deed.now c.in-Evict.page c.would_evict-evicts.result c.dropped_if.result c.in-Evict.is
    (c.would_evict-evicts.ensures ∙ ap (λ (n : ℕ). n == without_pins (kept_entry c.args.view.now c.in-Evict.page)) (c.load.ensures ∙ ap (λ (s : State). slice_index s.entries c.in-Evict.page) c.self.view_is))
    c.dropped_if.ensures
