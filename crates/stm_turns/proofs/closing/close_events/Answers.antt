use Rattle.std.proofs.Common.{sym, ◌∙◌}
use Rattle.std.specs.Mem.Slots.{slots_counts}
use Rattle.stm_slots.proofs.Closing.{closed}
use Rattle.stm_turns.proofs.closing.close_events.Goals as goal

pub returns-clause-closed : goal.returns-clause-closed
returns-clause-closed g c =
    let t = c.args.events in let seat = c.args.seat in let e = c.box_count-count.ensures.setup in
    closed g.M.Medium.sight t.key seat.id seat.me.0 _ _ (rw e at c.close.ensures.values) (rw e at c.requires.all) c.requires.no_turn c.requires.idle

pub returns-clause-last : goal.returns-clause-last
returns-clause-last g c = let f = c.close.ensures.values in (slots_counts c.close.result.slots).0 ∙ (sym f.3 ∙ f.1.0.slots.kept.sized)
