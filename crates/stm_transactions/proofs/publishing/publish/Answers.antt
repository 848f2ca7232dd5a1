use Rattle.std.proofs.Common.{ap, ◌∙◌}
use Rattle.core_events.specs.Views.{View}
use Rattle.core_events.specs.Events.{next_box}
use Rattle.core_table.specs.Abouts.{about_of}
use Rattle.stm_transactions.proofs.BoxesPosted.{gives_behind, has_still, stays_between}
use Rattle.stm_transactions.proofs.Pins.{stays_on}
use Rattle.stm_transactions.proofs.Publishes.{draw_may, may_decide}
use Rattle.stm_transactions.proofs.publishing.publish.Goals as goal

pub draw-number-requires : goal.draw-number-requires
draw-number-requires g c = record { seat = c.requires.seat; may = draw_may c.args.stm.now.events.setup c.args.commit.now.thread c.args.commit.now.place c.args.commit.now.snapshot (about_of c.args.served.now) c.args.commit.now.reads.now c.args.commit.now.writes.now c.args.commit.now.held.now c.args.frames.now c.args.seat.now.me.0.view c.requires.running c.requires.some c.requires.draws c.requires.pages.paged c.requires.pages.written_pages }

pub settle-requires-clause-may : goal.settle-requires-clause-may
settle-requires-clause-may g c = may_decide c.args.stm.now.events.setup c.args.commit.now.thread c.args.commit.now.place c.args.commit.now.snapshot (about_of c.args.served.now) c.args.commit.now.reads.now c.args.commit.now.writes.now c.args.commit.now.held.now c.args.frames.now c.args.seat.now.me.0.view c.requires.running c.requires.some c.requires.draws c.requires.pages.paged c.requires.pages.written_pages c.draw-number.result c.draw-number.ensures.drew.told.word c.draw-number.new.seat.me.0.view c.draw-number.ensures.drew.view c.validate.new.seat.me.0.view c.in_default.ensures.ok

pub settle-requires-clause-slot : goal.settle-requires-clause-slot
settle-requires-clause-slot g c =
    let next = λ (v : View). next_box c.args.stm.now.events.setup v in
    has_still g.P.BoxRule.taken c.args.stm.now.events c.args.seat.now c.draw-number.new.seat c.validate.new.seat c.draw-number.ensures.drew c.validate.ensures.stays
    (ap next c.in_default.ensures.ok.on ∙ ap next c.draw-number.ensures.drew.view)

pub returns-clause-stays : goal.returns-clause-stays
returns-clause-stays g c = stays_between g.P.BoxRule.taken c.args.stm.now.events c.args.seat.now c.draw-number.new.seat c.validate.new.seat c.settle.new.seat c.draw-number.ensures.drew c.validate.ensures.stays c.settle.ensures.gives

pub post-requires-clause-slot : goal.post-requires-clause-slot
post-requires-clause-slot g c =
    let t = c.args.stm.now.events in
    let next = λ (v : View). next_box t.setup v in
    let undone = stays_on t c.validate.new.seat c.restore_all.new.seat c.unpin_all.new.seat c.restore_all.ensures.stays c.unpin_all.ensures.stays in
    has_still g.P.BoxRule.taken t c.args.seat.now c.draw-number.new.seat c.unpin_all.new.seat c.draw-number.ensures.drew (stays_on t c.draw-number.new.seat c.validate.new.seat c.unpin_all.new.seat c.validate.ensures.stays undone)
    (ap next c.unpin_all.ensures.view ∙ (ap next c.restore_all.ensures.view ∙ (ap next c.in-Err.ensures.err.on ∙ ap next c.draw-number.ensures.drew.view)))

pub returns-in-Err-clause-stays : goal.returns-in-Err-clause-stays
returns-in-Err-clause-stays g c =
    let t = c.args.stm.now.events in
    let undone = stays_on t c.validate.new.seat c.restore_all.new.seat c.unpin_all.new.seat c.restore_all.ensures.stays c.unpin_all.ensures.stays in
    stays_between g.P.BoxRule.taken t c.args.seat.now c.draw-number.new.seat c.validate.new.seat c.post.new.seat c.draw-number.ensures.drew c.validate.ensures.stays
    (gives_behind g.P.BoxRule.taken t c.validate.new.seat c.unpin_all.new.seat c.post.new.seat undone c.post.ensures.posted)
