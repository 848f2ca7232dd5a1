use Rattle.stm_transactions.proofs.Pins.{stays_on, stays_made}
use Rattle.stm_transactions.proofs.Stores.{lock_there, restore_may, restore_more}
use Rattle.stm_transactions.proofs.storing.restore_all.Goals as goal

pub restore-requires-clause-old : goal.restore-requires-clause-old
restore-requires-clause-old g c = lock_there c.args.held.now c.args.seat.now.me.0.view c.len-k-end.ensures.writes c.loop-k.k c.loop-k.seat.me.0.view c.loop-k.invariant.1 c.get-w.result c.get-w.ensures

pub restore-requires-clause-may : goal.restore-requires-clause-may
restore-requires-clause-may g c = record { seat = c.loop-k.invariant.0.belongs; may = restore_may c.args.stm.now.events.setup c.args.held.now c.args.seat.now.me.0.view c.requires.undone c.len-k-end.ensures.writes c.loop-k.k c.loop-k.seat.me.0.view c.loop-k.invariant.1 c.get-w.result c.get-w.ensures c.loop-k.invariant.0.belongs.seated; slots = c.requires.slots.restore _ }

pub loop-k-preserved : goal.loop-k-preserved
loop-k-preserved g c = (
  stays_on c.args.stm.now.events c.args.seat.now c.loop-k.seat c.restore.new.seat c.loop-k.invariant.0 (stays_made c.args.stm.now.events _ c.loop-k.seat c.restore.new.seat c.restore.ensures.made),
  restore_more c.args.stm.now.events.setup c.args.held.now c.args.seat.now.me.0.view c.requires.undone c.len-k-end.ensures.writes c.loop-k.k c.loop-k.seat.me.0.view c.loop-k.invariant.1 c.get-w.result c.get-w.ensures c.restore.new.seat.me.0.view c.restore.ensures.view,
)
