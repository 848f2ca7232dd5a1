use Rattle.stm_transactions.proofs.Pins.{stays_on, stays_made}
use Rattle.stm_transactions.proofs.Stores.{release_may, release_more}
use Rattle.stm_transactions.proofs.storing.release_all.Goals as goal

pub release-requires-clause-may : goal.release-requires-clause-may
release-requires-clause-may g c = record { seat = c.loop-k.invariant.0.belongs; may = release_may c.args.stm.now.events.setup c.args.number c.args.held.now c.args.seat.now.me.0.view c.requires.releasing c.len-k-end.ensures.writes c.loop-k.k c.loop-k.seat.me.0.view c.loop-k.invariant.1 c.get-w.result c.get-w.ensures c.loop-k.invariant.0.belongs.seated; slots = c.requires.slots.release _ }

pub loop-k-preserved : goal.loop-k-preserved
loop-k-preserved g c = (
  stays_on c.args.stm.now.events c.args.seat.now c.loop-k.seat c.release.new.seat c.loop-k.invariant.0 (stays_made c.args.stm.now.events _ c.loop-k.seat c.release.new.seat c.release.ensures.made),
  release_more c.args.stm.now.events.setup c.args.number c.args.held.now c.args.seat.now.me.0.view c.requires.releasing c.len-k-end.ensures.writes c.loop-k.k c.loop-k.seat.me.0.view c.loop-k.invariant.1 c.get-w.result c.get-w.ensures c.release.new.seat.me.0.view c.release.ensures.view,
)
