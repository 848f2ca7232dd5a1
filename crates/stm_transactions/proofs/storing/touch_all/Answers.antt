use Rattle.std.proofs.Common.{◌<◌, length, arith}
use Rattle.stm_transactions.proofs.Pins.{stays_on, stays_made}
use Rattle.stm_transactions.proofs.Stores.{touch_may, touch_more}
use Rattle.stm_transactions.proofs.storing.touch_all.Goals as goal

pub touch-requires-clause-may : goal.touch-requires-clause-may
touch-requires-clause-may g c = let lt : c.loop-k.k < length c.args.frames.now = omega arith in record { seat = c.loop-k.invariant.0.belongs; may = touch_may c.args.stm.now.events.setup c.args.number c.args.frames.now c.args.seat.now.me.0.view c.requires.touching c.len-k-end.ensures.writes c.loop-k.k c.loop-k.seat.me.0.view c.loop-k.invariant.1 c.get-f.result c.get-f.ensures lt c.loop-k.invariant.0.belongs.seated; slots = c.requires.slots.touch _ }

pub loop-k-preserved : goal.loop-k-preserved
loop-k-preserved g c =
    let lt : c.loop-k.k < length c.args.frames.now = omega arith in (
      stays_on c.args.stm.now.events c.args.seat.now c.loop-k.seat c.touch.new.seat c.loop-k.invariant.0 (stays_made c.args.stm.now.events _ c.loop-k.seat c.touch.new.seat c.touch.ensures.made),
      touch_more c.args.stm.now.events.setup c.args.number c.args.frames.now c.args.seat.now.me.0.view c.requires.touching c.len-k-end.ensures.writes c.loop-k.k c.loop-k.seat.me.0.view c.loop-k.invariant.1 c.get-f.result c.get-f.ensures lt c.touch.new.seat.me.0.view c.touch.ensures.view,
    )
