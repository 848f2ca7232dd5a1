use Rattle.std.proofs.Common.{◌<◌, length, arith}
use Rattle.stm_transactions.proofs.Pins.{stays_on, stays_made}
use Rattle.stm_transactions.proofs.Stores.{unpin_may, unpin_more}
use Rattle.stm_transactions.proofs.storing.unpin_all.Goals as goal

pub unpin-requires : goal.unpin-requires
unpin-requires g c = let lt : c.loop-k.k < length c.args.frames.now = omega arith in record { may = record { seat = c.loop-k.invariant.0.belongs; may = unpin_may c.args.stm.now.events.setup c.args.frames.now c.args.seat.now.me.0.view c.requires.leaving c.len-k-end.ensures.writes c.loop-k.k c.loop-k.seat.me.0.view c.loop-k.invariant.1 c.get-f.result c.get-f.ensures lt c.loop-k.invariant.0.belongs.seated; slots = c.requires.slots.reading.unpin _ } }

pub loop-k-preserved : goal.loop-k-preserved
loop-k-preserved g c =
    let lt : c.loop-k.k < length c.args.frames.now = omega arith in (
      stays_on c.args.stm.now.events c.args.seat.now c.loop-k.seat c.unpin.new.seat c.loop-k.invariant.0 (stays_made c.args.stm.now.events _ c.loop-k.seat c.unpin.new.seat c.unpin.ensures.found.made),
      unpin_more c.args.stm.now.events.setup c.args.frames.now c.args.seat.now.me.0.view c.requires.leaving c.len-k-end.ensures.writes c.loop-k.k c.loop-k.seat.me.0.view c.loop-k.invariant.1 c.get-f.result c.get-f.ensures lt c.unpin.result c.unpin.new.seat.me.0.view c.unpin.ensures.view,
    )
