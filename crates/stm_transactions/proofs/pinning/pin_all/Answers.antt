use Rattle.std.proofs.Common.{◌<◌, ◌≤◌, length, arith}
use Rattle.stm_transactions.proofs.Pins.{stays_on}
use Rattle.stm_transactions.proofs.PinningAll.{pinning_more, pinning_stop, pinning_end}
use Rattle.stm_transactions.proofs.pinning.pin_all.Goals as goal

pub returns-in-Err-clause-why : goal.returns-in-Err-clause-why
returns-in-Err-clause-why g c =
    let lt : c.loop-k.k < length c.args.writes.now = omega arith in
    pinning_stop c.args.stm.now.events.setup c.args.writes.now c.args.seat.now.me.0.view c.len-k-end.ensures.writes c.requires.inside c.loop-k.k c.loop-k.frames c.loop-k.seat.me.0.view c.loop-k.invariant.1 c.get-w.result c.get-w.ensures lt c.in-Err.stop c.pin_once.new.seat.me.0.view c.in-Err.ensures.why

pub loop-k-preserved : goal.loop-k-preserved
loop-k-preserved g c =
    let lt : c.loop-k.k < length c.args.writes.now = omega arith in (
      stays_on c.args.stm.now.events c.args.seat.now c.loop-k.seat c.pin_once.new.seat c.loop-k.invariant.0 c.pin_once.ensures.stays,
      pinning_more c.args.stm.now.events.setup c.args.writes.now c.args.seat.now.me.0.view c.len-k-end.ensures.writes c.requires.inside c.loop-k.k c.loop-k.frames c.loop-k.seat.me.0.view c.loop-k.invariant.1 c.get-w.result c.get-w.ensures lt c.pin_once.new.frames c.pin_once.new.seat.me.0.view c.in_default.ensures.ok.0 c.in_default.ensures.ok.1,
    )

pub returns-clause-ok : goal.returns-clause-ok
returns-clause-ok g c =
    let le : length c.args.writes.now ≤ c.loop-k.k = omega arith in
    let end = pinning_end c.args.stm.now.events.setup c.args.writes.now c.args.seat.now.me.0.view c.len-k-end.ensures.writes c.requires.inside c.loop-k.k c.loop-k.frames c.loop-k.seat.me.0.view c.loop-k.invariant.1 le in
    record { paged = end.0; written_pages = end.1 }
