use Rattle.std.proofs.Common.{refl}
use Rattle.dude_core.proofs.MadeCalls.{device_ok, device_off, turn_off}
use Rattle.dude_core.proofs.device_event.make_device.Goals as goal

pub returns-then-not-has_turn-clause-off : goal.returns-then-not-has_turn-clause-off
returns-then-not-has_turn-clause-off c = turn_off c.args.z.now c.args.state.now c.args.store.now c.args.call c.requires.kept c.args.who refl c.if-not-has_turn.ensures

pub returns-clause-ok : goal.returns-clause-ok
returns-clause-ok c = device_ok c.args.z.now c.args.state.now c.args.store.now c.args.call c.requires.kept c.args.who c.make_call.result c.make_call.new.store c.place-place.ensures.rings c.if-not-has_turn.ensures c.make_call.ensures.ok

pub returns-clause-off : goal.returns-clause-off
returns-clause-off c = device_off c.args.z.now c.args.state.now c.args.store.now c.args.call c.requires.kept c.args.who c.if-not-has_turn.ensures c.make_call.ensures.off
