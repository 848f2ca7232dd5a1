use Rattle.tiny_stm.proofs.Pumps.{pumps}
use Rattle.tiny_stm.proofs.pumping.pump_on.Goals as goal

pub returns : goal.returns
returns g c =
    pumps g.M.Medium.sight c.args.steps.now.events c.args.p.now c.take_seat-seat.new.self c.take_seat-seat.result.0 c.pump-result.new.seat c.requires c.take_seat-seat.ensures c.pump-result.ensures.left.belongs
    c.pump-result.result c.numbers-numbers.result c.after_pump.result c.pump-result.new.durable c.put_seat.new.self c.pump-result.ensures.ok c.pump-result.ensures.err c.pump-result.ensures.durable c.numbers-numbers.ensures c.after_pump.ensures c.put_seat.ensures
