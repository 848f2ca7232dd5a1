use Rattle.tiny_stm.proofs.Fetches.{fetches}
use Rattle.tiny_stm.proofs.fetching.fetch_on.Goals as goal

pub returns : goal.returns
returns g c =
    fetches g.M.Medium.sight c.args.steps.now.events c.args.page c.args.p.now c.take_seat-seat.new.self c.take_seat-seat.result.0 c.fetch-result.new.seat c.requires.rests c.take_seat-seat.ensures c.fetch-result.ensures.left.belongs
    c.fetch-result.result c.numbers-numbers.result c.after_fetch.result c.fetch-result.new.durable c.put_seat.new.self c.fetch-result.ensures.ok c.fetch-result.ensures.err c.fetch-result.ensures.durable c.numbers-numbers.ensures c.after_fetch.ensures c.put_seat.ensures
