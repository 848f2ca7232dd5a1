use Rattle.stm_transactions.proofs.Settles.{newest_is, touching}
use Rattle.stm_transactions.proofs.settling.settle.Goals as goal

pub decide-requires-clause-lock : goal.decide-requires-clause-lock
decide-requires-clause-lock g c =
    newest_is c.args.stm.now.events.setup c.args.commit.now.thread c.args.number c.args.commit.now.writes.now c.args.commit.now.held.now c.args.frames.now c.args.seat.now.me.0.view c.requires.may
    c.get-newest.result (rw c.len.ensures.len at c.get-newest.ensures)

pub touch_all-requires-clause-touching : goal.touch_all-requires-clause-touching
touch_all-requires-clause-touching g c =
    touching c.args.stm.now.events.setup c.args.commit.now.thread c.args.number c.args.commit.now.writes.now c.args.commit.now.held.now c.args.frames.now c.args.seat.now.me.0.view c.requires.may
    c.decide.result c.decide.new.seat.me.0.view c.decide.ensures.view c.store_all.new.seat.me.0.view c.store_all.ensures.view
