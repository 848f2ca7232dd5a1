use Rattle.std.proofs.Common.{arith}
use Rattle.stm_transactions.proofs.Loading.{read_won, read_changed}
use Rattle.stm_transactions.proofs.reading.read_word.Goals as goal

pub returns-then-again-seen-clause-why : goal.returns-then-again-seen-clause-why
returns-then-again-seen-clause-why g c =
    rw c.lock_for-lock.ensures (read_changed c.args.stm.now.events.setup c.args.thread c.args.snapshot.now c.args.at c.in_ok-frame.frame c.args.reads.now _
    c.args.seat.now.me.0.view c.reach.new.seat.me.0.view c.requires.reading c.in_ok-frame.ensures.ok.1 c.in_ok-frame.ensures.ok.0
    c.in-Ok.look.seen c.in-Ok.look.snapshot c.look_at.new.seat.me.0.view (rw c.lock_for-lock.ensures at c.in-Ok.ensures.ok)
    c.load-value.result c.load-value.new.seat.me.0.view c.load-value.ensures.view
    c.check-again.result c.check-again.new.seat.me.0.view (rw c.lock_for-lock.ensures at c.check-again.ensures.view)
    c.check-again.ensures.found.told.before (rw c.lock_for-lock.ensures at c.check-again.ensures.found.told.word) (λ same. absurd (c.if-again-seen.true same)))

pub returns-clause-ok : goal.returns-clause-ok
returns-clause-ok g c =
    read_won c.args.stm.now.events.setup c.args.thread c.args.snapshot.now c.args.at c.in_ok-frame.frame c.args.reads.now _
    c.args.seat.now.me.0.view c.reach.new.seat.me.0.view c.requires.reading c.in_ok-frame.ensures.ok.1 c.in_ok-frame.ensures.ok.0
    c.in-Ok.look.seen c.in-Ok.look.snapshot c.look_at.new.seat.me.0.view (rw c.lock_for-lock.ensures at c.in-Ok.ensures.ok)
    c.load-value.result c.load-value.new.seat.me.0.view c.load-value.ensures.view
    c.check-again.result c.check-again.new.seat.me.0.view (rw c.lock_for-lock.ensures at c.check-again.ensures.view)
    (let e = c.if-again-seen.false in omega arith)
