use Rattle.stm_transactions.specs.Pairs.{pairs_of}
use Rattle.stm_transactions.specs.Pins.{pin_list}
use Rattle.std.proofs.Common.{[]}
use Rattle.stm_transactions.proofs.Pins.{paged_on}
use Rattle.stm_transactions.proofs.CommitEnds.{if_lost, lost_as, lost_before, missed}
use Rattle.stm_transactions.proofs.ending.commit_all.Goals as goal

pub returns-in-Err-clause-err : goal.returns-in-Err-clause-err
returns-in-Err-clause-err g c =
    let z = c.args.stm.now.events.setup in
    let v = c.args.seat.now.me.0.view in
    let w = c.undo.new.seat.me.0.view in
    lost_as z c.args.commit.now.thread c.args.commit.now.snapshot c.args.commit.now.reads.now c.args.commit.now.writes.now c.in-Err.stop c.lost_of.result v w c.lost_of.ensures
    (missed z c.args.commit.now.thread c.args.commit.now.snapshot c.args.commit.now.reads.now c.args.commit.now.writes.now (pairs_of c.args.commit.now.held.now) (pin_list c.args.pinned.now) v c.requires.running c.let_go.new.seat.me.0.view c.let_go.ensures.gone
    c.pin_all.new.frames c.in-Err.stop c.pin_all.new.seat.me.0.view w c.in-Err.ensures.paged c.in-Err.ensures.why c.undo.ensures.view)

pub returns-clause-err : goal.returns-clause-err
returns-clause-err g c =
    let z = c.args.stm.now.events.setup in
    let v = c.args.seat.now.me.0.view in
    let w = c.publish.new.seat.me.0.view in
    let paged = paged_on [] (pairs_of c.pin_all.new.frames) v c.let_go.new.seat.me.0.view c.pin_all.new.seat.me.0.view c.let_go.ensures.gone c.pin_all.ensures.paged in
    if_lost c.publish.result
    (lost_before z c.args.commit.now.thread c.args.commit.now.snapshot c.args.commit.now.reads.now c.args.commit.now.writes.now (pairs_of c.pin_all.new.frames) v c.pin_all.new.seat.me.0.view w paged)
    c.publish.ensures.err
