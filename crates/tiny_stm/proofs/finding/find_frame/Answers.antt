use Rattle.std.proofs.Common.{◌∙◌, ◌+◌, arith}
use Rattle.tiny_stm.proofs.Evicting.{then_room}
use Rattle.tiny_stm.proofs.Rounds.{all_rounds, round_more}
use Rattle.tiny_stm.proofs.finding.find_frame.Goals as goal

pub returns-in-Ok-clause-room : goal.returns-in-Ok-clause-room
returns-in-Ok-clause-room g c =
    let l = c.loop-round in let x = c.evict_next in
    then_room g.M.Medium.sight c.args.events.now c.args.wanted c.args.seat.now l.seat x.new.seat c.args.home.now l.home x.new.home l.invariant.room x.ensures.room

pub returns-then-round-frames-clause-room : goal.returns-then-round-frames-clause-room
returns-then-round-frames-clause-room g c =
    let l = c.loop-round in let x = c.evict_next in
    then_room g.M.Medium.sight c.args.events.now c.args.wanted c.args.seat.now l.seat x.new.seat c.args.home.now l.home x.new.home l.invariant.room x.ensures.room

pub returns-then-round-frames-clause-err : goal.returns-then-round-frames-clause-err
returns-then-round-frames-clause-err g c =
    let l = c.loop-round in let x = c.evict_next in let first = c.args.home.now.pager in let v = l.seat.me.0.view in let w = x.new.seat.me.0.view in let found = c.in-Err.ensures.err in let pinned = c.in-Err.pinned in
    let more = round_more first l.home.pager x.new.home.pager v w l.round pinned l.invariant.rounds l.invariant.room.map_is.one_to_one found in
    all_rounds c.args.events.now.setup first x.new.home.pager w (l.round + 1) pinned.page pinned.seen c.requires.room.map_is more (c.if-round-frames.true ∙ c.frames-frames.ensures) found.kept found.pins

pub loop-round-preserved : goal.loop-round-preserved
loop-round-preserved g c =
    let l = c.loop-round in let x = c.evict_next in let first = c.args.home.now.pager in record {
      room = then_room g.M.Medium.sight c.args.events.now c.args.wanted c.args.seat.now l.seat x.new.seat c.args.home.now l.home x.new.home l.invariant.room x.ensures.room;
      rounds = round_more first l.home.pager x.new.home.pager l.seat.me.0.view x.new.seat.me.0.view l.round c.in-Err.pinned l.invariant.rounds l.invariant.room.map_is.one_to_one c.in-Err.ensures.err;
      more = (let m = l.invariant.more in let e = c.frames-frames.ensures in let n = c.if-round-frames.false in omega arith);
    }
