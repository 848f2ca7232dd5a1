use Rattle.std.proofs.Common.{ap, arith, get_or}
use Rattle.core_events.specs.Views.{View}
use Rattle.tiny_stm.proofs.Filled.{fill_fits, filled_all, filled_more}
use Rattle.tiny_stm.proofs.QuietPages.{filled_on, filled_paged, may_fill, page_inside}
use Rattle.tiny_stm.proofs.Turning.{then_paged}
use Rattle.tiny_stm.proofs.filling.fill_words.Goals as goal

pub fill-requires-clause-may : goal.fill-requires-clause-may
fill-requires-clause-may g c =
    let l = c.loop-at in
    may_fill g.M.Medium.sight c.args.stm.now.events c.args.page c.args.frame c.args.words.now l.seat c.args.home.now l.invariant.may l.at (get_or c.args.words.now l.at 0) c.loop-at-test.true

pub fill-requires-clause-fits : goal.fill-requires-clause-fits
fill-requires-clause-fits g c =
    let l = c.loop-at in let t = c.args.stm.now.events in let m = l.invariant.may in let sight = g.M.Medium.sight in
    rw m.room.turn.setup (fill_fits sight t c.args.page c.args.frame c.args.words.now l.seat c.args.home.now m (page_inside sight t c.args.page l.seat c.args.home.now m.room) l.at c.loop-at-test.true)

pub loop-at-preserved : goal.loop-at-preserved
loop-at-preserved g c =
    let l = c.loop-at in let t = c.args.stm.now.events in let m = l.invariant.may in let sight = g.M.Medium.sight in let h = c.args.home.now in let x = c.fill in let p = c.args.page in let f = c.args.frame in let words = c.args.words.now in
    let value = get_or words l.at 0 in record {
      may = filled_on sight t p f words l.seat h m l.at value x.new.seat x.ensures.made x.ensures.view;
      step = then_paged sight t c.args.seat.now l.seat x.new.seat h h l.invariant.step (filled_paged sight t p f words l.seat h m l.at value x.new.seat x.ensures.made x.ensures.view);
      filled = filled_more l.seat.me.0.view x.new.seat.me.0.view p f l.at c.loop-at-test.true (ap (λ (v : View). v.turn.filled) x.ensures.view) l.invariant.filled;
    }

pub returns-clause-filled : goal.returns-clause-filled
returns-clause-filled g c = filled_all c.loop-at.seat.me.0.view c.args.page c.args.frame (λ k lt. c.loop-at.invariant.filled k (let e = c.loop-at-test.false in omega arith))
