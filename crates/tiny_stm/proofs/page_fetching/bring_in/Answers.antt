use Rattle.std.proofs.Common.{[], refl, arith}
use Rattle.tiny_stm.proofs.Evicting.{entry_kept}
use Rattle.tiny_stm.proofs.Fetched.{absent_room, paged_durable, settled_raised, settled_then, turn_paged, turn_settled, settled_to_on}
use Rattle.tiny_stm.proofs.Turning.{not_moved}
use Rattle.tiny_stm.proofs.page_fetching.bring_in.Goals as goal

pub raise_reproduced-requires : goal.raise_reproduced-requires
raise_reproduced-requires g c =
    let s = c.settle in let ok = c.in-Ok.ensures.ok in record { turn = ([], s.ensures.step.turn); raised = ok.durable; number = ok.reproduced }

pub see_entry-requires-clause-turn : goal.see_entry-requires-clause-turn
see_entry-requires-clause-turn g c =
    let s = c.settle in let r = c.raise_reproduced in
    not_moved g.M.Medium.sight c.args.stm.now.events r.new.seat s.new.home (r.ensures.step [] s.ensures.step.turn).turn

pub returns-then-see_entry-ne0-clause-steps : goal.returns-then-see_entry-ne0-clause-steps
returns-then-see_entry-ne0-clause-steps g c =
    let t = c.args.stm.now.events in let s = c.settle in let r = c.raise_reproduced in let e = c.see_entry in let sight = g.M.Medium.sight in let seat = c.args.seat.now in let h = s.new.home in
    turn_paged sight t seat r.new.seat e.new.seat h h (turn_settled sight t c.args.durable.now s.new.durable seat r.new.seat h (settled_then sight t c.args.durable.now s.new.durable seat s.new.seat r.new.seat h s.ensures.step r.ensures.step)) e.ensures.step

pub returns-then-see_entry-ne0-clause-comes : goal.returns-then-see_entry-ne0-clause-comes
returns-then-see_entry-ne0-clause-comes g c =
    let t = c.args.stm.now.events in let s = c.settle in let r = c.raise_reproduced in let e = c.see_entry in let ok = c.in-Ok in let n = ok.reproduced in let sight = g.M.Medium.sight in let h = s.new.home in (
      n,
      settled_to_on sight t n r.new.seat e.new.seat h h (settled_raised sight t n s.new.seat r.new.seat h ok.ensures.ok ok.ensures.next (r.ensures.step [] s.ensures.step.turn) r.ensures.raised r.ensures.shown) e.ensures.step refl,
      (e.result, entry_kept t.setup r.new.seat.me.0.view e.new.seat.me.0.view c.args.page e.result e.ensures.view, (let some = c.if-see_entry-ne0.true in omega arith)),
    )

pub show_absent-requires-clause-room : goal.show_absent-requires-clause-room
show_absent-requires-clause-room g c =
    let s = c.settle in let r = c.raise_reproduced in let e = c.see_entry in
    absent_room g.M.Medium.sight c.args.stm.now.events c.args.page e.result r.new.seat e.new.seat s.new.home e.ensures.step e.ensures.view e.ensures.found c.if-see_entry-ne0.false c.requires.page

pub show_absent-requires-clause-settled : goal.show_absent-requires-clause-settled
show_absent-requires-clause-settled g c =
    let t = c.args.stm.now.events in let s = c.settle in let r = c.raise_reproduced in let e = c.see_entry in let ok = c.in-Ok in let sight = g.M.Medium.sight in let h = s.new.home in
    settled_to_on sight t ok.reproduced r.new.seat e.new.seat h h (settled_raised sight t ok.reproduced s.new.seat r.new.seat h ok.ensures.ok ok.ensures.next (r.ensures.step [] s.ensures.step.turn) r.ensures.raised r.ensures.shown) e.ensures.step refl

pub returns-else-see_entry-ne0-clause-steps : goal.returns-else-see_entry-ne0-clause-steps
returns-else-see_entry-ne0-clause-steps g c =
    let t = c.args.stm.now.events in let s = c.settle in let r = c.raise_reproduced in let e = c.see_entry in let x = c.show_absent in let sight = g.M.Medium.sight in let seat = c.args.seat.now in let h = s.new.home in
    turn_paged sight t seat e.new.seat x.new.seat h x.new.home (turn_paged sight t seat r.new.seat e.new.seat h h (turn_settled sight t c.args.durable.now s.new.durable seat r.new.seat h (settled_then sight t c.args.durable.now s.new.durable seat s.new.seat r.new.seat h s.ensures.step r.ensures.step)) e.ensures.step) x.ensures.step

pub returns-in-Err-clause-steps : goal.returns-in-Err-clause-steps
returns-in-Err-clause-steps g c = let s = c.settle in turn_settled g.M.Medium.sight c.args.stm.now.events c.args.durable.now s.new.durable c.args.seat.now s.new.seat s.new.home s.ensures.step

pub returns-then-see_entry-ne0-clause-durable : goal.returns-then-see_entry-ne0-clause-durable
returns-then-see_entry-ne0-clause-durable g c =
    let t = c.args.stm.now.events in let s = c.settle in let r = c.raise_reproduced in let e = c.see_entry in let sight = g.M.Medium.sight in let seat = c.args.seat.now in let h = s.new.home in let d = c.args.durable.now in
    paged_durable sight t d s.new.durable seat r.new.seat e.new.seat h (settled_then sight t d s.new.durable seat s.new.seat r.new.seat h s.ensures.step r.ensures.step).durable e.ensures.step

pub returns-else-see_entry-ne0-clause-durable : goal.returns-else-see_entry-ne0-clause-durable
returns-else-see_entry-ne0-clause-durable g c =
    let t = c.args.stm.now.events in let s = c.settle in let r = c.raise_reproduced in let e = c.see_entry in let x = c.show_absent in let sight = g.M.Medium.sight in let seat = c.args.seat.now in let h = s.new.home in let d = c.args.durable.now in
    paged_durable sight t d s.new.durable seat e.new.seat x.new.seat x.new.home
    (paged_durable sight t d s.new.durable seat r.new.seat e.new.seat h (settled_then sight t d s.new.durable seat s.new.seat r.new.seat h s.ensures.step r.ensures.step).durable e.ensures.step) x.ensures.step

pub returns-in-Err-clause-durable : goal.returns-in-Err-clause-durable
returns-in-Err-clause-durable g c = c.settle.ensures.step.durable
