use Rattle.std.proofs.Common.{◌<◌, refl, inr, sym, subst, []}
use Rattle.core_events.specs.Events.{entry}
use Rattle.core_events.specs.Setups.{Setup}
use Rattle.stm_slots.specs.Opening.{setup_of}
use Rattle.stm_turns.proofs.Seats.{may_in_turn}
use Rattle.tiny_stm.specs.Paging.{FindsEntry}
use Rattle.tiny_stm.specs.Told.{SawEntry}
use Rattle.tiny_stm.proofs.PageActs.{entry_acts_on}
use Rattle.tiny_stm.proofs.Turning.{acted_paged}
use Rattle.tiny_stm.proofs.entries.see_entry.Goals as goal

pub load_by-requires-clause-may : goal.load_by-requires-clause-may
load_by-requires-clause-may g c =
    let t = c.args.events.now in let r = c.requires.turn in let i = r.turn in let seat = c.args.seat.now in let h = c.args.home.now in let sight = g.M.Medium.sight in let p = c.args.page in
    let inside : p < (setup_of sight t.key).pages = rw i.setup at c.requires.page in
    may_in_turn sight t seat (record h { pager = r.was }) [] i.belongs i.setup i.holding (entry p) (record { live = i.holding.live; threaded = i.holding.thread; named = inside; can = inr i.holding.turn }) (SawEntry sight t.key p h seat.me)
    (entry_acts_on sight t.key seat.me (record h { pager = r.was }) i.holding i.same seat.id p inside h.pager r.pages r.frames r.lawful)

pub returns-clause-step : goal.returns-clause-step
returns-clause-step g c =
    let t = c.args.events.now in let r = c.requires.turn in let h = c.args.home.now in let x = c.load_by in
    acted_paged g.M.Medium.sight t c.args.seat.now x.new.seat (record h { pager = r.was }) r.turn h.pager (entry c.args.page) x.result x.ensures.then.0 refl x.ensures.seat.0 x.ensures.seat.1

pub returns-clause-view : goal.returns-clause-view
returns-clause-view g c = c.load_by.ensures.then.0.view

pub returns-clause-found : goal.returns-clause-found
returns-clause-found g c =
    subst (λ (y : Setup). FindsEntry y c.args.home.now.pager c.args.page c.load_by.result) (sym c.requires.turn.turn.setup) c.load_by.ensures.then.1
