use Rattle.std.proofs.Common.{◌<◌, ◌∙◌, refl, ap, arith, []}
use Rattle.std.specs.Prelude.{Some}
use Rattle.core_events.specs.Events.{show}
use Rattle.core_events.specs.Keyed.{find}
use Rattle.core_events.specs.Setups.{Setup, entry_with}
use Rattle.core_events.specs.Views.{View}
use Rattle.core_events.proofs.Filled.{entry_positive}
use Rattle.core_events.proofs.Lists.{find_head}
use Rattle.shadow_pages.specs.PageMap.{map_with}
use Rattle.stm_slots.specs.Opening.{setup_of}
use Rattle.stm_turns.proofs.Seats.{may_in_turn}
use Rattle.tiny_stm.specs.Told.{PagedTo}
use Rattle.tiny_stm.proofs.Maps.{free_inside}
use Rattle.tiny_stm.proofs.PageActs.{show_acts_on}
use Rattle.tiny_stm.proofs.Turning.{acted_paged}
use Rattle.tiny_stm.proofs.filling.show.Goals as goal

pub store_by-requires-clause-may : goal.store_by-requires-clause-may
store_by-requires-clause-may g c =
    let t = c.args.events.now in let i = c.requires.room.turn in let seat = c.args.seat.now in let h = c.args.home.now in let sight = g.M.Medium.sight in let p = c.args.page in let f = c.args.frame in
    let z = setup_of sight t.key in
    let inside : p < z.pages = let e = ap (λ (y : Setup). y.pages) i.setup in let m = c.requires.room.map_is.pages in let a = c.requires.room.absent.inside in omega arith in
    let below : f < z.frames = let e = ap (λ (y : Setup). y.frames) i.setup in let b = free_inside t.setup h.pager f c.requires.room.map_is c.requires.free in omega arith in
    rw c.place.ensures.placed (may_in_turn sight t seat h [] i.belongs i.setup i.holding (show p f) (record { live = i.holding.live; threaded = i.holding.thread; named = (inside, below); can = (i.holding.turn, c.requires.filled) })
    (λ n. PagedTo sight t.key (show p f) (record h { pager = map_with h.pager f (Some p) }) seat.me 0)
    (show_acts_on sight t.key seat.me h i.holding i.same seat.id p f inside below))

pub returns-clause-step : goal.returns-clause-step
returns-clause-step g c =
    let x = c.store_by in
    acted_paged g.M.Medium.sight c.args.events.now c.args.seat.now x.new.seat c.args.home.now c.requires.room.turn c.place.new.self (show c.args.page c.args.frame) 0 x.ensures.then refl x.ensures.seat.0 x.ensures.seat.1

pub returns-clause-shown : goal.returns-clause-shown
returns-clause-shown g c =
    let p = c.args.page in let n = entry_with c.args.frame 0 in
    (n, ap (λ (v : View). find v.paging.entries p) c.store_by.ensures.then.view ∙ find_head c.args.seat.now.me.0.view.paging.entries p n, entry_positive c.args.frame 0)
