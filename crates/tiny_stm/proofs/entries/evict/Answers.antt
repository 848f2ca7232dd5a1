use Rattle.std.proofs.Common.{◌≡◌, ◌<◌, refl, sym, ap, subst, arith, []}
use Rattle.core_events.specs.Events.{evict, kept_entry}
use Rattle.core_events.specs.Setups.{Setup, frame_in, without_pins}
use Rattle.shadow_pages.specs.PageMap.{PageMap}
use Rattle.stm_slots.specs.Opening.{setup_of}
use Rattle.stm_slots.specs.Turns.{map_evicted}
use Rattle.stm_turns.proofs.Seats.{may_in_turn}
use Rattle.tiny_stm.specs.Paging.{FindsEntry, Paged}
use Rattle.tiny_stm.specs.Told.{TriedEvict}
use Rattle.tiny_stm.proofs.Maps.{dropped_map, kept_is, map_less, other_map}
use Rattle.tiny_stm.proofs.PageActs.{evict_acts_on}
use Rattle.tiny_stm.proofs.Turning.{acted_paged}
use Rattle.tiny_stm.proofs.entries.evict.Goals as goal

pub change_by-seen-requires-clause-may : goal.change_by-seen-requires-clause-may
change_by-seen-requires-clause-may g c =
    let t = c.args.events.now in let r = c.requires in let i = r.room.turn in let seat = c.args.seat.now in let h = c.args.home.now in let sight = g.M.Medium.sight in let p = c.args.page in let q = c.args.wanted in
    let inside : p < (setup_of sight t.key).pages = rw i.setup at r.page in
    let wanted : q < (setup_of sight t.key).pages = let e = ap (λ (y : Setup). y.pages) i.setup in let m = r.room.map_is.pages in let a = r.room.absent.inside in omega arith in
    let is : kept_entry seat.me.0.view p ≡ c.args.kept = kept_is seat.me.0.view p c.args.kept r.kept.kept in
    let pos : 0 < without_pins (kept_entry seat.me.0.view p) = let a = r.kept.some_frame in let b = r.kept.no_pin in omega arith in
    may_in_turn sight t seat h [] i.belongs i.setup i.holding (evict p) (record { live = i.holding.live; threaded = i.holding.thread; named = inside; can = (i.holding.turn, (c.args.kept, r.kept.kept, r.kept.some_frame)) }) (TriedEvict sight t.key p h seat.me)
    (evict_acts_on sight t.key seat.me h i.holding i.same seat.id p q inside wanted r.room.absent.seen pos)

pub change_by-seen-requires-clause-word : goal.change_by-seen-requires-clause-word
change_by-seen-requires-clause-word g c = λ n told. rw c.requires.kept.kept refl

pub returns-then-seen-kept-clause-step : goal.returns-then-seen-kept-clause-step
returns-then-seen-kept-clause-step g c =
    let t = c.args.events.now in let r = c.requires in let h = c.args.home.now in let x = c.change_by-seen in let seat = c.args.seat.now in let v = seat.me.0.view in let p = c.args.page in let sight = g.M.Medium.sight in
    subst (λ (m : PageMap). Paged sight t seat x.new.seat (record h { pager = m }))
    (dropped_map v p x.result c.args.kept h.pager c.drop_page.new.self r.kept.kept r.kept.no_pin c.if-seen-kept.true (c.drop_page.ensures.dropped (frame_in c.args.kept) r.kept.holds))
    (acted_paged sight t seat x.new.seat h r.room.turn (map_evicted p v h.pager x.result) (evict p) x.result x.ensures.then.0 refl x.ensures.seat.0 x.ensures.seat.1)

pub returns-then-seen-kept-clause-pager : goal.returns-then-seen-kept-clause-pager
returns-then-seen-kept-clause-pager g c =
    let r = c.requires in let v = c.args.seat.now.me.0.view in
    sym (dropped_map v c.args.page c.change_by-seen.result c.args.kept c.args.home.now.pager c.drop_page.new.self r.kept.kept r.kept.no_pin c.if-seen-kept.true (c.drop_page.ensures.dropped (frame_in c.args.kept) r.kept.holds))

pub returns-then-seen-kept-clause-view : goal.returns-then-seen-kept-clause-view
returns-then-seen-kept-clause-view g c = c.change_by-seen.ensures.then.0.view

pub returns-then-seen-kept-clause-found : goal.returns-then-seen-kept-clause-found
returns-then-seen-kept-clause-found g c = subst (λ (y : Setup). FindsEntry y c.args.home.now.pager c.args.page c.change_by-seen.result) (sym c.requires.room.turn.setup) c.change_by-seen.ensures.then.1

pub returns-then-seen-kept-clause-map : goal.returns-then-seen-kept-clause-map
returns-then-seen-kept-clause-map g c =
    map_less c.args.events.now.setup c.args.home.now.pager c.drop_page.new.self (frame_in c.args.kept) c.requires.room.map_is (c.drop_page.ensures.dropped (frame_in c.args.kept) c.requires.kept.holds) c.drop_page.ensures.lawful

pub returns-else-seen-kept-clause-step : goal.returns-else-seen-kept-clause-step
returns-else-seen-kept-clause-step g c =
    let t = c.args.events.now in let r = c.requires in let h = c.args.home.now in let x = c.change_by-seen in let seat = c.args.seat.now in let v = seat.me.0.view in let p = c.args.page in let sight = g.M.Medium.sight in
    subst (λ (m : PageMap). Paged sight t seat x.new.seat (record h { pager = m }))
    (other_map v p x.result c.args.kept h.pager r.kept.kept r.kept.no_pin c.if-seen-kept.false)
    (acted_paged sight t seat x.new.seat h r.room.turn (map_evicted p v h.pager x.result) (evict p) x.result x.ensures.then.0 refl x.ensures.seat.0 x.ensures.seat.1)

pub returns-else-seen-kept-clause-pager : goal.returns-else-seen-kept-clause-pager
returns-else-seen-kept-clause-pager g c = let r = c.requires in sym (other_map c.args.seat.now.me.0.view c.args.page c.change_by-seen.result c.args.kept c.args.home.now.pager r.kept.kept r.kept.no_pin c.if-seen-kept.false)

pub returns-else-seen-kept-clause-view : goal.returns-else-seen-kept-clause-view
returns-else-seen-kept-clause-view g c = c.change_by-seen.ensures.then.0.view

pub returns-else-seen-kept-clause-found : goal.returns-else-seen-kept-clause-found
returns-else-seen-kept-clause-found g c = subst (λ (y : Setup). FindsEntry y c.args.home.now.pager c.args.page c.change_by-seen.result) (sym c.requires.room.turn.setup) c.change_by-seen.ensures.then.1
