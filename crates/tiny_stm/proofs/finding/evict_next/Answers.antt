use Rattle.std.proofs.Common.{◌∙◌, refl, arith}
use Rattle.core_events.specs.Setups.{frame_in}
use Rattle.tiny_stm.proofs.Evicting.{entry_kept, entry_pinned, evict_pinned, looked, may_on, tried_room}
use Rattle.tiny_stm.proofs.Maps.{bare_by_rest, evicted_free, found_other, pins_by_other, pins_by_rest, some_occupied, victim_here}
use Rattle.tiny_stm.proofs.finding.evict_next.Goals as goal

pub unreachable-requires : goal.unreachable-requires
unreachable-requires g c = c.in_default.ensures.none.0 refl (some_occupied c.args.home.now.pager c.requires.room.map_is.one_to_one c.requires.full)

pub see_entry-kept-requires-clause-page : goal.see_entry-kept-requires-clause-page
see_entry-kept-requires-clause-page g c =
    let m = c.args.home.now.pager in let r = c.requires.room.map_is in let at = victim_here m c.victim.new.self c.in-Some.page c.in-Some.ensures.victim c.requires.full r.one_to_one in
    let below = r.one_to_one.inside m.hand c.in-Some.page at.0 in let e = r.pages in omega arith

pub returns-then-kept-ne0-clause-room : goal.returns-then-kept-ne0-clause-room
returns-then-kept-ne0-clause-room g c =
    let e = c.see_entry-kept in
    (looked g.M.Medium.sight c.args.events.now c.args.wanted c.in-Some.page e.result c.args.seat.now e.new.seat c.args.home.now c.victim.new.self c.requires.room c.requires.full c.in-Some.ensures.victim e.ensures.step e.ensures.view e.ensures.found).room

pub returns-then-kept-ne0-clause-err : goal.returns-then-kept-ne0-clause-err
returns-then-kept-ne0-clause-err g c =
    let t = c.args.events.now in let e = c.see_entry-kept in
    let l = looked g.M.Medium.sight t c.args.wanted c.in-Some.page e.result c.args.seat.now e.new.seat c.args.home.now c.victim.new.self c.requires.room c.requires.full c.in-Some.ensures.victim e.ensures.step e.ensures.view e.ensures.found in
    entry_pinned t.setup c.args.seat.now.me.0.view e.new.seat.me.0.view c.args.home.now.pager c.victim.new.self c.in-Some.page e.result l.map_is l.holds e.ensures.view l.names (pins_by_rest e.result c.if-kept-ne0.true)

pub evict-seen-requires-clause-room : goal.evict-seen-requires-clause-room
evict-seen-requires-clause-room g c =
    let e = c.see_entry-kept in let t = c.args.events.now in let h = c.args.home.now in let sight = g.M.Medium.sight in
    let l = looked sight t c.args.wanted c.in-Some.page e.result c.args.seat.now e.new.seat h c.victim.new.self c.requires.room c.requires.full c.in-Some.ensures.victim e.ensures.step e.ensures.view e.ensures.found in
    may_on sight t c.args.wanted c.args.seat.now e.new.seat h (record h { pager = c.victim.new.self }) l.room

pub evict-seen-requires-clause-page : goal.evict-seen-requires-clause-page
evict-seen-requires-clause-page g c =
    let m = c.args.home.now.pager in let r = c.requires.room.map_is in let at = victim_here m c.victim.new.self c.in-Some.page c.in-Some.ensures.victim c.requires.full r.one_to_one in
    let below = r.one_to_one.inside m.hand c.in-Some.page at.0 in let e = r.pages in omega arith

pub evict-seen-requires-clause-kept : goal.evict-seen-requires-clause-kept
evict-seen-requires-clause-kept g c =
    let e = c.see_entry-kept in let t = c.args.events.now in
    let l = looked g.M.Medium.sight t c.args.wanted c.in-Some.page e.result c.args.seat.now e.new.seat c.args.home.now c.victim.new.self c.requires.room c.requires.full c.in-Some.ensures.victim e.ensures.step e.ensures.view e.ensures.found in
    record { kept = entry_kept t.setup c.args.seat.now.me.0.view e.new.seat.me.0.view c.in-Some.page e.result e.ensures.view; some_frame = l.some_frame; holds = l.holds_now; no_pin = bare_by_rest e.result c.if-kept-ne0.false }

pub returns-then-seen-kept-clause-room : goal.returns-then-seen-kept-clause-room
returns-then-seen-kept-clause-room g c =
    let e = c.see_entry-kept in let x = c.evict-seen in let t = c.args.events.now in let h = c.args.home.now in let sight = g.M.Medium.sight in let p = c.in-Some.page in
    tried_room sight t c.args.wanted p e.result x.result c.args.seat.now e.new.seat x.new.seat h c.victim.new.self x.new.home
    (looked sight t c.args.wanted p e.result c.args.seat.now e.new.seat h c.victim.new.self c.requires.room c.requires.full c.in-Some.ensures.victim e.ensures.step e.ensures.view e.ensures.found)
    x.ensures.step x.ensures.back x.ensures.view x.ensures.found x.ensures.pager x.ensures.map

pub returns-then-seen-kept-clause-err : goal.returns-then-seen-kept-clause-err
returns-then-seen-kept-clause-err g c =
    let e = c.see_entry-kept in let x = c.evict-seen in let t = c.args.events.now in let p = c.in-Some.page in let v = c.args.seat.now.me.0.view in let w = e.new.seat.me.0.view in
    let l = looked g.M.Medium.sight t c.args.wanted p e.result c.args.seat.now e.new.seat c.args.home.now c.victim.new.self c.requires.room c.requires.full c.in-Some.ensures.victim e.ensures.step e.ensures.view e.ensures.found in
    let again = x.ensures.found.named (frame_in e.result) l.holds_now in let bare = bare_by_rest e.result c.if-kept-ne0.false in
    evict_pinned t.setup v w x.new.seat.me.0.view c.args.home.now.pager c.victim.new.self x.new.home.pager p e.result x.result l.map_is x.ensures.pager l.holds e.ensures.view x.ensures.view
    (found_other w p x.result e.result (entry_kept t.setup v w p e.result e.ensures.view) bare c.if-seen-kept.true) (again.1 ∙ l.names) (pins_by_other x.result e.result again.0 l.some_frame again.1 bare c.if-seen-kept.true)

pub returns-clause-room : goal.returns-clause-room
returns-clause-room g c =
    let e = c.see_entry-kept in let x = c.evict-seen in let t = c.args.events.now in let h = c.args.home.now in let sight = g.M.Medium.sight in let p = c.in-Some.page in
    tried_room sight t c.args.wanted p e.result x.result c.args.seat.now e.new.seat x.new.seat h c.victim.new.self x.new.home
    (looked sight t c.args.wanted p e.result c.args.seat.now e.new.seat h c.victim.new.self c.requires.room c.requires.full c.in-Some.ensures.victim e.ensures.step e.ensures.view e.ensures.found)
    x.ensures.step x.ensures.back x.ensures.view x.ensures.found x.ensures.pager x.ensures.map

pub returns-clause-ok : goal.returns-clause-ok
returns-clause-ok g c =
    let e = c.see_entry-kept in let x = c.evict-seen in let t = c.args.events.now in let p = c.in-Some.page in let v = c.args.seat.now.me.0.view in let w = e.new.seat.me.0.view in
    let l = looked g.M.Medium.sight t c.args.wanted p e.result c.args.seat.now e.new.seat c.args.home.now c.victim.new.self c.requires.room c.requires.full c.in-Some.ensures.victim e.ensures.step e.ensures.view e.ensures.found in
    evicted_free w p x.result e.result c.victim.new.self x.new.home.pager (entry_kept t.setup v w p e.result e.ensures.view) (bare_by_rest e.result c.if-kept-ne0.false) c.if-seen-kept.false l.holds_now x.ensures.pager
