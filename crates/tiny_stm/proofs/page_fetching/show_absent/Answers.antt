use Rattle.std.proofs.Common.{◌∙◌, refl, ap, arith}
use Rattle.back_store.specs.BackView.{state_of}
use Rattle.tiny_stm.proofs.Evicting.{may_on}
use Rattle.tiny_stm.proofs.Fetched.{placed_comes, settled_to_on}
use Rattle.tiny_stm.proofs.QuietPages.{may_touch, touch_kept, touched_paged, touched_room}
use Rattle.tiny_stm.proofs.Turning.{then_paged}
use Rattle.tiny_stm.proofs.page_fetching.show_absent.Goals as goal

pub load_touch-touch-requires : goal.load_touch-touch-requires
load_touch-touch-requires g c = record { may = may_touch g.M.Medium.sight c.args.stm.now.events c.args.page c.args.seat.now c.args.home.now c.requires.room }

pub returns-then-touch-reproduced-clause-step : goal.returns-then-touch-reproduced-clause-step
returns-then-touch-reproduced-clause-step g c =
    let x = c.load_touch-touch in touched_paged g.M.Medium.sight c.args.stm.now.events c.args.page x.result c.args.seat.now x.new.seat c.args.home.now c.requires.room x.ensures.found.made x.ensures.view

pub returns-then-touch-reproduced-clause-comes : goal.returns-then-touch-reproduced-clause-comes
returns-then-touch-reproduced-clause-comes g c =
    let x = c.load_touch-touch in let t = c.args.stm.now.events in let seat = c.args.seat.now in let h = c.args.home.now in let sight = g.M.Medium.sight in
    let step = touched_paged sight t c.args.page x.result seat x.new.seat h c.requires.room x.ensures.found.made x.ensures.view in
    (settled_to_on sight t c.args.reproduced seat x.new.seat h h c.requires.settled step refl, touch_kept sight t c.args.page x.result seat x.new.seat x.ensures.view, c.if-touch-reproduced.true)

pub find_frame-requires : goal.find_frame-requires
find_frame-requires g c =
    let x = c.load_touch-touch in record { room = touched_room g.M.Medium.sight c.args.stm.now.events c.args.page x.result c.args.seat.now x.new.seat c.args.home.now c.requires.room x.ensures.found.made x.ensures.view }

pub place_page-requires : goal.place_page-requires
place_page-requires g c =
    let x = c.load_touch-touch in let t = c.args.stm.now.events in let seat = c.args.seat.now in let h = c.args.home.now in let sight = g.M.Medium.sight in let f = c.find_frame in let p = c.args.page in
    let step = touched_paged sight t p x.result seat x.new.seat h c.requires.room x.ensures.found.made x.ensures.view in
    let both = then_paged sight t seat x.new.seat f.new.seat h f.new.home step f.ensures.room.step in record {
      place = record {
        room = may_on sight t p x.new.seat f.new.seat h f.new.home f.ensures.room;
        free = c.in-Ok.ensures.ok;
        number = c.args.reproduced;
        settled = (settled_to_on sight t c.args.reproduced seat f.new.seat h f.new.home c.requires.settled both (ap (λ b. state_of b) f.ensures.room.back)).settled;
        shown = (settled_to_on sight t c.args.reproduced seat f.new.seat h f.new.home c.requires.settled both (ap (λ b. state_of b) f.ensures.room.back)).shown;
        touch = x.result;
        touched = f.ensures.room.touches ∙ touch_kept sight t p x.result seat x.new.seat x.ensures.view;
        reproduced = (let le = c.if-touch-reproduced.false in omega arith);
      };
    }

pub returns-in-Ok-clause-step : goal.returns-in-Ok-clause-step
returns-in-Ok-clause-step g c =
    let x = c.load_touch-touch in let t = c.args.stm.now.events in let seat = c.args.seat.now in let h = c.args.home.now in let sight = g.M.Medium.sight in let f = c.find_frame in let p = c.place_page in
    let step = touched_paged sight t c.args.page x.result seat x.new.seat h c.requires.room x.ensures.found.made x.ensures.view in
    then_paged sight t seat f.new.seat p.new.seat f.new.home p.new.home (then_paged sight t seat x.new.seat f.new.seat h f.new.home step f.ensures.room.step) p.ensures.step

pub returns-in-Ok-clause-comes : goal.returns-in-Ok-clause-comes
returns-in-Ok-clause-comes g c =
    let x = c.load_touch-touch in let t = c.args.stm.now.events in let seat = c.args.seat.now in let h = c.args.home.now in let sight = g.M.Medium.sight in let f = c.find_frame in let p = c.place_page in
    let step = touched_paged sight t c.args.page x.result seat x.new.seat h c.requires.room x.ensures.found.made x.ensures.view in
    let all = then_paged sight t seat f.new.seat p.new.seat f.new.home p.new.home (then_paged sight t seat x.new.seat f.new.seat h f.new.home step f.ensures.room.step) p.ensures.step in
    placed_comes sight t c.args.page p.result p.new.seat p.new.home _ _
    (λ kept same. (c.args.reproduced, settled_to_on sight t c.args.reproduced seat p.new.seat h p.new.home c.requires.settled all (same ∙ ap (λ b. state_of b) f.ensures.room.back), kept))
    p.ensures.ok p.ensures.back p.ensures.err p.ensures.died

pub returns-in-Err-clause-step : goal.returns-in-Err-clause-step
returns-in-Err-clause-step g c =
    let x = c.load_touch-touch in let t = c.args.stm.now.events in let seat = c.args.seat.now in let h = c.args.home.now in let sight = g.M.Medium.sight in let f = c.find_frame in
    then_paged sight t seat x.new.seat f.new.seat h f.new.home (touched_paged sight t c.args.page x.result seat x.new.seat h c.requires.room x.ensures.found.made x.ensures.view) f.ensures.room.step

pub returns-in-Err-clause-comes : goal.returns-in-Err-clause-comes
returns-in-Err-clause-comes g c =
    let x = c.load_touch-touch in let t = c.args.stm.now.events in let seat = c.args.seat.now in let h = c.args.home.now in let sight = g.M.Medium.sight in let f = c.find_frame in let p = c.args.page in
    let step = touched_paged sight t p x.result seat x.new.seat h c.requires.room x.ensures.found.made x.ensures.view in
    let both = then_paged sight t seat x.new.seat f.new.seat h f.new.home step f.ensures.room.step in (
      c.args.reproduced,
      settled_to_on sight t c.args.reproduced seat f.new.seat h f.new.home c.requires.settled both (ap (λ b. state_of b) f.ensures.room.back),
      c.in-Err.ensures.err,
      (x.result, f.ensures.room.touches ∙ touch_kept sight t p x.result seat x.new.seat x.ensures.view, (let le = c.if-touch-reproduced.false in omega arith)),
    )
