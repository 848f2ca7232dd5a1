use Rattle.std.proofs.Common.{◌≡◌, true, ap, subst, arith}
use Rattle.std.specs.Prelude.{OnErr}
use Rattle.core_events.specs.Setups.{Setup}
use Rattle.stm_slots.specs.Opening.{since_of}
use Rattle.tiny_stm.proofs.Placing.{may_fill_read, read_died, read_turn}
use Rattle.tiny_stm.proofs.Turning.{same_paged, then_paged}
use Rattle.back_store.specs.BackView.{state_of}
use Rattle.tiny_stm.proofs.filling.place_page.Goals as goal

pub read_page-requires : goal.read_page-requires
read_page-requires g c =
    let r = c.requires.place.room in let i = r.turn in let setup = ap (λ (y : Setup). y.pages) i.setup in let few = i.holding.pages in let m = r.map_is.pages in let low = r.absent.inside in omega arith

pub returns-in_default-clause-step : goal.returns-in_default-clause-step
returns-in_default-clause-step g c =
    let t = c.args.stm.now.events in let i = c.requires.place.room.turn in let x = c.read_page in let h = c.args.home.now in let sight = g.M.Medium.sight in
    same_paged sight t c.args.seat.now (record h { back = x.new.back }) (read_turn sight t c.args.seat.now h x.new.back i x.result x.ensures.state (x.ensures.known (since_of sight t.key) i.holding.records i.holding.known))

pub returns-in_default-clause-died : goal.returns-in_default-clause-died
returns-in_default-clause-died g c =
    let x = c.read_page in
    subst (λ q. OnErr q ((state_of x.new.back).dead ≡ true)) c.in_default.is (read_died (state_of c.args.home.now.back) (state_of x.new.back) x.result x.ensures.state x.ensures.cause.dead x.ensures.cause.only)

pub fill_words-requires : goal.fill_words-requires
fill_words-requires g c =
    let t = c.args.stm.now.events in let p = c.requires.place in let i = p.room.turn in let x = c.read_page in let h = c.args.home.now in let sight = g.M.Medium.sight in
    record { fill = may_fill_read sight t c.args.page c.args.frame x.new.into c.args.seat.now h x.new.back p c.in-Ok.ensures.state (x.ensures.known (since_of sight t.key) i.holding.records i.holding.known) c.in-Ok.ensures.reads.words }

pub returns-clause-step : goal.returns-clause-step
returns-clause-step g c =
    let h = c.args.home.now in
    then_paged g.M.Medium.sight c.args.stm.now.events c.args.seat.now c.fill_words.new.seat c.show.new.seat (record h { back = c.read_page.new.back }) c.show.new.home c.fill_words.ensures.step c.show.ensures.step
