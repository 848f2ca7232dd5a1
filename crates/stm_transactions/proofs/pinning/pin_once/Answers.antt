use Rattle.std.proofs.Common.{◌≡◌, List, None, subst, sym, ◌∙◌, rules}
use Rattle.dude_base.specs.declared.write.Write.{Write}
use Rattle.dude_base.specs.Writes.{written}
use Rattle.stm_transactions.specs.Pairs.{pairs_of}
use Rattle.stm_transactions.specs.Pins.{Paged}
use Rattle.stm_transactions.proofs.Pairs.{put_new, noted_new}
use Rattle.stm_transactions.proofs.PinningAll.{more_pins}
use Rattle.stm_transactions.proofs.pinning.pin_once.Goals as goal

pub returns-clause-ok : goal.returns-clause-ok
returns-clause-ok g c =
    let none : written c.args.frames.now c.args.page ≡ None = search rules in
    let end = put_new c.args.frames.now c.args.page c.in_ok-frame.frame none in
    let paged = more_pins c.args.page c.args.frames.now c.args.seat.now.me.0.view c.requires.pinning c.in_ok-frame.frame c.pin_page.new.seat.me.0.view c.in_ok-frame.ensures.ok in (
      subst (λ (ws : List Write). Paged (pairs_of ws) c.args.seat.now.me.0.view c.pin_page.new.seat.me.0.view) (sym (c.in-Ok.ensures.ok ∙ end)) paged,
      noted_new c.args.frames.now c.put.new.self c.args.page c.in_ok-frame.frame none c.in-Ok.ensures.ok,
    )
