use Rattle.stm_transactions.proofs.Moves.{may_post, was_posted}
use Rattle.stm_transactions.proofs.boxes.KeptSlotsBoxRuleSlotBesideOpening.post.Goals as goal

pub store_by-requires-clause-may : goal.store_by-requires-clause-may
store_by-requires-clause-may g c =
    let a = c.args in let r = c.requires in let l = c.change_slot in
    may_post g.M.Medium.sight a.stm.now.events c.box_count-boxes.ensures.setup a.seat.now l.new.seat c.box_number.result a.redo r.seat l.ensures.seat.0 l.ensures.me a.thread a.place r.may r.thread r.place r.record c.box_number.ensures

pub returns : goal.returns
returns g c =
    let a = c.args in let r = c.requires in let l = c.change_slot in let x = c.store_by in
    record { posted = was_posted g.M.Medium.sight a.stm.now.events c.box_count-boxes.ensures.setup a.seat.now l.new.seat c.box_number.result a.redo r.seat l.ensures.seat.0 l.ensures.me x.new.seat l.ensures.seat.1 x.ensures.seat.0 x.ensures.seat.1 x.ensures.then }
