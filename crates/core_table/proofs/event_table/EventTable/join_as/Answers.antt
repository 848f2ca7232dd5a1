use Rattle.std.proofs.Common.{◌≡◌, ◌∙◌, sym, ap}
use Rattle.core_table.specs.Layout.{TableSight}
use Rattle.core_table.specs.Seats.{known_both}
use Rattle.core_table.proofs.Events.{by_resting, key_of, setup_of_key}
use Rattle.core_table.proofs.Found.{joined_by}
use Rattle.core_table.proofs.Parted.{by_join, some_word}
use Rattle.core_table.proofs.event_table.EventTable.join_as.Goals as goal

pub join_seat-requires : goal.join_seat-requires
join_seat-requires g c =
    let t = c.args.self.now in let i = c.self.inside.table.shared in let seat = c.args.seat.now in let r = c.requires in
    let key_is : i.key ≡ t.key = key_of g.P.SlotRule.setup t i.key i.table_id c.self.view_is in
    let is : g.P.SlotRule.setup t.key ≡ t.setup = setup_of_key g.P.SlotRule.setup t i.key i.table_id c.self.view_is in let id_is = sym (ap (λ (u : TableSight g.row.K.Denot). u.id) c.self.view_is) in (
      r.seat.table ∙ id_is,
      r.other.0.table ∙ id_is,
      r.other.1,
      some_word t (g.P.SlotRule.setup i.key) i.table_id c.self.invariant.words_are,
      rw (key_is, is, r.setup) (by_join (g.P.SlotRule.fact t.key) t.setup g.P.SlotRule.beside seat.id c.args.other.id seat.me.0 c.args.other.me.0 r.can r.slots),
    )

pub load-requires : goal.load-requires
load-requires g c =
    let t = c.args.self.now in let i = c.self.inside.table.shared in let r = c.requires in let joined = c.join_seat.new.seat in
    let key_is : i.key ≡ t.key = key_of g.P.SlotRule.setup t i.key i.table_id c.self.view_is in
    let is : g.P.SlotRule.setup t.key ≡ t.setup = setup_of_key g.P.SlotRule.setup t i.key i.table_id c.self.view_is in (
      c.join_seat.ensures.0 ∙ (r.seat.table ∙ sym (ap (λ (u : TableSight g.row.K.Denot). u.id) c.self.view_is)),
      some_word t (g.P.SlotRule.setup i.key) i.table_id c.self.invariant.words_are,
      rw (key_is, is, r.setup) (by_resting (g.P.SlotRule.fact t.key) t.setup i.table_id.slots joined.id joined.me),
    )

pub returns : goal.returns
returns g c =
    let r = c.requires in let made = c.join_seat.ensures in let rests = c.load.ensures in
    joined_by c.args.self.now g.C.Cut.setup c.args.seat.now c.join_seat.new.seat c.load.new.seat (known_both c.args.seat.now.me.0 c.args.other.me.0) r.setup r.seat made.0 made.1 made.2 rests.0 rests.1 rests.2
