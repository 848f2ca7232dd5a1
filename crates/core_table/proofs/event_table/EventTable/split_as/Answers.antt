use Rattle.std.proofs.Common.{◌≡◌, ◌∙◌, sym, ap}
use Rattle.core_table.specs.Layout.{TableSight}
use Rattle.core_table.proofs.Events.{key_of, setup_of_key}
use Rattle.core_table.proofs.Parted.{by_split, seated_left, some_word}
use Rattle.core_table.proofs.event_table.EventTable.split_as.Goals as goal

pub split_seat-requires : goal.split_seat-requires
split_seat-requires g c =
    let t = c.args.self.now in let i = c.self.inside.table.shared in let seat = c.args.seat.now in let r = c.requires in
    let key_is : i.key ≡ t.key = key_of g.P.SlotRule.setup t i.key i.table_id c.self.view_is in
    let is : g.P.SlotRule.setup t.key ≡ t.setup = setup_of_key g.P.SlotRule.setup t i.key i.table_id c.self.view_is in (
      r.seat.table ∙ sym (ap (λ (u : TableSight g.row.K.Denot). u.id) c.self.view_is),
      some_word t (g.P.SlotRule.setup i.key) i.table_id c.self.invariant.words_are,
      rw (key_is, is, r.setup) (by_split (g.P.SlotRule.fact t.key) t.setup g.P.SlotRule.beside seat.id g.C.Cut.draws seat.me.0 r.can r.slots),
    )

pub returns-clause-seat : goal.returns-clause-seat
returns-clause-seat g c =
    let t = c.args.self.now in let old = c.args.seat.now in let r = c.requires in let e = c.split_seat.ensures in (
      record { table = e.0 ∙ r.seat.table; small = r.seat.small; seated = rw e.2 (seated_left t.setup g.C.Cut.draws old.me.0.view r.seat.seated) },
      e.1,
      e.2,
    )
