use Rattle.std.proofs.Common.{ℕ, ◌+◌, ◌-◌, ◌<◌, ◌≤◌, length, All, refl, subst, arith}
use Rattle.dude_base.specs.Records.{first_of}
use Rattle.redo_record.specs.Fits.{Logged, first_logged, cells_used}
use Rattle.redo_record.specs.Record.{cells_for}
use Rattle.log_ring.proofs.Laid.{laid_more, laid_few}
use Rattle.log_ring.proofs.ring.Ring.note.Goals as goal

pub push_reserved-requires : goal.push_reserved-requires
push_reserved-requires c =
    let a = c.self.inside in
    let some = c.cells_of-cells.ensures.some in
    let room : cells_used a.records.items + cells_for (length c.args.b.now.writes) ≤ a.place.cells = rw (← c.self.view_is) at c.requires.room in
    let few = laid_few a.records.items c.self.invariant.laid.some in
    omega (arith, c.self.invariant.room)

pub invariant_of-self : goal.invariant_of-self
invariant_of-self c =
    let a = c.self.inside in
    let new : Logged = record { last = c.last.result; span = c.last-2.result - c.first.result; slot = a.next; cells = c.cells_of-cells.result } in
    let room : cells_used a.records.items + cells_for (length c.args.b.now.writes) ≤ a.place.cells = rw (← c.self.view_is) at c.requires.room in
    let newest : All (λ (l : Logged). l.last < first_of c.args.b.now) a.records.items = rw (← c.self.view_is) at c.requires.newest in
    let lower : All (λ (l : Logged). l.last < first_logged new) a.records.items = subst (λ (n : ℕ). All (λ (l : Logged). l.last < n) a.records.items) (omega arith) newest in
    record {
      accepted = c.self.invariant.accepted;
      ring = c.self.invariant.ring;
      next = c.slot_after-self-inside.ensures.inside;
      room = rw c.push_reserved.ensures.capacity c.self.invariant.room;
      laid = rw (c.push_reserved.ensures.items, c.slot_after-self-inside.ensures.slot)
          (laid_more a.place a.next new refl c.self.invariant.next a.records.items c.cells_of-cells.ensures.some (omega (arith, c.cells_of-cells.ensures.cells, room)) lower c.self.invariant.laid);
    }
