use Rattle.std.proofs.Common.{◌≡◌, ◌<◌, [], length, get_or, sym, ap, ◌∙◌, subst, arith}
use Rattle.std.proofs.lemmas.List.{get_or_default}
use Rattle.dude_base.specs.declared.sizes.Sizes.{Sizes}
use Rattle.dude_base.specs.Records.{RedoBundle}
use Rattle.back_store.specs.declared.entry.Entry.{Entry}
use Rattle.back_store.specs.Entries.{bundle_in, no_write, write_place}
use Rattle.back_store.specs.KeptLane.{waiting_in_lane}
use Rattle.back_store.proofs.KeptLanes.{bundle_at_entry, count_in, length_waiting, write_in}
use Rattle.back_store.proofs.lane.Lane.write_at.Goals as goal

cells : (c : goal.After-from) → c.sizes-cells.result.cells ≡ c.self.inside.ring.sizes.cells
cells c = ap (λ (s : Sizes). s.cells) (c.sizes-cells.ensures.sizes ∙ c.place.ensures.sizes)

within : (c : goal.After-from) → c.args.k < length c.self.inside.entries.items
within c =
    let lt : c.args.k < length (waiting_in_lane c.self.inside) = rw (← c.self.view_is) at c.requires.within in
    omega (arith, length_waiting c.self.inside)

-- the write is one of its bundle
few : (c : goal.After-from) → c.args.i < c.index.result.now.count
few c =
    let a = c.self.inside in
    let none : RedoBundle = record { last = 0; span = 0; writes = [] } in
    let lt : c.args.i < length (get_or (waiting_in_lane a) c.args.k none).writes = rw (← c.self.view_is) at (c.requires.few none) in
    let count : length (get_or (waiting_in_lane a) c.args.k none).writes ≡ c.index.result.now.count =
    ap (λ (r : RedoBundle). length r.writes) (bundle_at_entry a c.args.k none c.index.result.now (within c)) ∙ count_in a.ring.sizes.cells a.writes.items (get_or a.entries.items c.args.k c.index.result.now) ∙ ap (λ (x : Entry). x.count) (sym c.index.ensures) in
    omega arith

pub write_place-requires-clause-slot : goal.write_place-requires-clause-slot
write_place-requires-clause-slot c =
    let inside : c.index.result.now.slot < c.self.inside.ring.sizes.cells =
    subst (λ (x : Entry). x.slot < c.self.inside.ring.sizes.cells) (sym c.index.ensures) (c.self.invariant.inside c.args.k c.index.result.now (within c)) in
    omega (arith, cells c, c.from.ensures)

pub write_place-requires-clause-few : goal.write_place-requires-clause-few
write_place-requires-clause-few c =
    let a = c.self.inside in
    let none : RedoBundle = record { last = 0; span = 0; writes = [] } in
    let lt : c.args.i < length (get_or (waiting_in_lane a) c.args.k none).writes = rw (← c.self.view_is) at (c.requires.few none) in
    let most = (c.self.invariant.bundles c.args.k none (omega (arith, length_waiting a, within c))).writes_are.few in
    omega arith

pub returns : goal.returns
returns c d w =
    let a = c.self.inside in
    let e : Entry = c.index.result.now in
    let place : c.write_place.result ≡ write_place a.ring.sizes.cells e.slot c.args.i = c.write_place.ensures.place ∙ ap (λ n. write_place c.sizes-cells.result.cells n c.args.i) c.from.ensures ∙ ap (λ n. write_place n e.slot c.args.i) (cells c.before.before.before) in
    let inside : c.write_place.result < length a.writes.items = (let lt = c.write_place.ensures.inside in omega (arith, cells c.before.before.before, c.self.invariant.places)) in
    rw (← c.self.view_is) (ap (λ (r : RedoBundle). get_or r.writes c.args.i w) (bundle_at_entry a c.args.k d e (within c.before.before.before) ∙ ap (λ (x : Entry). bundle_in a.ring.sizes.cells a.writes.items x) (sym c.index.ensures))
    ∙ write_in a.ring.sizes.cells a.writes.items e c.args.i w (few c.before.before.before) ∙ ap (λ n. get_or a.writes.items n no_write) (sym place)
    ∙ get_or_default a.writes.items c.write_place.result no_write c.index-2.result.now inside ∙ sym c.index-2.ensures)
