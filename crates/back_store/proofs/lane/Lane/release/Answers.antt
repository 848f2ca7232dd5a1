use Rattle.std.proofs.Common.{◌≡◌, ◌<◌, ◌≤◌, nat_lt, List, map, refl, sym, ap, ◌∙◌, rules}
use Rattle.std.specs.List.{filter}
use Rattle.std.proofs.lemmas.Fn.{filter_same}
use Rattle.std.proofs.lemmas.List.Elements.{All-filter}
use Rattle.dude_base.specs.Records.{RedoBundle, IsBundle}
use Rattle.redo_record.specs.Fits.{Logged}
use Rattle.back_store.specs.declared.entry.Entry.{Entry}
use Rattle.back_store.specs.Entries.{bundle_in, logged_of}
use Rattle.back_store.specs.KeptLane.{waiting_in_lane}
use Rattle.back_store.proofs.LaneRecords.{rising_released}
use Rattle.back_store.proofs.LaneWrites.{filter-map}
use Rattle.back_store.proofs.lane.Lane.release.Goals as goal

kept : (c : goal.After-retain) → c.retain.new.self.items ≡ filter (λ (e : Entry). nat_lt c.args.reproduced e.last) c.self.inside.entries.items
kept c = filter_same _ _ _ (λ x b f' k. search rules) _ _ c.retain.ensures.filtered

-- the bundles left are those over the number
left : (c : goal.After-retain) → map (bundle_in c.self.inside.ring.sizes.cells c.self.inside.writes.items) c.retain.new.self.items ≡ filter (λ (r : RedoBundle). nat_lt c.args.reproduced r.last) (waiting_in_lane c.self.inside)
left c =
    ap (map (bundle_in c.self.inside.ring.sizes.cells c.self.inside.writes.items)) (kept c)
    ∙ sym (filter-map (λ (r : RedoBundle). nat_lt c.args.reproduced r.last) (bundle_in c.self.inside.ring.sizes.cells c.self.inside.writes.items) c.self.inside.entries.items)

pub invariant_of-self : goal.invariant_of-self
invariant_of-self c =
    let old = c.self.invariant in
    record {
      room = rw (c.release.ensures.ring, c.retain.ensures.capacity) old.room;
      places = rw c.release.ensures.ring old.places;
      same = rw c.release.ensures.ring (ap (λ (ls : List Logged). filter (λ (l : Logged). nat_lt c.args.reproduced l.last) ls) old.same
          ∙ filter-map (λ (l : Logged). nat_lt c.args.reproduced l.last) logged_of c.self.inside.entries.items ∙ ap (map logged_of) (sym (kept c)));
      bundles = rw (c.release.ensures.ring, left c) (All-filter (λ (r : RedoBundle). nat_lt c.args.reproduced r.last) IsBundle (waiting_in_lane c.self.inside) old.bundles);
      some = rw (kept c) (All-filter (λ (e : Entry). nat_lt c.args.reproduced e.last) (λ (e : Entry). 1 ≤ e.last) c.self.inside.entries.items old.some);
      inside = rw (c.release.ensures.ring, kept c) (All-filter (λ (e : Entry). nat_lt c.args.reproduced e.last) (λ (e : Entry). e.slot < c.self.inside.ring.sizes.cells) c.self.inside.entries.items old.inside);
      rising = rw (c.release.ensures.ring, left c) (rising_released c.args.reproduced (waiting_in_lane c.self.inside) old.rising);
    }

pub returns : goal.returns
returns c = rw (c.release.ensures.ring, left c, ← c.self.view_is) refl
