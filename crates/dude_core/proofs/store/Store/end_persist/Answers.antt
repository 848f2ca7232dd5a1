use Rattle.std.proofs.Common.{◌≡◌, ◌+◌, ◌*◌, ◌<◌, ◌∷◌, [], ◌++◌, List, All, length, length-set, take, drop, get_or, set, sym, ap, subst, ◌∙◌, arith, rules}
use Rattle.std.proofs.Math.Nat.{mod-lt}
use Rattle.std.proofs.lemmas.List.Elements.{All-push, All-set}
use Rattle.dude_base.specs.declared.limits.TheConstants.{PAGE}
use Rattle.dude_base.specs.Records.{HasNumbers}
use Rattle.pmem_trait.specs.declared.call.Call.{Call}
use Rattle.redo_record.specs.Record.{cells_for}
use Rattle.redo_record.specs.Waiting.{Waiting}
use Rattle.dude_core.specs.StoreData.{RingData, StoreData, no_ring}
use Rattle.dude_core.specs.Effects.{added, appends, called, left_of}
use Rattle.dude_core.proofs.StoreViews.{persisted_by, written_back}
use Rattle.dude_core.proofs.store.Store.end_persist.Goals as goal

-- the rings, with the bundle behind the others of its ring
rings_is : (c : goal.After-self-2-1) → take c.self.inside.rings.len (c.add_bundle.new.rings ++ drop (length c.add_bundle.new.rings) c.self.inside.rings.items)
    ≡ set c.self.inside.rings.items c.args.ring (added c.self.inside.place c.args.ring c.args.bundle (get_or c.self.inside.rings.items c.args.ring no_ring))
rings_is c =
    let a = c.self.inside in
    let with_it : RingData = added a.place c.args.ring c.args.bundle (get_or a.rings.items c.args.ring no_ring) in
    written_back a.rings.len _ c.add_bundle.new.rings a.rings.items (set a.rings.items c.args.ring with_it) c.deref_mut.ensures.value c.deref_mut.ensures.len
    (rw c.deref_mut.ensures.value at c.in_ok-add_bundle.ensures.ok) (length-set a.rings.items c.args.ring with_it)

-- the bundle waits behind the others
waiting_is : (c : goal.After-self-2-1) → c.push_reserved.new.self.items ≡ c.self.inside.waiting.items ++ record { ring = c.args.ring; redo = c.args.bundle } ∷ []
waiting_is c =
    c.push_reserved.ensures.items ∙ (ap (λ (ws : List Waiting). ws ++ c.new.result ∷ []) c.reserve-2.ensures.items ∙ ap (λ (v : Waiting). c.self.inside.waiting.items ++ v ∷ []) c.new.ensures)

pub invariant_of-self-2 : goal.invariant_of-self-2
invariant_of-self-2 c =
    let a = c.self.inside in
    let ring : RingData = get_or a.rings.items c.args.ring no_ring in
    let w : Waiting = record { ring = c.args.ring; redo = c.args.bundle } in
    let below : c.args.ring < a.place.rings = rw (← c.self.view_is) at c.requires.ring in
    let slot : ring.next < a.place.cells = c.self.invariant.slots c.args.ring no_ring (let all = c.self.invariant.rings in omega arith) in
    record {
      since = search rules;
      rings = ap length (rings_is c) ∙ (length-set a.rings.items c.args.ring (added a.place c.args.ring c.args.bundle ring) ∙ c.self.invariant.rings);
      slots = subst (All (λ (r : RingData). r.next < a.place.cells)) (sym (rings_is c))
          (All-set (λ (r : RingData). r.next < a.place.cells) a.rings.items c.args.ring (added a.place c.args.ring c.args.bundle ring)
          (mod-lt (ring.next + cells_for (length c.args.bundle.writes)) (let some : 0 < a.place.cells = omega arith in some)) c.self.invariant.slots);
      home = c.self.invariant.home;
      numbers = subst (All (λ (v : Waiting). HasNumbers v.redo)) (sym (waiting_is c)) (All-push (λ (v : Waiting). HasNumbers v.redo) a.waiting.items w c.self.invariant.numbers c.requires.numbers);
      inside = subst (All (λ (v : Waiting). All (λ u. u.at < a.place.pages * PAGE) v.redo.writes)) (sym (waiting_is c))
          (All-push (λ (v : Waiting). All (λ u. u.at < a.place.pages * PAGE) v.redo.writes) a.waiting.items w c.self.invariant.inside (rw (← c.self.view_is) at c.requires.inside));
    }

pub returns-clause-ok : goal.returns-clause-ok
returns-clause-ok c =
    let a = c.self.inside in
    let made_is : c.push_reserved-2.new.self.items ≡ a.made.items ++ c.args.call ∷ [] = c.push_reserved-2.ensures.items ∙ ap (λ (cs : List Call). cs ++ c.args.call ∷ []) c.reserve.ensures.items in
    let since_is : c.len.result ≡ length c.push_reserved-2.new.self.items = search rules in
    persisted_by a.made.items a.since c.args.call a.place a.rings.items a.waiting.items a.home.items a.reproduced a.released a.marks a.read c.args.ring c.args.bundle
    (take a.rings.len (c.add_bundle.new.rings ++ drop (length c.add_bundle.new.rings) a.rings.items)) c.push_reserved.new.self.items c.push_reserved-2.new.self.items c.len.result (rings_is c) (waiting_is c) made_is since_is
    ∙ ap (λ (d : StoreData). left_of (appends c.args.ring c.args.bundle) (called c.args.call d)) c.self.view_is
