use Rattle.std.proofs.Common.{◌≡◌, ◌*◌, ◌<◌, nat_lt, ◌∷◌, [], ◌++◌, List, All, length, take, drop, sym, ap, subst, ◌∙◌, rules}
use Rattle.std.specs.List.{filter}
use Rattle.std.proofs.lemmas.Fn.{filter_same}
use Rattle.std.proofs.lemmas.List.{length-map}
use Rattle.std.proofs.lemmas.List.Elements.{All-map, All-filter}
use Rattle.dude_base.specs.declared.limits.TheConstants.{PAGE}
use Rattle.dude_base.specs.Records.{HasNumbers}
use Rattle.dude_base.specs.Writes.{overwritten}
use Rattle.dude_base.proofs.Overwriting.{length-overwritten}
use Rattle.pmem_trait.specs.declared.call.Call.{Call}
use Rattle.redo_record.specs.Waiting.{Waiting}
use Rattle.dude_core.specs.StoreData.{RingData, StoreData}
use Rattle.dude_core.specs.Effects.{ring_released, replays, called, left_of}
use Rattle.dude_core.proofs.StoreViews.{reproduced_by, written_back}
use Rattle.dude_core.proofs.store.Store.end_reproduce.Goals as goal

-- bundles up to the number wait no more
waiting_is : (c : goal.After-self-4-1) → c.retain.new.self.items ≡ filter (λ w. nat_lt c.args.number w.redo.last) c.self.inside.waiting.items
waiting_is c = filter_same _ (λ (w : Waiting). nat_lt c.args.number w.redo.last) _ (λ x b f q. search rules) _ _ c.retain.ensures.filtered

-- the home is overwritten
home_is : (c : goal.After-self-4-1) → take c.self.inside.home.len (c.put_home.new.home ++ drop (length c.put_home.new.home) c.self.inside.home.items) ≡ overwritten c.args.writes.now c.self.inside.home.items
home_is c =
    let a = c.self.inside in
    written_back a.home.len _ c.put_home.new.home a.home.items (overwritten c.args.writes.now a.home.items) c.deref_mut.ensures.value c.deref_mut.ensures.len
    (rw c.deref_mut.ensures.value at c.put_home.ensures) (length-overwritten c.args.writes.now a.home.items)

pub invariant_of-self-2 : goal.invariant_of-self-2
invariant_of-self-2 c =
    let a = c.self.inside in
    record {
      since = search rules;
      rings = ap length c.release_rings.ensures ∙ (length-map a.rings.items (ring_released c.args.number) ∙ c.self.invariant.rings);
      slots = subst (All (λ (r : RingData). r.next < a.place.cells)) (sym c.release_rings.ensures)
          (All-map (λ (r : RingData). r.next < a.place.cells) (ring_released c.args.number) a.rings.items c.self.invariant.slots);
      home = ap length (home_is c) ∙ (length-overwritten c.args.writes.now a.home.items ∙ c.self.invariant.home);
      numbers = subst (All (λ (v : Waiting). HasNumbers v.redo)) (sym (waiting_is c)) (All-filter (λ (w : Waiting). nat_lt c.args.number w.redo.last) (λ (v : Waiting). HasNumbers v.redo) a.waiting.items c.self.invariant.numbers);
      inside = subst (All (λ (v : Waiting). All (λ u. u.at < a.place.pages * PAGE) v.redo.writes)) (sym (waiting_is c))
          (All-filter (λ (w : Waiting). nat_lt c.args.number w.redo.last) (λ (v : Waiting). All (λ u. u.at < a.place.pages * PAGE) v.redo.writes) a.waiting.items c.self.invariant.inside);
    }

pub returns-clause-ok : goal.returns-clause-ok
returns-clause-ok c =
    let a = c.self.inside in
    let made_is : c.push_reserved.new.self.items ≡ a.made.items ++ c.args.call ∷ [] = c.push_reserved.ensures.items ∙ ap (λ (cs : List Call). cs ++ c.args.call ∷ []) c.reserve.ensures.items in
    let since_is : c.len.result ≡ length c.push_reserved.new.self.items = search rules in
    reproduced_by a.made.items a.since c.args.call a.place a.rings.items a.waiting.items a.home.items a.reproduced a.released a.marks a.read c.args.writes.now c.args.number
    c.release_rings.new.rings.items c.retain.new.self.items (take a.home.len (c.put_home.new.home ++ drop (length c.put_home.new.home) a.home.items)) c.max-self-inside.result c.push_reserved.new.self.items c.len.result c.put_first.new.self
    c.release_rings.ensures (waiting_is c) (home_is c) c.max-self-inside.ensures made_is since_is c.in_ok-put_first.ensures.ok
    ∙ ap (λ (d : StoreData). left_of (replays c.args.writes.now c.args.number) (called c.args.call d)) c.self.view_is
