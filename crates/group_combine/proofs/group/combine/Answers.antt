use Rattle.std.proofs.Common.{◌≡◌, ◌+◌, ◌++◌, [], ◌∷◌, ℕ, List, All, ap, sym, subst, ◌∙◌, arith, take, length, flat_map, sum_by}
use Rattle.std.proofs.lemmas.List.{take_all, take_more}
use Rattle.std.proofs.lemmas.List.Concat.{length-flat_map}
use Rattle.std.proofs.lemmas.List.Elements.{All-more}
use Rattle.std.proofs.lemmas.List.Sums.{sum_by-append, sum_by-take-le}
use Rattle.dude_base.specs.declared.write.Write.{Write}
use Rattle.dude_base.specs.Records.{RedoBundle}
use Rattle.dude_base.specs.Writes.{HasDistinctPlaces, written}
use Rattle.group_combine.specs.Group.{last_written}
use Rattle.group_combine.specs.Numbered.{last_of}
use Rattle.group_combine.proofs.Effects.{overwritten-last, written_by_records}
use Rattle.group_combine.proofs.LastWrites.{last_of-records, writes_more}
use Rattle.group_combine.proofs.group.combine.Goals as goal

next : (c : goal.After-take_bundle-arg-1) → take (c.loop-r.r-index + 1) c.args.list.now ≡ take c.loop-r.r-index c.args.list.now ++ c.r-item.result ∷ []
next c =
    let list : List RedoBundle = c.args.list.now in
    take_more list c.loop-r.r-index c.r-item.result c.loop-r-test.true ∙ ap (λ r. take c.loop-r.r-index list ++ r ∷ []) (sym c.r-item.is)

pub take_bundle-requires : goal.take_bundle-requires
take_bundle-requires c =
    let f : RedoBundle → ℕ = λ r. length r.writes in
    let list : List RedoBundle = c.args.list.now in
    let more : sum_by f (take (c.loop-r.r-index + 1) list) ≡ sum_by f (take c.loop-r.r-index list) + length c.r-item.result.writes =
    ap (sum_by f) (next c) ∙ sum_by-append f (take c.loop-r.r-index list) (c.r-item.result ∷ []) ∙ omega arith in
    let bound = sum_by-take-le f list (c.loop-r.r-index + 1) in
    let long : length c.loop-r.out.taken ≡ sum_by f (take c.loop-r.r-index list) = ap (λ (l : List Write). length l) c.loop-r.invariant.taken ∙ length-flat_map (λ (r : RedoBundle). r.writes) (take c.loop-r.r-index list) in
    omega (arith, c.loop-r.invariant.room, c.requires)

pub loop-r-preserved : goal.loop-r-preserved
loop-r-preserved c =
    let list : List RedoBundle = c.args.list.now in
    let inv = c.loop-r.invariant in
    record {
      taken = c.take_bundle.ensures.taken ∙ ap (λ (l : List Write). l ++ c.r-item.result.writes) inv.taken ∙ writes_more (take c.loop-r.r-index list) c.r-item.result
          ∙ ap (λ (rs : List RedoBundle). flat_map (λ (r : RedoBundle). r.writes) rs) (sym (next c.before));
      room = c.take_bundle.ensures.room ∙ inv.room;
      distinct = All-more (λ (r : RedoBundle). HasDistinctPlaces r.writes) list c.loop-r.r-index c.r-item.result c.loop-r-test.true inv.distinct
          (subst (λ (r : RedoBundle). HasDistinctPlaces r.writes) c.r-item.is c.take_bundle.ensures.distinct);
    }

-- all were taken
taken : (c : goal.After-finish) → c.loop-r.out.taken ≡ flat_map (λ (r : RedoBundle). r.writes) c.args.list.now
taken c = c.loop-r.invariant.taken ∙ ap (λ (rs : List RedoBundle). flat_map (λ (r : RedoBundle). r.writes) rs) (take_all c.loop-r.r-index c.args.list.now (omega arith))

-- each word is left as the last record leaves it
last : (c : goal.After-finish) (i : ℕ) → written c.finish.new.self.writes i ≡ last_written c.args.list.now i
last c i =
    c.finish.ensures.last i ∙ ap (λ (l : List Write). last_of l i) (taken c)
    ∙ last_of-records c.args.list.now i (subst (All (λ (r : RedoBundle). HasDistinctPlaces r.writes)) (take_all c.loop-r.r-index c.args.list.now (omega arith)) c.loop-r.invariant.distinct)

pub returns-clause-last : goal.returns-clause-last
returns-clause-last c = last c

pub returns-clause-each : goal.returns-clause-each
returns-clause-each c = written_by_records c.args.list.now c.finish.new.self.writes c.finish.ensures.rising (last c)

pub returns-clause-effect : goal.returns-clause-effect
returns-clause-effect c array = overwritten-last c.args.list.now c.finish.new.self.writes array (last c)

pub returns-clause-few : goal.returns-clause-few
returns-clause-few c =
    let long : length c.loop-r.out.taken ≡ sum_by (λ (r : RedoBundle). length r.writes) c.args.list.now = ap (λ (l : List Write). length l) (taken c) ∙ length-flat_map (λ (r : RedoBundle). r.writes) c.args.list.now in
    let few = c.finish.ensures.few in
    omega arith
