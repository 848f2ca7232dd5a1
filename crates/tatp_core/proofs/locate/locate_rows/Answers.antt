use Rattle.std.proofs.Common.{◌≡◌, ◌*◌, ◌≤◌, inl, inr, Bool, true, List, [], ◌∷◌, ◌++◌, length, length-append, map, Some, None, IfSome, Result, Ok, Err, refl, sym, ap, ◌∙◌, subst, arith, lit≤}
use Rattle.std.specs.Prelude.{if◌then◌else◌}
use Rattle.word_space.specs.declared.stop.Stop.{Stop}
use Rattle.word_space.specs.Sights.{shown}
use Rattle.word_space.specs.Steps.{stop_of}
use Rattle.word_space.proofs.Runs.{below_before, shown_same, used_handed, used_more, used_none, used_then, used_until}
use Rattle.tree_index.specs.Shape.{keys_in}
use Rattle.tree_index.specs.Tree.{FitsTree}
use Rattle.tatp_core.specs.Located.{FindsUpTo, HandsOn}
use Rattle.tatp_core.proofs.KeyRanges.{keys_rise, pair_of, range_empty}
use Rattle.tatp_core.proofs.LocatedRows.{found_all, found_full, found_last, found_more, keys_stand, last_key, locates}
use Rattle.tatp_core.proofs.locate.locate_rows.Goals as goal

hands_on : {T : Type 0} (r : Result T Stop) → HandsOn r (stop_of r)
hands_on (Ok value) = refl
hands_on (Err e) = inl refl

-- what a push that succeeded leaves
pushed : {X : Type 0} {ok : Bool} {new : List X} (old : List X) (x : X) → ok ≡ true → new ≡ (if ok then old ++ x ∷ [] else old) → new ≡ old ++ x ∷ []
pushed {new = new} old x is items = subst (λ b. new ≡ (if b then old ++ x ∷ [] else old)) is items

pub loop-init : goal.loop-init
loop-init g c = record {
  uses = used_none;
  count = ap length c.new-found.ensures.items;
  from = omega arith;
  inside = inr refl;
  last = refl;
  found = λ array below shape free_leaves free_inner tree. c.new-found.ensures.items ∙ ap (map pair_of) (sym (range_empty (c.args.low * 4294967296) (keys_in shape)));
}

pub next_up_to-requires : goal.next_up_to-requires
next_up_to-requires g c = record { fits = subst (FitsTree c.in-Some.tree) (sym (c.loop.invariant.uses.count ∙ c.requires.size)) c.in-Some.ensures.fits }

pub returns-in_err-key-clause-uses : goal.returns-in_err-key-clause-uses
returns-in_err-key-clause-uses g c =
    let r = c.from_residual in
    record {
      stop = stop_of r.result;
      handed = hands_on r.result;
      used = used_handed r.result r.ensures.1 (used_until c.loop.invariant.uses c.in_err-key.ensures.uses) (omega (arith, c.loop-test.true)) (lit≤ tt);
    }

pub returns-in_default-2-clause-uses : goal.returns-in_default-2-clause-uses
returns-in_default-2-clause-uses g c = record {
  stop = None;
  handed = refl;
  used = used_more (used_then c.loop.invariant.uses c.in_ok-key.ensures.uses) (omega (arith, c.loop-test.true)) (lit≤ tt);
}

pub returns-in_default-2-clause-few : goal.returns-in_default-2-clause-few
returns-in_default-2-clause-few g c = (used_more (used_then c.loop.invariant.uses c.in_ok-key.ensures.uses) (omega (arith, c.loop.invariant.count)) (lit≤ tt)).most

pub returns-in_default-2-clause-most : goal.returns-in_default-2-clause-most
returns-in_default-2-clause-most g c = omega (arith, c.loop.invariant.count, c.loop.auto.counter-end)

pub returns-in_default-2-clause-located : goal.returns-in_default-2-clause-located
returns-in_default-2-clause-located g c = λ array below db stands.
    let has = keys_stand c.args.lay.now c.in-Some.tree stands (sym c.in-Some.ensures.tree) in
    let before = c.loop.invariant in
    let rises = keys_rise has.shape has.lawful in
    let step = c.in_ok-key.ensures in
    let next = subst (λ ws. FindsUpTo c.in-Some.tree c.loop.from (last_key c.args.high) ws None) (shown_same before.uses array)
    (subst (λ r. FindsUpTo c.in-Some.tree c.loop.from (last_key c.args.high) (shown (g.W.Words.sight c.loop.w) array) r) c.in_default-2.is (step.next array below))
    has.shape has.free_leaves has.free_inner has.lawful in
    locates c.args.low c.args.high c.args.limit db.subscribers (keys_in has.shape) c.loop.found.items stands.in_order.subscribers_in_range rises has.same
    (found_all (keys_in has.shape) before.from rises (before.found array (below_before step.uses below) has.shape has.free_leaves has.free_inner has.lawful) (last_key c.args.high) c.args.limit before.inside (omega (arith, before.count, c.loop.auto.counter-end)) next)

pub returns-then-is_err-clause-uses : goal.returns-then-is_err-clause-uses
returns-then-is_err-clause-uses g c = record {
  stop = None;
  handed = inr (refl, refl);
  used = used_more (used_then c.loop.invariant.uses c.in_ok-key.ensures.uses) (omega (arith, c.loop-test.true)) (lit≤ tt);
}

pub returns-then-key-last-clause-uses : goal.returns-then-key-last-clause-uses
returns-then-key-last-clause-uses g c = record {
  stop = None;
  handed = refl;
  used = used_more (used_then c.loop.invariant.uses c.in_ok-key.ensures.uses) (omega (arith, c.loop-test.true)) (lit≤ tt);
}

pub returns-then-key-last-clause-few : goal.returns-then-key-last-clause-few
returns-then-key-last-clause-few g c = (used_more (used_then c.loop.invariant.uses c.in_ok-key.ensures.uses) (omega (arith, c.loop.invariant.count, ap length (pushed c.loop.found.items (pair_of c.in-Some-2.key) c.if-is_err.ensures.negation c.push.ensures.items), length-append c.loop.found.items (pair_of c.in-Some-2.key ∷ []))) (lit≤ tt)).most

pub returns-then-key-last-clause-most : goal.returns-then-key-last-clause-most
returns-then-key-last-clause-most g c = omega (arith, c.loop.invariant.count, c.loop-test.true, ap length (pushed c.loop.found.items (pair_of c.in-Some-2.key) c.if-is_err.ensures.negation c.push.ensures.items), length-append c.loop.found.items (pair_of c.in-Some-2.key ∷ []))

pub returns-then-key-last-clause-located : goal.returns-then-key-last-clause-located
returns-then-key-last-clause-located g c = λ array below db stands.
    let has = keys_stand c.args.lay.now c.in-Some.tree stands (sym c.in-Some.ensures.tree) in
    let before = c.loop.invariant in
    let rises = keys_rise has.shape has.lawful in
    let step = c.in_ok-key.ensures in
    let next = subst (λ ws. FindsUpTo c.in-Some.tree c.loop.from (last_key c.args.high) ws (Some c.in-Some-2.key)) (shown_same before.uses array)
    (subst (λ r. FindsUpTo c.in-Some.tree c.loop.from (last_key c.args.high) (shown (g.W.Words.sight c.loop.w) array) r) c.in-Some-2.is (step.next array below))
    has.shape has.free_leaves has.free_inner has.lawful in
    let items = pushed c.loop.found.items (pair_of c.in-Some-2.key) c.if-is_err.ensures.negation c.push.ensures.items in
    locates c.args.low c.args.high c.args.limit db.subscribers (keys_in has.shape) c.push.new.self.items stands.in_order.subscribers_in_range rises has.same
    (items ∙ found_last (keys_in has.shape) before.from rises (before.found array (below_before step.uses below) has.shape has.free_leaves has.free_inner has.lawful) c.in-Some-2.key (last_key c.args.high) c.args.limit next c.if-key-last.true
    (omega (arith, before.count, c.loop-test.true, length-append c.loop.found.items (pair_of c.in-Some-2.key ∷ []))))

pub loop-preserved : goal.loop-preserved
loop-preserved g c =
    let before = c.loop.invariant in
    let step = c.in_ok-key.ensures in
    let items = pushed c.loop.found.items (pair_of c.in-Some-2.key) c.if-is_err.ensures.negation c.push.ensures.items in
    let inside = subst (λ r. IfSome r (λ key. (c.loop.from ≤ key) × (key ≤ last_key c.args.high))) c.in-Some-2.is step.inside in
    record {
      uses = used_more (used_then before.uses step.uses) (omega arith) (lit≤ tt);
      count = omega (arith, before.count, ap length items, length-append c.loop.found.items (pair_of c.in-Some-2.key ∷ []));
      from = omega (arith, before.from, inside.0);
      inside = inl (omega (arith, inside.1, c.if-key-last.false));
      last = refl;
      found = λ array below shape free_leaves free_inner tree.
          let next = subst (λ ws. FindsUpTo c.in-Some.tree c.loop.from (last_key c.args.high) ws (Some c.in-Some-2.key)) (shown_same before.uses array)
          (subst (λ r. FindsUpTo c.in-Some.tree c.loop.from (last_key c.args.high) (shown (g.W.Words.sight c.loop.w) array) r) c.in-Some-2.is (step.next array below)) shape free_leaves free_inner tree in
          items ∙ found_more (keys_in shape) before.from (keys_rise shape tree) (before.found array (below_before step.uses below) shape free_leaves free_inner tree) c.in-Some-2.key next;
    }

pub returns-clause-uses : goal.returns-clause-uses
returns-clause-uses g c = record { stop = None; handed = refl; used = used_more c.loop.invariant.uses (omega (arith, c.loop.auto.counter-end)) (lit≤ tt) }

pub returns-clause-few : goal.returns-clause-few
returns-clause-few g c = (used_more c.loop.invariant.uses (omega (arith, c.loop.invariant.count)) (lit≤ tt)).most

pub returns-clause-most : goal.returns-clause-most
returns-clause-most g c = omega (arith, c.loop.invariant.count, c.loop.auto.counter-end)

pub returns-clause-located : goal.returns-clause-located
returns-clause-located g c = λ array below db stands.
    let has = keys_stand c.args.lay.now c.in-Some.tree stands (sym c.in-Some.ensures.tree) in
    let before = c.loop.invariant in
    let rises = keys_rise has.shape has.lawful in
    locates c.args.low c.args.high c.args.limit db.subscribers (keys_in has.shape) c.loop.found.items stands.in_order.subscribers_in_range rises has.same
    (found_full (keys_in has.shape) before.from rises (before.found array below has.shape has.free_leaves has.free_inner has.lawful) (last_key c.args.high) c.args.limit before.inside (omega (arith, before.count, c.loop.auto.counter-end, c.loop-test.false)))
