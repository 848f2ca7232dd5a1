use Rattle.std.proofs.Common.{◌≡◌, ◌*◌, ◌+◌, ◌<◌, ℕ, length, refl, sym, ap, ◌∙◌, subst, arith}
use Rattle.std.specs.Mem.Slots.{slots_counts, slots_filled, slots_items}
use mathlib.Core.Option.{some}
use lib.ListN.{get_elem?}
use Rattle.tiny_stm.specs.Collected.{AreCollected}
use Rattle.tiny_stm.proofs.Collects.{collected_more, no_home_here, none_yet}
use Rattle.tiny_stm.proofs.closing.collect.Goals as goal

pub loop-ring-init : goal.loop-ring-init
loop-ring-init g c =
    let t = c.args.table.now.slots in let counts = slots_counts t in let b : ℕ = c.args.boxes in
    let zero_boxes : 0 ≡ 0 * b = omega arith in record {
      got = subst (λ (n : ℕ). AreCollected (slots_items t) (slots_items t) (slots_filled t) b n c.args.rest.now.items) zero_boxes
          (subst (AreCollected (slots_items t) (slots_items t) (slots_filled t) b 0) (sym c.requires.none)
          (none_yet (slots_items t) (slots_items t) (slots_filled t) b (sym counts.1 ∙ counts.0) refl (λ k lt. c.requires.full k (omega arith) (let n = counts.0 in omega arith))));
      words = refl;
      room = c.requires.room;
      most = omega arith;
    }

pub loop-place-init : goal.loop-place-init
loop-place-init g c =
    let i = c.loop-ring.invariant in let e : c.loop-ring.ring * c.args.boxes ≡ c.loop-ring.ring * c.args.boxes + 0 = omega arith in record {
      got = subst (λ (n : ℕ). AreCollected (slots_items c.args.table.now.slots) (slots_items c.loop-ring.table.slots) (slots_filled c.loop-ring.table.slots) c.args.boxes n c.loop-ring.rest.items) e i.got;
      words = i.words;
      room = i.room;
      most = omega arith;
    }

pub loop-place-preserved : goal.loop-place-preserved
loop-place-preserved g c =
    let t = c.args.table.now.slots in let p = c.loop-place in let counts = slots_counts t in
    let long : c.args.threads * c.args.boxes < length (slots_items t) = (let n = counts.0 in let l = c.requires.some in omega arith) in
    let i = p.invariant in
    let at : get_elem? (slots_items t) (c.loop-ring.ring * c.args.boxes + p.place) ≡ some c.take.result = ap (λ l. get_elem? l (c.loop-ring.ring * c.args.boxes + p.place)) (sym i.got.slots.items) ∙ c.take.ensures.value in
    let next : c.loop-ring.ring * c.args.boxes + p.place + 1 ≡ c.loop-ring.ring * c.args.boxes + (p.place + 1) = omega arith in
    let after = c.take.new.self in
    record {
      got = subst (λ (n : ℕ). AreCollected (slots_items t) (slots_items after.slots) (slots_filled after.slots) c.args.boxes n c.keep.new.rest.items) next
          (collected_more (slots_items t) (slots_items p.table.slots) (slots_filled p.table.slots) c.args.threads c.args.boxes c.loop-ring.ring p.place c.requires.once c.loop-ring-test.true c.loop-place-test.true long p.rest.items i.got
          c.take.result at (slots_items after.slots) (slots_filled after.slots) c.keep.new.rest.items c.take.ensures.others.0 c.take.ensures.others.1 c.keep.ensures.items);
      words = c.take.ensures.others.3 ∙ i.words;
      room = (let room = i.room in let e = c.keep.ensures.capacity in omega arith);
      most = omega arith;
    }

pub keep-requires-clause-no_home : goal.keep-requires-clause-no_home
keep-requires-clause-no_home g c =
    let t = c.args.table.now.slots in let p = c.loop-place in let counts = slots_counts t in
    let long : c.args.threads * c.args.boxes < length (slots_items t) = (let n = counts.0 in let l = c.requires.some in omega arith) in
    let i = p.invariant in
    let at : get_elem? (slots_items t) (c.loop-ring.ring * c.args.boxes + p.place) ≡ some c.take.result = ap (λ l. get_elem? l (c.loop-ring.ring * c.args.boxes + p.place)) (sym i.got.slots.items) ∙ c.take.ensures.value in
    no_home_here (slots_items t) (slots_items p.table.slots) (slots_filled p.table.slots) c.args.threads c.args.boxes c.loop-ring.ring p.place c.requires.once c.loop-ring-test.true c.loop-place-test.true long p.rest.items i.got c.take.result at
