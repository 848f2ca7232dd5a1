-- Records are taken out of slots, one after another.
use Rattle.std.proofs.Common.{◌≡◌, ◌≢◌, ℕ, ◌+◌, ◌*◌, ◌<◌, ◌≤◌, Bool, false, IsTrue, List, [], ◌∷◌, All, length, get_or, set, refl, sym, ap, ◌∙◌, subst, ⊎_elim, length-set, get_or-set_same, get_or-set_other, eq-eqb, ne_eqb, arith}
use Rattle.std.specs.Prelude.{sum_by}
use Rattle.std.proofs.lemmas.Bool.{cases_eq}
use Rattle.std.proofs.lemmas.List.{length-append}
use Rattle.std.proofs.lemmas.List.Elements.{All-nil, All-push, All-weaker, Contains-append_left, Contains-push}
use Rattle.std.proofs.lemmas.List.Sums.{sum_by-le, sum_by_push}
use Rattle.std.proofs.Math.Nat.{mul-le-mul_left}
use mathlib.Core.Option.{some, some-injective}
use lib.ListN.{get_elem?}
use Rattle.dude_base.specs.Records.{RedoRecord}
use Rattle.pmem_trait.specs.declared.medium.Medium.{Ghosts}
use Rattle.stm_slots.specs.declared.slot.Slot.{Slot}
use Rattle.stm_slots.specs.declared.slot.Slot.TheVariants.{Empty, Record, Home}
use Rattle.tiny_stm.specs.FirstSlots.{IsHomeSlot}
use Rattle.tiny_stm.specs.Collected.{AreCollected, AreOnce, AreTaken, HasIn, StoodIn, counts, with_slot}
use Rattle.tiny_stm.specs.declared.posted.Posted.{Posted}

-- a box is one of all boxes
pub box_inside : (threads boxes ring place : ℕ) → ring < threads → place < boxes → ring * boxes + place < threads * boxes
box_inside threads boxes ring place lr lp = let h : ring + 1 ≤ threads = omega arith in omega (arith, mul-le-mul_left boxes h)

module _ {M : Type 0} {ghosts : Ghosts M} where
  not_empty : (a : Slot M ghosts) (r : RedoRecord) → a ≡ Empty → a ≡ Record r → ⊥
  not_empty a r e f = cc

  record_same : (a : Slot M ghosts) (p r : RedoRecord) → a ≡ Record p → a ≡ Record r → p ≡ r
  record_same a p r e f = cc

  module _ (before now : List (Slot M ghosts)) (filled : List Bool) where
    -- one more is taken
    taken_more : (upto : ℕ) → AreTaken before now filled upto → upto < length before → (now2 : List (Slot M ghosts)) (filled2 : List Bool) → now2 ≡ now → filled2 ≡ set filled upto false → AreTaken before now2 filled2 (upto + 1)
    taken_more upto t lt now2 filled2 same is = record {
      items = same ∙ t.items;
      size = ap length is ∙ (length-set filled upto false ∙ t.size);
      taken = λ k below. ap (λ (l : List Bool). get_or l k false) is ∙ ⊎_elim
          (λ e. ap (λ (i : ℕ). get_or (set filled upto false) i false) e ∙ get_or-set_same filled upto false false (let s = t.size in omega arith))
          (λ other. get_or-set_other filled upto k false false other ∙ t.taken k (omega arith))
          (cases_eq k upto);
      left = λ k low high. subst IsTrue (sym (ap (λ (l : List Bool). get_or l k false) is ∙ get_or-set_other filled upto k false false (λ e. absurd (omega arith)))) (t.left k (omega arith) high);
    }

    pub none_yet : (boxes : ℕ) → length filled ≡ length before → now ≡ before → ((k : ℕ) → k < length before → IsTrue (get_or filled k false)) → AreCollected before now filled boxes 0 []
    none_yet boxes size same full = record {
      slots = record { items = same; size = size; taken = λ k lt. absurd (omega arith); left = λ k low high. full k high };
      stood = All-nil (StoodIn before boxes 0);
      all = λ k r lt. absurd (omega arith);
      once = λ n. omega arith;
      few = omega arith;
    }

    module _ (threads boxes ring place : ℕ) (once : AreOnce before (threads * boxes)) (lr : ring < threads) (lp : place < boxes) (long : threads * boxes < length before) (rest : List Posted) (c : AreCollected before now filled boxes (ring * boxes + place) rest) where
      inside : ring * boxes + place < threads * boxes
      inside = box_inside threads boxes ring place lr lp

      further : (q : Posted) → StoodIn before boxes (ring * boxes + place) q → StoodIn before boxes (ring * boxes + place + 1) q
      further q s = record { place = s.place; inside = s.inside; before = (let b = s.before in omega arith); is = s.is }

      -- no record yet has the number of one that stands in the next slot
      new_number : (r : RedoRecord) → HasIn before (ring * boxes + place) r → (n : ℕ) → r.number ≡ n → sum_by (counts n) rest ≡ 0
      new_number r at n e =
          let none : All (λ q. counts n q ≤ 0) rest = All-weaker (StoodIn before boxes (ring * boxes + place)) (λ q. counts n q ≤ 0) (λ q s.
          let other : q.redo.number ≢ n = (λ f. let same = once.once (q.ring * boxes + s.place) (ring * boxes + place) q.redo r (let b = s.before in let i = inside in omega arith) inside s.is at (f ∙ sym e) in let b = s.before in absurd (omega arith)) in
          rw (ne_eqb q.redo.number n other) (omega arith)) rest c.stood in
          let zero_sum = sum_by-le (counts n) 0 rest none in omega arith

      pub collected_more : (slot : Slot M ghosts) → get_elem? before (ring * boxes + place) ≡ some slot → (now2 : List (Slot M ghosts)) (filled2 : List Bool) (rest2 : List Posted) → now2 ≡ now → filled2 ≡ set filled (ring * boxes + place) false → rest2 ≡ with_slot ring slot rest
          → AreCollected before now2 filled2 boxes (ring * boxes + place + 1) rest2
      collected_more Empty at now2 filled2 rest2 same is er = subst (AreCollected before now2 filled2 boxes (ring * boxes + place + 1)) (sym er) (record {
        slots = taken_more (ring * boxes + place) c.slots (let i = inside in omega arith) now2 filled2 same is;
        stood = All-weaker (StoodIn before boxes (ring * boxes + place)) (StoodIn before boxes (ring * boxes + place + 1)) further rest c.stood;
        all = λ k r lt has. ⊎_elim
            (λ e. absurd (not_empty Empty r refl (some-injective Empty (Record r) (sym at ∙ (ap (get_elem? before) (sym e) ∙ has)))))
            (λ other. c.all k r (omega arith) has)
            (cases_eq k (ring * boxes + place));
        once = c.once;
        few = (let f = c.few in omega arith);
      })
      collected_more (Record r) at now2 filled2 rest2 same is er =
          let q : Posted = record { ring = ring; redo = r } in
          subst (AreCollected before now2 filled2 boxes (ring * boxes + place + 1)) (sym er) (record {
            slots = taken_more (ring * boxes + place) c.slots (let i = inside in omega arith) now2 filled2 same is;
            stood = All-push (StoodIn before boxes (ring * boxes + place + 1)) rest q (All-weaker (StoodIn before boxes (ring * boxes + place)) (StoodIn before boxes (ring * boxes + place + 1)) further rest c.stood)
                (record { place = place; inside = lp; before = omega arith; is = at });
            all = λ k p lt has. ⊎_elim
                (λ e. (q, Contains-push rest q, record_same (Record r) r p refl (some-injective (Record r) (Record p) (sym at ∙ (ap (get_elem? before) (sym e) ∙ has)))))
                (λ other. let h = c.all k p (omega arith) has in (h.0, Contains-append_left rest (q ∷ []) h.0 h.1, h.2))
                (cases_eq k (ring * boxes + place));
            once = λ n. rw (sum_by_push (counts n) rest q) (⊎_elim
                (λ e. let z = new_number r at n e in rw (eq-eqb r.number n e) (omega arith))
                (λ other. let o = c.once n in rw (ne_eqb r.number n other) (omega arith))
                (cases_eq r.number n));
            few = (let f = c.few in let l = length-append rest (q ∷ []) in omega arith);
          })
      collected_more (Home h) at now2 filled2 rest2 same is er = absurd (once.no_home (ring * boxes + place) h inside at)

      pub may_take : (ring * boxes + place < length before) × IsTrue (get_or filled (ring * boxes + place) false)
      may_take = ((let i = inside in omega arith), c.slots.left (ring * boxes + place) (omega arith) (let i = inside in omega arith))

      pub no_home_here : (slot : Slot M ghosts) → get_elem? before (ring * boxes + place) ≡ some slot → IsHomeSlot slot → ⊥
      no_home_here slot at is = once.no_home (ring * boxes + place) is.0 inside (at ∙ ap some is.1)
