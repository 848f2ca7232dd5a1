-- Which records in boxes a call on the medium persists together.
use Rattle.std.proofs.Common.{◌≡◌, ◌≢◌, ℕ, ◌+◌, ◌*◌, ◌/◌, ◌%◌, ◌<◌, ◌≤◌, Bool, List, [], ◌∷◌, length, get_or, refl, sym, ap, subst, ◌∙◌, inl, inr, arith, All, mul-le-mul_right}
use Rattle.std.specs.Prelude.{Option, Some, None}
use Rattle.std.proofs.lemmas.Bool.{cases_eq, cases_lt}
use mathlib.Core.Option.{some}
use lib.ListN.{get_elem?}
use Rattle.dude_base.specs.declared.limits.TheConstants.{MAX_NUMBER}
use Rattle.dude_base.specs.declared.no_join.NoJoin.{NoJoin}
use Rattle.dude_base.specs.declared.no_join.NoJoin.TheVariants.{Gap, Long, Broad}
use Rattle.dude_base.specs.Joins.{CanJoin, Refuses}
use Rattle.dude_base.specs.Records.{RedoRecord, RedoBundle, HasNumbers, first_of, bundle_of, with_next}
use Rattle.pmem_trait.specs.declared.call.Call.{Call}
use Rattle.core_events.specs.Setups.{Setup, box_of}
use Rattle.core_events.specs.Words.{State}
use Rattle.core_events.specs.Conditions.{no_record}
use Rattle.core_events.specs.Ghosts.{Ghost}
use Rattle.core_events.specs.Kept.{LayersKept}
use Rattle.core_events.proofs.Boxes.{there_read}
use Rattle.core_medium.specs.KeptLog.{IsOnMedium}
use Rattle.core_medium.specs.BoxBundles.{boxed, IsUnpersisted, joined, AllJoin, bundle_in, MayGather}
use Rattle.core_medium.specs.BackCalls.{MayPersist}
use Rattle.core_medium.specs.KeptStore.{MachineKept}
use Rattle.core_medium.proofs.Gathered.{record_is, number_is, first_is}
use Rattle.core_medium.proofs.Posted.{box_in, full_box, full_record, posted_upto}
use Rattle.dude_core.specs.StoreData.{StoreData, log_of, HasOnMedium, ring_at}
use Rattle.dude_core.specs.NextCalls.{HasRoom, AppendsOn, AppendsNone}
use Rattle.dude_core.specs.Gathers.{number_in, IsLeastOf, IsLower, Joins, IsLonger, Gathers, GathersNo, Persists, PersistsNone}
use Rattle.dude_core.specs.Stands.{machine_over}
use Rattle.dude_core.proofs.DataEffects.{on_medium_law}

-- ---- the least number in the boxes of a thread
module _ (z : Setup) (c : State) (t k : ℕ) where
  pub least_none : IsLeastOf z c t 0 None
  least_none i lt = absurd (omega arith)

  pub least_lower : (o : Option ℕ) → IsLeastOf z c t k o → IsLower z c t k o → IsLeastOf z c t (k + 1) (Some k)
  least_lower None none low = (
    omega arith,
    low,
    λ i lt pos. elim (cases_eq i k) [
      | inl same ↦ let e : number_in z c t i ≡ number_in z c t k = ap (number_in z c t) same in omega arith
      | inr other ↦ let not_any = none i (omega arith) in omega arith
    ],
  )
  least_lower (Some j) least low = (
    omega arith,
    low.0,
    λ i lt pos. elim (cases_eq i k) [
      | inl same ↦ let e : number_in z c t i ≡ number_in z c t k = ap (number_in z c t) same in omega arith
      | inr other ↦ let le = least.2 i (omega arith) pos in let less = low.1 in omega arith
    ],
  )

  pub least_same : (o : Option ℕ) → IsLeastOf z c t k o → (IsLower z c t k o → ⊥) → IsLeastOf z c t (k + 1) o
  least_same None none not = λ i lt. elim (cases_eq i k) [
    | inl same ↦ let e : number_in z c t i ≡ number_in z c t k = ap (number_in z c t) same in elim (cases_lt 0 (number_in z c t k)) [ inl pos ↦ absurd (not pos) | inr le ↦ omega arith ]
    | inr other ↦ none i (omega arith)
  ]
  least_same (Some j) least not = (
    let lt = least.0 in omega arith,
    least.1,
    λ i lt pos. elim (cases_eq i k) [
      | inl same ↦
          let e : number_in z c t i ≡ number_in z c t k = ap (number_in z c t) same in
          elim (cases_lt (number_in z c t k) (number_in z c t j)) [ inl less ↦ absurd (not (omega arith, less)) | inr le ↦ omega arith ]
      | inr other ↦ least.2 i (omega arith) pos
    ],
  )

-- a bundle doesn't take a record that it refuses
pub refuses_not : (fault : NoJoin) (b : RedoBundle) (r : RedoRecord) → Refuses fault b r → CanJoin b r → ⊥
refuses_not (Gap last number) b r not_any can = not_any.2 (let next = can.next in let a = not_any.0 in let e = not_any.1 in omega arith)
refuses_not (Long span) b r not_any can = let short = can.short in let a = not_any.1 in let e = not_any.2 in omega arith
refuses_not (Broad places) b r not_any can = let narrow = can.narrow in let a = not_any.2 in let e = not_any.3 in omega arith

module _ (z : Setup) (c : State) (a : StoreData) (k : MachineKept z (machine_over z c a)) where
  abbrev g : Ghost
  g = k.ghost_is

  layers : LayersKept z g c
  layers = k.layers

  -- ---- records in boxes
  -- records of boxes with one number are one
  pub same_boxed : (t j t2 j2 : ℕ) → IsUnpersisted z c.boxes (log_of a) t j → IsUnpersisted z c.boxes (log_of a) t2 j2 → number_in z c t j ≡ number_in z c t2 j2 → boxed z c.records t j ≡ boxed z c.records t2 j2
  same_boxed t j t2 j2 u u2 same =
      let make : ℕ → RedoRecord = λ n. record { number = n; writes = g.claims.hist n } in
      record_is z g c layers (log_of a) t j u ∙ (ap make same ∙ sym (record_is z g c layers (log_of a) t2 j2 u2))

  pub boxed_number : (t j : ℕ) → IsUnpersisted z c.boxes (log_of a) t j → (boxed z c.records t j).number ≡ number_in z c t j
  boxed_number t j u = number_is z g c layers (log_of a) t j u

  pub joins_number : (b : RedoBundle) (p : ℕ × ℕ) → Joins z c a b p → number_in z c p.0 p.1 ≡ b.last + 1
  joins_number b p j = sym (boxed_number p.0 p.1 j.unpersisted) ∙ j.can.next

  pub joins_inside : (b : RedoBundle) (p : ℕ × ℕ) → Joins z c a b p → box_of z p.0 p.1 < length c.boxes
  joins_inside b p j = box_in z g c layers p.0 p.1 j.unpersisted.thread j.unpersisted.place

  -- a number in a box is one that a transaction may have
  pub box_bound : (i n : ℕ) → get_elem? c.boxes i ≡ some n → 0 < n → n ≤ MAX_NUMBER
  box_bound i n there pos = let upto = posted_upto z g c layers n (inl (i, there)) in let bound = k.layers.locks.bounded in omega arith

  pub record_numbers : (t j : ℕ) → t < z.threads → j < z.boxes → 0 < number_in z c t j → (r : RedoRecord) → r.number ≡ number_in z c t j → HasNumbers (bundle_of r)
  record_numbers t j lt lj pos r is =
      let bound = box_bound (box_of z t j) (number_in z c t j) (full_box z g c layers t j lt lj) pos in
      record { low = omega arith; high = omega arith }

  -- a record that is read at the place of a box is the record in it, with its number
  box_record_is : (s : State) (b t j : ℕ) (r : RedoRecord) → r ≡ get_or s.records b no_record → s ≡ c → b ≡ box_of z t j → r ≡ boxed z c.records t j
  box_record_is s b t j r is same place = is ∙ (ap (λ (x : State). get_or x.records b no_record) same ∙ ap (λ (n : ℕ). get_or c.records n no_record) place)

  box_number_is : (t j : ℕ) (r : RedoRecord) → t < z.threads → IsLeastOf z c t z.boxes (Some j) → r ≡ boxed z c.records t j → r.number ≡ number_in z c t j
  box_number_is t j r lt least is = ap (λ (x : RedoRecord). x.number) (is ∙ full_record z g c layers t j lt least.0 least.1)

  pub box_read : (s : State) (b t j : ℕ) (r : RedoRecord) → t < z.threads → IsLeastOf z c t z.boxes (Some j) → r ≡ get_or s.records b no_record → s ≡ c → b ≡ box_of z t j → (r ≡ boxed z c.records t j) × (r.number ≡ number_in z c t j)
  box_read s b t j r lt least is same place = let so = box_record_is s b t j r is same place in (so, box_number_is t j r lt least so)

  -- ---- a box by its number among all boxes
  module _ (i : ℕ) (inside : i < length c.boxes) where
    some_boxes : 0 < z.boxes
    some_boxes = elim (cases_lt 0 z.boxes) [
      | inl lt ↦ lt
      | inr le ↦ absurd (let none : z.boxes ≡ 0 = omega arith in let sized = k.layers.turn.sized in let e : z.threads * z.boxes ≡ z.threads * 0 = ap (λ (n : ℕ). z.threads * n) none in omega arith)
    ]

    pub box_place : i % z.boxes < z.boxes
    box_place = let pos = some_boxes in omega arith

    pub box_is : box_of z (i / z.boxes) (i % z.boxes) ≡ i
    box_is = let pos = some_boxes in omega arith

    pub box_thread : i / z.boxes < z.threads
    box_thread = elim (cases_lt (i / z.boxes) z.threads) [
      | inl lt ↦ lt
      | inr le ↦ absurd (let most : z.threads * z.boxes ≤ i / z.boxes * z.boxes = mul-le-mul_right z.boxes le in let is = box_is in let sized = k.layers.turn.sized in omega arith)
    ]

    -- the box isn't on the medium
    pub box_unpersisted : (n : ℕ) → get_or c.boxes i 0 ≡ n → 0 < n → (HasOnMedium a n → ⊥) → IsUnpersisted z c.boxes (log_of a) (i / z.boxes) (i % z.boxes)
    box_unpersisted n is pos not =
        let here : number_in z c (i / z.boxes) (i % z.boxes) ≡ n = ap (λ (b : ℕ). get_or c.boxes b 0) box_is ∙ is in
        record {
          thread = box_thread;
          place = box_place;
          full = omega arith;
          absent = λ on. not ((on_medium_law a n).1 (subst (IsOnMedium (log_of a)) here on));
        }

    pub box_record : boxed z c.records (i / z.boxes) (i % z.boxes) ≡ get_or c.records i no_record
    box_record = ap (λ (b : ℕ). get_or c.records b no_record) box_is

    pub number_bound : (n : ℕ) → get_or c.boxes i 0 ≡ n → 0 < n → n ≤ MAX_NUMBER
    number_bound n is pos = box_bound i n (there_read c.boxes i inside ∙ ap some is) pos

    -- the record of this box joins the bundle
    pub longer_by : (b result : RedoBundle) → get_or c.boxes i 0 ≡ b.last + 1 → (HasOnMedium a (b.last + 1) → ⊥) → (r : RedoRecord) → r ≡ get_or c.records i no_record → CanJoin b r → result ≡ with_next b r → IsLonger z c a b result
    longer_by b result is not r r_is can result_is =
        let same : r ≡ boxed z c.records (i / z.boxes) (i % z.boxes) = r_is ∙ sym box_record in
        record {
          box = (i / z.boxes, i % z.boxes);
          joins = record { unpersisted = box_unpersisted (b.last + 1) is (omega arith) not; can = subst (CanJoin b) same can };
          result_is = result_is ∙ ap (with_next b) same;
        }

    -- where the bundle refuses it, it takes none
    pub longer_not : (b : RedoBundle) → get_or c.boxes i 0 ≡ b.last + 1 → (HasOnMedium a (b.last + 1) → ⊥) → (r : RedoRecord) → r ≡ get_or c.records i no_record → (CanJoin b r → ⊥) → (p : ℕ × ℕ) → Joins z c a b p → ⊥
    longer_not b is not r r_is not_any p j =
        let u = box_unpersisted (b.last + 1) is (omega arith) not in
        let here : number_in z c (i / z.boxes) (i % z.boxes) ≡ b.last + 1 = ap (λ (n : ℕ). get_or c.boxes n 0) box_is ∙ is in
        let same : boxed z c.records p.0 p.1 ≡ r = same_boxed p.0 p.1 (i / z.boxes) (i % z.boxes) j.unpersisted u (joins_number b p j ∙ sym here) ∙ (box_record ∙ sym r_is) in
        not_any (subst (CanJoin b) same j.can)

  -- not_any record joins where its number is on the medium
  pub medium_not : (b : RedoBundle) → HasOnMedium a (b.last + 1) → (p : ℕ × ℕ) → Joins z c a b p → ⊥
  medium_not b on p j = j.unpersisted.absent (subst (IsOnMedium (log_of a)) (sym (joins_number b p j)) ((on_medium_law a (b.last + 1)).0 on))

  -- or in not_any box
  pub boxes_not : (b : RedoBundle) → ((i : ℕ) → i < length c.boxes → get_or c.boxes i 0 ≢ b.last + 1) → (p : ℕ × ℕ) → Joins z c a b p → ⊥
  boxes_not b none p j = none (box_of z p.0 p.1) (joins_inside b p j) (joins_number b p j)

  -- ---- records gathered behind a bundle
  module _ (call : Call) (ring : ℕ) where
    pub gathers_here : (b : RedoBundle) (ends : Bool) → AppendsOn a call ring b ends → Gathers z c a call ring b b ends
    gathers_here b ends on = record { more = []; join = tt; result_is = refl; appends = on }

    pub gathers_longer : (b longer result : RedoBundle) (ends : Bool) → IsLonger z c a b longer → Gathers z c a call ring longer result ends → Gathers z c a call ring b result ends
    gathers_longer b longer result ends by on = record {
      more = by.box ∷ on.more;
      join = (by.joins.unpersisted, by.joins.can, subst (λ (x : RedoBundle). AllJoin z c.boxes c.records (log_of a) x on.more) by.result_is on.join);
      result_is = on.result_is ∙ ap (λ (x : RedoBundle). joined z c.records x on.more) by.result_is;
      appends = on.appends;
    }

    pub gathers_no : (b : RedoBundle) → AppendsNone a call ring b → ((p : ℕ × ℕ) → Joins z c a b p → ⊥) → GathersNo z c a call ring b
    gathers_no b none not_any [] join = none
    gathers_no b none not_any (p ∷ ps) join = absurd (not_any p (record { unpersisted = join.0; can = join.1 }))

    pub gathers_none : (b longer : RedoBundle) → AppendsNone a call ring b → IsLonger z c a b longer → GathersNo z c a call ring longer → GathersNo z c a call ring b
    gathers_none b longer none by not_any [] join = none
    gathers_none b longer none by not_any (p ∷ ps) join =
        let u : Joins z c a b p = record { unpersisted = join.0; can = join.1 } in
        let same : boxed z c.records p.0 p.1 ≡ boxed z c.records by.box.0 by.box.1 = same_boxed p.0 p.1 by.box.0 by.box.1 join.0 by.joins.unpersisted (joins_number b p u ∙ sym (joins_number b by.box by.joins)) in
        let next : with_next b (boxed z c.records p.0 p.1) ≡ longer = ap (with_next b) same ∙ sym by.result_is in
        subst (λ (x : RedoBundle). AppendsNone a call ring (joined z c.records x ps)) (sym next) (not_any ps (subst (λ (x : RedoBundle). AllJoin z c.boxes c.records (log_of a) x ps) next join.2))

  -- ---- a persist into the ring of a thread
  module _ (call : Call) (t : ℕ) where
    pub full_not : IsLeastOf z c t z.boxes None → PersistsNone z c a call t
    full_not none j more may = absurd (let not_any = none j may.gather.first.place in let full = may.gather.first.full in omega arith)

    module _ (j : ℕ) (least : IsLeastOf z c t z.boxes (Some j)) where
      -- the least number is one
      least_number : (j2 : ℕ) (more : List (ℕ × ℕ)) → MayPersist z c.boxes c.records (log_of a) t j2 more → number_in z c t j2 ≡ number_in z c t j
      least_number j2 more may =
          let low = least.2 j2 may.gather.first.place may.gather.first.full in
          let high = may.gather.least j least.0 least.1 in omega arith

      pub persist_medium_not : HasOnMedium a (number_in z c t j) → PersistsNone z c a call t
      persist_medium_not on j2 more may = absurd (may.gather.first.absent (subst (IsOnMedium (log_of a)) (sym (least_number j2 more may)) ((on_medium_law a (number_in z c t j)).0 on)))

      pub persist_old_not : (All (λ k. k.last < number_in z c t j) (ring_at a t).logged → ⊥) → PersistsNone z c a call t
      persist_old_not old j2 more may =
          let first : first_of (bundle_in z c.records t j2 more) ≡ number_in z c t j = first_is z g c layers (log_of a) t j2 more may.gather ∙ least_number j2 more may in
          absurd (old (λ n d lt. let below = may.newest n d lt in omega arith))

      module _ (lt : t < z.threads) (absent : HasOnMedium a (number_in z c t j) → ⊥) where
        pub least_unpersisted : IsUnpersisted z c.boxes (log_of a) t j
        least_unpersisted = record { thread = lt; place = least.0; full = least.1; absent = λ on. absent ((on_medium_law a (number_in z c t j)).1 on) }

        pub persists_by : (result : RedoBundle) (ends : Bool) → All (λ k. k.last < number_in z c t j) (ring_at a t).logged → Gathers z c a call t (bundle_of (boxed z c.records t j)) result ends → Persists z c a call t result ends
        persists_by result ends newest on =
            let gather : MayGather z c.boxes c.records (log_of a) t j on.more = record { first = least_unpersisted; least = least.2; join = on.join } in
            let first : first_of (bundle_in z c.records t j on.more) ≡ number_in z c t j = first_is z g c layers (log_of a) t j on.more gather in
            record {
              place = j;
              more = on.more;
              may = record { gather = gather; newest = λ n d small. (let below = newest n d small in omega arith); room = subst (HasRoom a t) on.result_is on.appends.room };
              bundle_is = on.result_is;
              front = on.appends.front;
            }

        pub persists_no : GathersNo z c a call t (bundle_of (boxed z c.records t j)) → PersistsNone z c a call t
        persists_no not_any j2 more may =
            let same : boxed z c.records t j2 ≡ boxed z c.records t j = same_boxed t j2 t j may.gather.first least_unpersisted (least_number j2 more may) in
            let one : bundle_of (boxed z c.records t j2) ≡ bundle_of (boxed z c.records t j) = ap bundle_of same in
            subst (λ (x : RedoBundle). AppendsNone a call t (joined z c.records x more)) (sym one)
            (not_any more (subst (λ (x : RedoBundle). AllJoin z c.boxes c.records (log_of a) x more) one may.gather.join)) may.room
