-- The log stands where a bundle is persisted and where bundles are reproduced; and what its arrays are.
use Rattle.std.proofs.Common.{◌≡◌, ℕ, ◌*◌, ◌<◌, ◌≤◌, ◌⊎◌, List, length, get_or, map, sym, ap, ◌∙◌, subst, inl, inr, ⊎_elim, arith}
use Rattle.std.specs.Prelude.{Some, slice_index}
use mathlib.Core.Option.{some}
use mathlib.Core.Logic.{dite}
use native.Mathlib.Decide.{dec_lt}
use lib.ListN.{get_elem?}
use Rattle.dude_base.specs.declared.limits.TheConstants.{PAGE}
use Rattle.dude_base.specs.declared.write.Write.{Write}
use Rattle.dude_base.specs.Records.{RedoBundle, first_of}
use Rattle.dude_base.specs.Writes.{overwritten}
use Rattle.redo_record.specs.LogState.{RingRecords, LogState}
use Rattle.redo_record.specs.Waiting.{Waiting, IsArrayAt, AddsWaiting, KeepsOver}
use Rattle.redo_record.specs.BackLaws.{CanReproduce, with_waiting, with_rings, reproduced_to}
use Rattle.redo_record.proofs.WaitingRecords.{waiting_law, consecutive_up}
use Rattle.core_events.specs.Setups.{Setup, box_of}
use Rattle.core_events.specs.Words.{State}
use Rattle.core_events.specs.Entries.{value, value_at, all_entries}
use Rattle.core_events.specs.Ghosts.{Ghost}
use Rattle.core_events.specs.KeptNumbers.{numbers_of, number_of}
use Rattle.core_events.specs.Kept.{LayersKept}
use Rattle.core_events.proofs.Boxes.{read_there}
use Rattle.core_events.proofs.EntriesAll.{value_is}
use Rattle.core_events.proofs.Lists.{of_map, at_map}
use Rattle.core_medium.specs.KeptLog.{IsOnMedium, IsPosted, IsOverRing, Drawer, drawer_of, WaitsWith, LogIn}
use Rattle.core_medium.specs.BoxBundles.{bundle_in, MayGather}
use Rattle.core_medium.proofs.Arrays.{lead_values}
use Rattle.core_medium.proofs.LogOn.{on_medium_more}
use Rattle.core_medium.proofs.Posted.{posted_apart}
use Rattle.core_medium.proofs.Gathered.{gathered, first_is}

-- ---- a bundle is persisted
module _ (z : Setup) (g : Ghost) (c : State) (k : LayersKept z g c) (l : LogState) (s : LogIn z g c l) (t j : ℕ) (more : List (ℕ × ℕ)) (m : MayGather z c.boxes c.records l t j more)
    (rings : ℕ → RingRecords) (waiting : List Waiting) (adds : AddsWaiting (record { ring = t; redo = bundle_in z c.records t j more }) l.waiting waiting) where
  abbrev b : RedoBundle
  b = bundle_in z c.records t j more

  abbrev l2 : LogState
  l2 = with_waiting l rings waiting

  pub more_on : (x : ℕ) → IsOnMedium l x → IsOnMedium l2 x
  more_on x on = on_medium_more l l2 x (omega arith) (λ w is cov. inr (w, adds.others w is, cov)) on

  -- a number over the ring's, and over the new ones where it is that ring
  over_more : (t2 x : ℕ) → IsOverRing l t2 x → (t2 ≡ t → b.last < x) → IsOverRing l2 t2 x
  over_more t2 x over less w is ring = ⊎_elim
      (λ old. over w old ring)
      (λ new. let lt = less (sym ring ∙ ap (λ (y : Waiting). y.ring) new) in let e : w.redo.last ≡ b.last = ap (λ (y : Waiting). y.redo.last) new in omega arith)
      (adds.only w is)

  least_over : z.first < first_of b
  least_over = dite (dec_lt z.first (first_of b)) (λ lt. lt) (λ ge. absurd (
      let whole = (gathered z g c k l t j more m).whole in let from = s.from in
      (gathered z g c k l t j more m).absent (first_of b) (record { low = omega arith; high = omega arith }) (inl (omega arith))))

  pub persist_stands : LogIn z g c l2
  persist_stands = record {
    from = s.from;
    home = s.home;
    marked = s.marked;
    waits = λ w is. ⊎_elim (λ old. s.waits w old) (λ new. subst (λ (y : Waiting). WaitsWith z g.claims.hist c.boxes (numbers_of c.persisted) y) (sym new) (record {
      over = least_over;
      posted = λ x cov. inl ((gathered z g c k l t j more m).in_box x cov);
      writes = (gathered z g c k l t j more m).last_writes;
    })) (adds.only w is);
    left_on = λ x e. more_on x (s.left_on x e);
    boxed = λ t2 j2 x lt lj e pos. ⊎_elim
        (λ on. inl (more_on x on))
        (λ over. box_cases t2 j2 x lj e pos over)
        (s.boxed t2 j2 x lt lj e pos);
    drawn = λ i t2 r e th pos. over_more t2 r.number (s.drawn i t2 r e th pos) (λ same. drawn_over i t2 r e th pos same);
  }
    where
      -- a number in a box is one of the new ones, or over them where it is one of that thread
      box_cases : (t2 j2 x : ℕ) → j2 < z.boxes → get_elem? c.boxes (box_of z t2 j2) ≡ some x → 0 < x → IsOverRing l t2 x → IsOnMedium l2 x ⊎ IsOverRing l2 t2 x
      box_cases t2 j2 x lj e pos over = dite (dec_lt b.last x)
          (λ behind. inr (over_more t2 x over (λ same. behind)))
          (λ upto. dite (dec_lt x (first_of b))
          (λ before. inr (over_more t2 x over (λ same. absurd (
          let is : get_or c.boxes (box_of z t j2) 0 ≡ x = read_there c.boxes (box_of z t j2) x (rw (← same) e) in
          let least = m.least j2 lj (omega arith) in let at = first_is z g c k l t j more m in omega arith))))
          (λ from. inl (inr (record { ring = t; redo = b }, adds.one, record { low = omega arith; high = omega arith }))))

      -- an open number of that thread is over the new ones: it is over the first, and in no box
      drawn_over : (i t2 : ℕ) (r : Drawer) → get_elem? (map drawer_of c.views) i ≡ some r → r.thread ≡ Some t2 → 0 < r.number → t2 ≡ t → b.last < r.number
      drawn_over i t2 r e th pos same = dite (dec_lt b.last r.number) (λ lt. lt) (λ ge. absurd (
          let u = of_map drawer_of c.views i r e in
          let number : u.0.tx.hand.number ≡ r.number = ap (λ (y : Drawer). y.number) u.2 in
          let thread = ap (λ (y : Drawer). y.thread) u.2 ∙ th ∙ ap Some same in
          let over = (k.order.each i u.0 u.1).over t j thread m.first.place (omega arith) in
          let at = first_is z g c k l t j more m in
          let there = (gathered z g c k l t j more m).in_box r.number (record { low = omega arith; high = omega arith }) in
          posted_apart z g c k r.number i pos (inl there) (at_map number_of c.views i u.0 u.1 ∙ ap some number)))

-- ---- bundles are reproduced
module _ (z : Setup) (g : Ghost) (c : State) (l : LogState) (s : LogIn z g c l) where
  -- an array at a number has the values there
  pub array_values : (number : ℕ) (array : List ℕ) → length l.home ≡ z.pages * PAGE → IsArrayAt l.waiting l.reproduced l.home number array
      → (i : ℕ) → i < z.pages * PAGE → slice_index array i ≡ value z.opening g.claims.hist number i
  array_values number array long is i lt =
      ap (λ (a : List ℕ). slice_index a i) is.result
      ∙ lead_values z.opening g.claims.hist l.waiting (λ w there. (s.waits w there).writes) (z.pages * PAGE) is.records l.reproduced number l.home is.lead.wait is.lead.consecutive (omega arith) s.home i lt

  -- and each number up to it is posted
  pub array_posted : (number : ℕ) (array : List ℕ) → IsArrayAt l.waiting l.reproduced l.home number array → (n : ℕ) → z.first < n → n ≤ number → IsPosted c.boxes (numbers_of c.persisted) n
  array_posted number array is n lt le = dite (dec_lt l.reproduced n)
      (λ over. let w = waiting_law.covered l.waiting l.reproduced number n is.records is.lead over le in (s.waits w.0 w.1).posted n w.2)
      (λ low. s.marked n lt (omega arith))

  module _ (records : List RedoBundle) (ws : List Write) (x : ℕ) (rings : ℕ → RingRecords) (waiting : List Waiting) (pages : l.sizes.pages ≡ z.pages) (long : length l.home ≡ z.pages * PAGE)
      (can : CanReproduce l records ws x) (keeps : KeepsOver x l.waiting waiting) where
    abbrev l3 : LogState
    l3 = with_rings (reproduced_to l ws x waiting) rings

    array_is : IsArrayAt l.waiting l.reproduced l.home x (overwritten ws l.home)
    array_is = record { records = records; lead = can.lead; result = can.effect l.home (long ∙ ap (λ (n : ℕ). n * PAGE) (sym pages)) }

    pub later_on : (y : ℕ) → IsOnMedium l y → IsOnMedium l3 y
    later_on y on = on_medium_more l l3 y (consecutive_up l.reproduced x records can.lead.consecutive) (λ w is cov. dite (dec_lt x w.redo.last)
        (λ over. inr (w, keeps.kept w is over, cov))
        (λ low. inl (let high = cov.high in omega arith))) on

    pub reproduced_values : (i : ℕ) → i < z.pages * PAGE → slice_index (overwritten ws l.home) i ≡ value z.opening g.claims.hist x i
    reproduced_values i lt = array_values x (overwritten ws l.home) long array_is i lt

    pub reproduce_stands : LogIn z g c l3
    reproduce_stands = record {
      from = (let from = s.from in let up = consecutive_up l.reproduced x records can.lead.consecutive in omega arith);
      home = reproduced_values;
      marked = array_posted x (overwritten ws l.home) array_is;
      waits = λ w is. s.waits w (keeps.only w is).0;
      left_on = λ y e. later_on y (s.left_on y e);
      boxed = λ t j y lt lj e pos. ⊎_elim (λ on. inl (later_on y on)) (λ over. inr (λ w is ring. over w (keeps.only w is).0 ring)) (s.boxed t j y lt lj e pos);
      drawn = λ i t r e th pos. (λ w is ring. s.drawn i t r e th pos w (keeps.only w is).0 ring);
    }

-- the law of arrays, by entries
pub array_law : (z : Setup) (g : Ghost) (c : State) (l : LogState) (number : ℕ) (array : List ℕ) → LayersKept z g c → LogIn z g c l → length l.home ≡ z.pages * PAGE → IsArrayAt l.waiting l.reproduced l.home number array
    → ((i : ℕ) → i < z.pages * PAGE → slice_index array i ≡ value_at z.opening (all_entries c.views) number i) × ((n : ℕ) → z.first < n → n ≤ number → IsPosted c.boxes (numbers_of c.persisted) n)
array_law z g c l number array k s long is =
    ((λ i lt. array_values z g c l s number array long is i lt ∙ sym (value_is z g c k.entries number i)), array_posted z g c l s number array is)
