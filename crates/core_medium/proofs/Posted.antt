-- What an event makes of boxes, of posted numbers and of what they wrote.
use Rattle.std.proofs.Common.{◌≡◌, ℕ, zero, suc, ◌<◌, ◌≤◌, ◌⊎◌, List, [], ◌∷◌, length, get_or, map, refl, sym, ap, ◌∙◌, inl, inr, ⊎_elim, eq-eqb, arith}
use Rattle.std.specs.Prelude.{Option, Some}
use Rattle.std.proofs.lemmas.List.{set-get_or}
use mathlib.Core.Option.{some, some-injective, some-ne-none}
use mathlib.Core.Logic.{dite}
use native.Mathlib.Decide.{ℕ_discrete}
use lib.ListN.{get_elem?}
use Rattle.dude_base.specs.Records.{RedoRecord}
use Rattle.core_events.specs.Setups.{Setup, box_of}
use Rattle.core_events.specs.Keyed.{or_else}
use Rattle.core_events.specs.Views.{View}
use Rattle.core_events.specs.Words.{State}
use Rattle.core_events.specs.Events.{Event, decide, see_box, post, see_full, empty_box, next_box}
use Rattle.core_events.specs.Conditions.{IsAllowed, after, no_record}
use Rattle.core_events.specs.Ghosts.{in_view, in_box, behind_boxes, Ghost, ghost_after}
use Rattle.core_events.specs.KeptNumbers.{number_of, numbers_of}
use Rattle.core_events.specs.Kept.{LayersKept}
use Rattle.core_events.proofs.Lists.{at_map, set_else, at_change}
use Rattle.core_events.proofs.Threads.{or_right}
use Rattle.core_events.proofs.Boxes.{box_inside, there_read}
use Rattle.core_medium.specs.KeptLog.{IsPosted}

pub read_at : {A : Type 0} (xs : List A) (k : ℕ) (d a : A) → get_elem? xs k ≡ some a → get_or xs k d ≡ a
read_at [] k d a e = absurd (some-ne-none a (sym e))
read_at (x ∷ xs) zero d a e = some-injective x a e
read_at (x ∷ xs) (suc k) d a e = read_at xs k d a e

-- the next box of a view that drew a number
pub record PostBox (z : Setup) (c : State) (v : View) : Type 0 where
  pub thread : ℕ
  pub thread_is : v.part.thread ≡ Some thread
  pub below : thread < z.threads
  pub place : v.box.next < z.boxes
  pub box_is : next_box z v ≡ box_of z thread v.box.next
  pub inside : next_box z v < length c.boxes
  pub empty : get_elem? c.boxes (next_box z v) ≡ some 0
  pub drew : 0 < v.tx.hand.number

module _ (z : Setup) (g : Ghost) (c : State) (l : LayersKept z g c) where
  -- the box of a thread is there
  pub box_in : (t j : ℕ) → t < z.threads → j < z.boxes → box_of z t j < length c.boxes
  box_in t j lt lj = rw l.turn.sized (box_inside z.boxes t z.threads j lt lj)

  -- a full box
  pub full_box : (t j : ℕ) → t < z.threads → j < z.boxes → get_elem? c.boxes (box_of z t j) ≡ some (get_or c.boxes (box_of z t j) 0)
  full_box t j lt lj = there_read c.boxes (box_of z t j) (box_in t j lt lj)

  -- its record
  pub full_record : (t j : ℕ) → t < z.threads → j < z.boxes → 0 < get_or c.boxes (box_of z t j) 0
      → get_or c.records (box_of z t j) no_record ≡ record { number = get_or c.boxes (box_of z t j) 0; writes = g.claims.hist (get_or c.boxes (box_of z t j) 0) }
  full_record t j lt lj pos = read_at c.records (box_of z t j) no_record _ (l.numbers.records.boxed (get_or c.boxes (box_of z t j) 0) (box_of z t j) (full_box t j lt lj) pos).0

  -- a posted number isn't an open one
  pub posted_apart : (n j : ℕ) → 0 < n → IsPosted c.boxes (numbers_of c.persisted) n → get_elem? (map number_of c.views) j ≡ some n → ⊥
  posted_apart n j pos (inl b) open_one =
      let mine = (l.numbers.placed.of_views n j open_one pos).0 in let there = (l.numbers.placed.of_boxes n b.0 b.1 pos).0 in
      let f : in_view j ≡ in_box b.0 = sym mine ∙ there in cc
  posted_apart n j pos (inr b) open_one =
      let mine = (l.numbers.placed.of_views n j open_one pos).0 in let there = (l.numbers.placed.of_persisted n b).0 in
      let f : in_view j ≡ behind_boxes = sym mine ∙ there in cc

  -- a posted number was drawn
  pub posted_upto : (n : ℕ) → IsPosted c.boxes (numbers_of c.persisted) n → n ≤ c.clock
  posted_upto n (inl b) = dite (ℕ_discrete n 0) (λ is. omega arith) (λ not_zero. (l.numbers.placed.of_boxes n b.0 b.1 (omega arith)).2)
  posted_upto n (inr b) = (l.numbers.placed.of_persisted n b).2

  module _ (who : ℕ) (v : View) where
    pub post_box : IsAllowed z c who post v → PostBox z c v
    post_box a =
        let m = l.turn.each who v a.is_there in let th = a.may.threaded in let num = (l.locks.each who v a.is_there).number in
        let pos : 0 < v.tx.hand.number = ⊎_elim (λ y. (num.decided y).0) (λ y. (num.voided y).0) a.may.can.0 in
        let seen = m.seen.empty (m.seen.drawn pos) in
        let t_is : seen.0 ≡ th.0 = (let f : Some seen.0 ≡ Some th.0 = sym seen.1 ∙ th.1 in cc) in
        let b_is : next_box z v ≡ box_of z th.0 v.box.next = ap (λ (o : Option ℕ). box_of z (or_else o 0) v.box.next) th.1 in
        let below : th.0 < z.threads = (let mine = l.threads.mine who th.0 v.part (at_map (λ (y : View). y.part) c.views who v a.is_there) th.1 in let lt = mine.2 in let sum = l.threads.counted in omega arith) in
        let inside : next_box z v < length c.boxes = rw (b_is, l.turn.sized) (box_inside z.boxes th.0 z.threads v.box.next below m.seen.place) in
        let was_zero : get_or c.boxes (next_box z v) 0 ≡ 0 = ap (λ (y : ℕ). get_or c.boxes y 0) (b_is ∙ ap (λ (y : ℕ). box_of z y v.box.next) (sym t_is)) ∙ seen.2 in
        record { thread = th.0; thread_is = th.1; below = below; place = m.seen.place; box_is = b_is; inside = inside; empty = there_read c.boxes (next_box z v) inside ∙ ap some was_zero; drew = pos }

    -- what posted numbers wrote stays
    pub history_on : (e : Event) → IsAllowed z c who e v → (n : ℕ) → (n ≤ z.first) ⊎ IsPosted c.boxes (numbers_of c.persisted) n → (ghost_after z g c who v e).claims.hist n ≡ g.claims.hist n
    history_on decide a n which =
        let und = a.may.can.0 in let at = at_map number_of c.views who v a.is_there in let low = (l.numbers.placed.of_views v.tx.hand.number who at und.number).1 in
        ⊎_elim
        (λ y. absurd (⊎_elim
        (λ small. let same = y.0 in omega arith)
        (λ posted. posted_apart n who (let same = y.0 in omega arith) posted (at ∙ ap some (sym y.0)))
        which))
        (λ y. y.1)
        (at_change g.claims.hist v.tx.hand.number v.tx.hand.writes n)
    history_on e a n which = refl

    -- a posted number stays posted
    pub posted_on : (e : Event) → IsAllowed z c who e v → (n : ℕ) → 0 < n → IsPosted c.boxes (numbers_of c.persisted) n → IsPosted (after z c who v e).boxes (numbers_of (after z c who v e).persisted) n
    posted_on post a n pos (inl b) =
        let p = post_box a in
        inl (b.0, set_else c.boxes (next_box z v) b.0 v.tx.hand.number (λ same. let o : n ≡ 0 = some-injective n 0 (sym b.1 ∙ (ap (get_elem? c.boxes) same ∙ p.empty)) in omega arith) ∙ b.1)
    posted_on post a n pos (inr b) = inr b
    posted_on (empty_box t j) a n pos (inl b) = dite (ℕ_discrete b.0 (box_of z t j))
        (λ same.
        let full = full_box t j a.may.named.0 a.may.named.1 in
        let n_is : get_or c.boxes (box_of z t j) 0 ≡ n = some-injective _ n (sym full ∙ (ap (get_elem? c.boxes) (sym same) ∙ b.1)) in
        let number : (get_or c.records (box_of z t j) no_record).number ≡ n = ap (λ (r : RedoRecord). r.number) (full_record t j a.may.named.0 a.may.named.1 a.fits) ∙ n_is in
        inr (rw (number, eq-eqb n n refl) refl))
        (λ other. inl (b.0, set_else c.boxes (box_of z t j) b.0 0 other ∙ b.1))
    posted_on (empty_box t j) a n pos (inr b) = inr (or_right _ _ b)
    posted_on see_box a n pos posted = rw (set-get_or c.boxes (next_box z v) 0) posted
    posted_on (see_full t j) a n pos posted = rw (set-get_or c.boxes (box_of z t j) 0) posted
    posted_on e a n pos posted = posted
