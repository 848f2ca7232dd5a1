-- Lists of records in hand: their boxes, slots and threads, and the places that they were taken from.
use Rattle.std.proofs.Common.{◌≡◌, ◌≢◌, ℕ, ◌+◌, ◌<◌, ◌≤◌, List, [], ◌∷◌, ◌++◌, length, get_or, set, refl, sym, ap, ◌∙◌, subst, inl, inr, ⊎_elim, arith, length-set, get_or-set_same, get_or-set_other}
use Rattle.std.specs.List.{Contains}
use Rattle.std.proofs.lemmas.List.Elements.{Contains-append_left, Contains-push, Contains-push_cases}
use mathlib.Core.Logic.{dite}
use native.Mathlib.Decide.{ℕ_discrete}
use Rattle.dude_base.specs.Records.{RedoRecord}
use Rattle.pmem_trait.specs.Sights.{Sight}
use Rattle.pmem_trait.specs.declared.medium.Medium.{Ghosts}
use Rattle.core_events.specs.Setups.{Setup}
use Rattle.stm_slots.specs.Queues.{place_at}
use Rattle.stm_slots.specs.Turns.{Leaves}
use Rattle.stm_slots.specs.declared.slot.Slot.TheVariants.{Record}
use Rattle.stm_slots.proofs.Taken.{contains_here, contains_more, contains_either, contains_none}
use Rattle.stm_slots.proofs.Queueing.{place_inside}
use Rattle.stm_turns.specs.Gathered.{AreApart, AreFronts, AreThreads}
use Rattle.stm_turns.specs.Holding.{Held, box_held, boxes_held, slots_held}
use Rattle.stm_turns.specs.Told.{but_last}

-- all but the last one of a list with one more
pub but_last_push : {A : Type 0} (xs : List A) (x : A) → but_last (xs ++ x ∷ []) ≡ xs
but_last_push [] x = refl
but_last_push (y ∷ []) x = refl
but_last_push (y ∷ v ∷ xs) x = ap (λ l. y ∷ l) (but_last_push (v ∷ xs) x)

module _ (z : Setup) where
  -- one more record in hand
  pub boxes_push : (hand : List Held) (p : Held) → boxes_held z (hand ++ p ∷ []) ≡ (box_held z p, p.redo) ∷ boxes_held z hand
  boxes_push [] p = refl
  boxes_push (q ∷ hand) p = ap (λ l. l ++ (box_held z q, q.redo) ∷ []) (boxes_push hand p)

  -- the box of a record in hand is among its boxes
  pub box_in : (hand : List Held) (p : Held) → Contains hand p → Contains (boxes_held z hand) (box_held z p, p.redo)
  box_in [] p among = absurd (contains_none p among)
  box_in (q ∷ hand) p among = ⊎_elim
      (λ e. subst (λ (a : Held). Contains (boxes_held z (q ∷ hand)) (box_held z a, a.redo)) e (Contains-push (boxes_held z hand) (box_held z q, q.redo)))
      (λ more. Contains-append_left (boxes_held z hand) ((box_held z q, q.redo) ∷ []) (box_held z p, p.redo) (box_in hand p more))
      (contains_either q hand p among)

  -- and each of these boxes is that of a record in hand
  pub held_of : (hand : List Held) (k : ℕ) (r : RedoRecord) → Contains (boxes_held z hand) (k, r) → (p : Held) × Contains hand p × (box_held z p ≡ k) × (p.redo ≡ r)
  held_of [] k r among = absurd (contains_none (k, r) among)
  held_of (q ∷ hand) k r among = ⊎_elim
      (λ more. let h = held_of hand k r more in (h.0, contains_more q hand h.0 h.1, h.2, h.3))
      (λ e. (q, contains_here q hand, ap (λ (x : ℕ × RedoRecord). x.0) e, ap (λ (x : ℕ × RedoRecord). x.1) e))
      (Contains-push_cases (boxes_held z hand) (box_held z q, q.redo) (k, r) among)

  -- where no record in hand has the number, none of their boxes has one with it
  pub others_held : (hand : List Held) (number : ℕ) → ((p : Held) → Contains hand p → p.redo.number ≢ number) → (k : ℕ) (r : RedoRecord) → Contains (boxes_held z hand) (k, r) → r.number ≢ number
  others_held hand number others k r among is = let h = held_of hand k r among in others h.0 h.1 (ap (λ (a : RedoRecord). a.number) h.3 ∙ is)

  -- ---- different boxes
  pub apart_push : (hand : List Held) (p : Held) → AreApart z hand → ((q : RedoRecord) → Contains (boxes_held z hand) (box_held z p, q) → ⊥) → AreApart z (hand ++ p ∷ [])
  apart_push [] p apart new = ((λ q among. contains_none (box_held z p, q) among), tt)
  apart_push (x ∷ hand) p apart new = (
    (λ q among. ⊎_elim
        (λ e. let same : box_held z p ≡ box_held z x = ap (λ (y : ℕ × RedoRecord). y.0) e in
        new x.redo (subst (λ (k : ℕ). Contains (boxes_held z (x ∷ hand)) (k, x.redo)) (sym same) (Contains-push (boxes_held z hand) (box_held z x, x.redo))))
        (λ old. apart.0 q old)
        (contains_either (box_held z p, p.redo) (boxes_held z hand) (box_held z x, q) (subst (λ l. Contains l (box_held z x, q)) (boxes_push hand p) among))),
    apart_push hand p apart.1 (λ q among. new q (Contains-append_left (boxes_held z hand) ((box_held z x, x.redo) ∷ []) (box_held z p, q) among)),
  )

  -- the box of the record that was taken first goes
  pub leaves_first : (p : Held) (hand : List Held) → AreApart z (p ∷ hand) → Leaves (boxes_held z (p ∷ hand)) (box_held z p) (boxes_held z hand)
  leaves_first p hand apart = record {
    stays = λ j r among. ⊎_elim inr (λ e. inl (ap (λ (x : ℕ × RedoRecord). x.0) (sym e))) (Contains-push_cases (boxes_held z hand) (box_held z p, p.redo) (j, r) among);
    was = λ j r among. (Contains-append_left (boxes_held z hand) ((box_held z p, p.redo) ∷ []) (j, r) among, (λ e. apart.0 r (subst (λ (d : ℕ). Contains (boxes_held z hand) (d, r)) e among)));
  }

  -- ---- fronts
  pub fronts_push : (next : List ℕ) (hand : List Held) (ahead : List ℕ) (p : Held) → AreFronts z next hand ahead → p.thread < z.threads → p.place ≡ get_or ahead p.thread 0 → AreFronts z next (hand ++ p ∷ []) (set ahead p.thread (place_at z p.place 1))
  fronts_push next [] ahead p is inside front = (inside, front ∙ ap (λ (l : List ℕ). get_or l p.thread 0) is, ap (λ (l : List ℕ). set l p.thread (place_at z p.place 1)) is)
  fronts_push next (q ∷ hand) ahead p is inside front = (is.0, is.1, fronts_push (set next q.thread (place_at z q.place 1)) hand ahead p is.2 inside front)

  -- a place behind one of a thread's
  pub places_after : (next : List ℕ) (t after : ℕ) → t < length next → after < z.boxes → ((u : ℕ) → u < z.threads → get_or next u 0 < z.boxes) → (u : ℕ) → u < z.threads → get_or (set next t after) u 0 < z.boxes
  places_after next t after inside below places u lt = dite (ℕ_discrete u t)
      (λ e. let is : get_or (set next t after) u 0 ≡ after = ap (λ (d : ℕ). get_or (set next t after) d 0) e ∙ get_or-set_same next t after 0 inside in omega arith)
      (λ o. let is : get_or (set next t after) u 0 ≡ get_or next u 0 = get_or-set_other next t u after 0 o in let p = places u lt in omega arith)

  pub fronts_inside : (next : List ℕ) (hand : List Held) (ahead : List ℕ) → z.threads ≤ length next → ((u : ℕ) → u < z.threads → get_or next u 0 < z.boxes) → AreFronts z next hand ahead → (z.threads ≤ length ahead) × ((u : ℕ) → u < z.threads → get_or ahead u 0 < z.boxes)
  fronts_inside next [] ahead wide places is = (subst (λ (l : List ℕ). z.threads ≤ length l) (sym is) wide, subst (λ (l : List ℕ). (u : ℕ) → u < z.threads → get_or l u 0 < z.boxes) (sym is) places)
  fronts_inside next (p ∷ hand) ahead wide places is =
      let after : ℕ = place_at z p.place 1 in let inside = is.0 in let at : p.place < z.boxes = (let a = places p.thread is.0 in let e = is.1 in omega arith) in
      let below : after < z.boxes = place_inside z p.place 1 at (omega arith) in
      fronts_inside (set next p.thread after) hand ahead (let l = length-set next p.thread after in omega arith) (places_after next p.thread after (omega arith) below places) is.2

-- ---- threads
pub threads_count : (threads : List ℕ) (count i : ℕ) (hand : List Held) → AreThreads threads count i hand → i + length hand ≡ count
threads_count threads count i [] is = let e : i ≡ count = is in omega arith
threads_count threads count i (p ∷ hand) is = let e = threads_count threads count (i + 1) hand is.1 in omega arith

pub threads_push : (threads : List ℕ) (count i : ℕ) (hand : List Held) (p : Held) → count < length threads → AreThreads threads count i hand → AreThreads (set threads count p.thread) (count + 1) i (hand ++ p ∷ [])
threads_push threads count i [] p inside is = let e : i ≡ count = is in
    (ap (λ (d : ℕ). get_or (set threads count p.thread) d 0) e ∙ get_or-set_same threads count p.thread 0 inside, (omega arith))
threads_push threads count i (q ∷ hand) p inside is = let c = threads_count threads count i (q ∷ hand) is in
    (get_or-set_other threads count i p.thread 0 (λ e. absurd (omega arith)) ∙ is.0, threads_push threads count (i + 1) hand p inside is.1)

-- ---- slots
module _ {M : Type 0} {ghosts : Ghosts M} (sight : M → Sight) (z : Setup) where
  pub slots_push : (hand : List Held) (p : Held) → slots_held {M = M} {ghosts = ghosts} sight z (hand ++ p ∷ []) ≡ slots_held sight z hand ++ (box_held z p, Record p.redo) ∷ []
  slots_push [] p = refl
  slots_push (q ∷ hand) p = ap (λ l. (box_held z q, Record q.redo) ∷ l) (slots_push hand p)
