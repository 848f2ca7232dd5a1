-- The queue of a thread's boxes: its front leaves it, and one comes behind it.
use Rattle.std.proofs.Common.{◌≡◌, ◌≢◌, ℕ, ◌+◌, ◌-◌, ◌*◌, ◌%◌, ◌<◌, ◌≤◌, ◌⊎◌, List, length, get_or, set, refl, sym, ap, ◌∙◌, subst, inl, inr, ⊎_elim, arith, lt-ltb, le-ltb, get_or-set_same, get_or-set_other}
use Rattle.std.proofs.Math.Nat.{mod-eq_of_lt, mod_self}
use mathlib.Core.Logic.{dite}
use native.Mathlib.Decide.{dec_lt}
use Rattle.core_events.specs.Setups.{Setup, box_of}
use Rattle.core_events.proofs.Boxes.{box_same, box_inside}
use Rattle.stm_slots.specs.Queues.{place_at, word_at, IsQueue}

module _ (z : Setup) where
  pub near : (p i : ℕ) → p + i < z.boxes → place_at z p i ≡ p + i
  near p i lt = rw (lt-ltb (p + i) z.boxes lt) refl

  pub round : (p i : ℕ) → z.boxes ≤ p + i → place_at z p i ≡ p + i - z.boxes
  round p i le = rw (le-ltb (p + i) z.boxes le) refl

  pub place_cases : (p i : ℕ) → ((p + i < z.boxes) × (place_at z p i ≡ p + i)) ⊎ ((z.boxes ≤ p + i) × (place_at z p i ≡ p + i - z.boxes))
  place_cases p i = dite (dec_lt (p + i) z.boxes) (λ lt. inl (lt, near p i lt)) (λ ge. inr (let le : z.boxes ≤ p + i = omega arith in (le, round p i le)))

  pub place_inside : (p i : ℕ) → p < z.boxes → i ≤ z.boxes → place_at z p i < z.boxes
  place_inside p i lp li = ⊎_elim (λ a. let e = a.1 in let lt = a.0 in omega arith) (λ a. let e = a.1 in let le = a.0 in omega arith) (place_cases p i)

  pub place_here : (p : ℕ) → p < z.boxes → place_at z p 0 ≡ p
  place_here p lp = near p 0 (omega arith) ∙ omega arith

  -- the place behind the one behind
  pub place_on : (p i : ℕ) → p < z.boxes → i < z.boxes → place_at z (place_at z p 1) i ≡ place_at z p (i + 1)
  place_on p i lp li =
      ⊎_elim
      (λ a. let one = a.1 in let lt = a.0 in ⊎_elim
      (λ b. let two = b.1 in let lt2 = b.0 in ap (λ q. place_at z q i) one ∙ (near (p + 1) i (omega arith) ∙ (omega arith ∙ sym (near p (i + 1) (omega arith)))))
      (λ b. let two = b.1 in let le2 = b.0 in ap (λ q. place_at z q i) one ∙ (round (p + 1) i (omega arith) ∙ (omega arith ∙ sym (round p (i + 1) (omega arith)))))
      (place_cases p (i + 1)))
      (λ a. let one = a.1 in let le = a.0 in
      let zero_is : place_at z p 1 ≡ 0 = omega arith in
      ap (λ q. place_at z q i) zero_is ∙ (near 0 i (omega arith) ∙ (omega arith ∙ sym (round p (i + 1) (omega arith)))))
      (place_cases p 1)

  -- a place is on this round, or on the next one
  abbrev Case : ℕ → ℕ → Type 0
  Case p j = ((p + j < z.boxes) × (place_at z p j ≡ p + j)) ⊎ ((z.boxes ≤ p + j) × (place_at z p j ≡ p + j - z.boxes))

  -- the place behind one, by a remainder
  pub place_more : (p i : ℕ) → p < z.boxes → i < z.boxes → (place_at z p i + 1) % z.boxes ≡ place_at z p (i + 1)
  place_more p i lp li = dite (dec_lt (place_at z p i + 1) z.boxes)
      (λ few. mod-eq_of_lt few ∙ by_cases (place_cases p i) (place_cases p (i + 1)) few)
      (λ ge. let lt = place_inside p i lp (omega arith) in let last : place_at z p i + 1 ≡ z.boxes = omega arith in
      ap (λ m. m % z.boxes) last ∙ (mod_self z.boxes ∙ by_cases_last (place_cases p i) (place_cases p (i + 1)) last))
    where
      by_cases : Case p i → Case p (i + 1) → place_at z p i + 1 < z.boxes → place_at z p i + 1 ≡ place_at z p (i + 1)
      by_cases (inl a) (inl b) few = let e = a.1 in let f = b.1 in omega arith
      by_cases (inl a) (inr b) few = let e = a.1 in let f = b.0 in omega arith
      by_cases (inr a) (inl b) few = let e = a.0 in let f = b.0 in omega arith
      by_cases (inr a) (inr b) few = let e = a.1 in let f = b.1 in let g = a.0 in omega arith

      by_cases_last : Case p i → Case p (i + 1) → place_at z p i + 1 ≡ z.boxes → 0 ≡ place_at z p (i + 1)
      by_cases_last (inl a) (inl b) last = let e = a.1 in let f = b.0 in omega arith
      by_cases_last (inl a) (inr b) last = let e = a.1 in let f = b.1 in omega arith
      by_cases_last (inr a) (inl b) last = let e = a.0 in let f = b.0 in omega arith
      by_cases_last (inr a) (inr b) last = let e = a.1 in let g = a.0 in omega arith

  pub place_all_round : (p : ℕ) → p < z.boxes → place_at z p z.boxes ≡ p
  place_all_round p lp = round p z.boxes (omega arith) ∙ omega arith

  -- places behind one another differ
  pub place_apart : (p i j : ℕ) → p < z.boxes → i < j → j < z.boxes → place_at z p i ≢ place_at z p j
  place_apart p i j lp lt lj e =
      ⊎_elim
      (λ a. let one = a.1 in let la = a.0 in ⊎_elim (λ b. let two = b.1 in absurd (omega arith)) (λ b. let two = b.1 in let lb = b.0 in absurd (omega arith)) (place_cases p j))
      (λ a. let one = a.1 in let la = a.0 in ⊎_elim (λ b. let two = b.1 in let lb = b.0 in absurd (omega arith)) (λ b. let two = b.1 in let lb = b.0 in absurd (omega arith)) (place_cases p j))
      (place_cases p i)

  -- each place is some way behind another
  pub way_to : (p j : ℕ) → p < z.boxes → j < z.boxes → (i : ℕ) × (i < z.boxes) × (place_at z p i ≡ j)
  way_to p j lp lj = dite (dec_lt j p)
      (λ before. (j + z.boxes - p, omega arith, round p (j + z.boxes - p) (omega arith) ∙ omega arith))
      (λ behind. (j - p, omega arith, near p (j - p) (omega arith) ∙ omega arith))

  -- a queue in other boxes, with the same words
  queue_on : (boxes now : List ℕ) (u p n : ℕ) → ((i : ℕ) → i < z.boxes → word_at z now u p i ≡ word_at z boxes u p i) → IsQueue z boxes u p n → IsQueue z now u p n
  queue_on boxes now u p n same w = record {
    few = w.few;
    start = w.start;
    full = λ i lt. let few = w.few in subst (λ m. 0 < m) (sym (same i (omega arith))) (w.full i lt);
    free = λ i le lt. same i lt ∙ w.free i le lt;
    rising = λ i j lt lj. let few = w.few in let a = same i (omega arith) in let b = same j (omega arith) in let r = w.rising i j lt lj in omega arith;
  }

  module _ (boxes : List ℕ) (t place count : ℕ) (inside : t < z.threads) (all : length boxes ≡ z.threads * z.boxes) (q : IsQueue z boxes t place count) (some_full : 0 < count) where
    abbrev front : ℕ
    front = box_of z t place

    abbrev boxes2 : List ℕ
    boxes2 = set boxes front 0

    front_inside : front < length boxes
    front_inside = let start = q.start in let lt = box_inside z.boxes t z.threads place inside start in omega arith

    word_else : (i : ℕ) → 0 < i → i < z.boxes → get_or boxes2 (box_of z t (place_at z place i)) 0 ≡ word_at z boxes t place i
    word_else i pos lt = get_or-set_other boxes front (box_of z t (place_at z place i)) 0 0 (λ e.
        let start = q.start in let other = place_apart place 0 i q.start pos lt in
        let same = (box_same z.boxes t t (place_at z place i) place (place_inside place i q.start (omega arith)) q.start e).1 in
        other (place_here place q.start ∙ sym same))

    word_front : get_or boxes2 front 0 ≡ 0
    word_front = get_or-set_same boxes front 0 0 front_inside

    word_next : (i : ℕ) → i < z.boxes → word_at z boxes2 t (place_at z place 1) i ≡ get_or boxes2 (box_of z t (place_at z place (i + 1))) 0
    word_next i lt = ap (λ p. get_or boxes2 (box_of z t p) 0) (place_on place i q.start lt)

    pub word_left : (i : ℕ) → i + 1 < z.boxes → word_at z boxes2 t (place_at z place 1) i ≡ word_at z boxes t place (i + 1)
    word_left i lt = word_next i (omega arith) ∙ word_else (i + 1) (omega arith) lt

    pub queue_left : IsQueue z boxes2 t (place_at z place 1) (count - 1)
    queue_left = record {
      few = (let few = q.few in omega arith);
      start = place_inside place 1 q.start (let few = q.few in omega arith);
      full = λ i lt. let few = q.few in subst (λ n. 0 < n) (sym (word_next i (omega arith) ∙ word_else (i + 1) (omega arith) (omega arith))) (q.full (i + 1) (omega arith));
      free = λ i le lt. let few = q.few in dite (dec_lt (i + 1) z.boxes)
          (λ more. word_next i lt ∙ (word_else (i + 1) (omega arith) more ∙ q.free (i + 1) (omega arith) more))
          (λ last. let e : i + 1 ≡ z.boxes = omega arith in word_next i lt ∙ (ap (λ n. get_or boxes2 (box_of z t (place_at z place n)) 0) e ∙ (ap (λ n. get_or boxes2 (box_of z t n) 0) (place_all_round place q.start) ∙ word_front)));
      rising = λ i j lt lj. let few = q.few in
          let a = word_next i (omega arith) ∙ word_else (i + 1) (omega arith) (omega arith) in let b = word_next j (omega arith) ∙ word_else (j + 1) (omega arith) (omega arith) in
          let r = q.rising (i + 1) (j + 1) (omega arith) (omega arith) in omega arith;
    }

    pub word_other : (u p i : ℕ) → u ≢ t → p < z.boxes → i ≤ z.boxes → word_at z boxes2 u p i ≡ word_at z boxes u p i
    word_other u p i other start le = get_or-set_other boxes front (box_of z u (place_at z p i)) 0 0 (λ e. other (box_same z.boxes u t (place_at z p i) place (place_inside p i start le) q.start e).0)

    -- the queue of another thread stays
    pub queue_other : (u p n : ℕ) → u ≢ t → IsQueue z boxes u p n → IsQueue z boxes2 u p n
    queue_other u p n other w = queue_on boxes boxes2 u p n (λ i lt. word_other u p i other w.start (omega arith)) w

  -- ---- a number over all others comes into the box behind the queue, which is empty
  module _ (boxes : List ℕ) (t place count n : ℕ) (inside : t < z.threads) (all : length boxes ≡ z.threads * z.boxes) (q : IsQueue z boxes t place count) (empty : get_or boxes (box_of z t (place_at z place count)) 0 ≡ 0) (pos : 0 < n) (greatest : (i : ℕ) → i < count → word_at z boxes t place i < n) where
    abbrev end : ℕ
    end = box_of z t (place_at z place count)

    abbrev boxes3 : List ℕ
    boxes3 = set boxes end n

    -- not all boxes are full
    pub not_all : count < z.boxes
    not_all = dite (dec_lt count z.boxes) (λ lt. lt) (λ ge. absurd (
        let few = q.few in let start = q.start in let e : count ≡ z.boxes = omega arith in
        let round_is : place_at z place count ≡ place_at z place 0 = ap (place_at z place) e ∙ (place_all_round place q.start ∙ sym (place_here place q.start)) in
        let zero_word : word_at z boxes t place 0 ≡ 0 = ap (λ p. get_or boxes (box_of z t p) 0) (sym round_is) ∙ empty in let some_word = q.full 0 (omega arith) in omega arith))

    end_inside : end < length boxes
    end_inside = let lt = box_inside z.boxes t z.threads (place_at z place count) inside (place_inside place count q.start q.few) in omega arith

    word_before : (i : ℕ) → i < z.boxes → i ≢ count → word_at z boxes3 t place i ≡ word_at z boxes t place i
    word_before i lt other = get_or-set_other boxes end (box_of z t (place_at z place i)) n 0 (λ e.
        let few = not_all in let same = (box_same z.boxes t t (place_at z place i) (place_at z place count) (place_inside place i q.start (omega arith)) (place_inside place count q.start q.few) e).1 in
        dite (dec_lt i count) (λ below. place_apart place i count q.start below few same) (λ above. place_apart place count i q.start (omega arith) lt (sym same)))

    word_end : word_at z boxes3 t place count ≡ n
    word_end = get_or-set_same boxes end n 0 end_inside

    pub queue_longer : IsQueue z boxes3 t place (count + 1)
    queue_longer = record {
      few = (let lt = not_all in omega arith);
      start = q.start;
      full = λ i lt. let few = not_all in dite (dec_lt i count)
          (λ below. let e = word_before i (omega arith) (λ same. omega arith) in let p = q.full i below in omega arith)
          (λ last. let is : i ≡ count = omega arith in subst (λ j. 0 < word_at z boxes3 t place j) (sym is) (let e = word_end in omega arith));
      free = λ i le lt. word_before i lt (λ same. omega arith) ∙ q.free i (omega arith) lt;
      rising = λ i j lt lj. let few = not_all in let a = word_before i (omega arith) (λ same. omega arith) in dite (dec_lt j count)
          (λ below. let b = word_before j (omega arith) (λ same. omega arith) in let r = q.rising i j lt below in omega arith)
          (λ last. let is : j ≡ count = omega arith in subst (λ m. word_at z boxes3 t place i < word_at z boxes3 t place m) (sym is) (let b = word_end in let g = greatest i (omega arith) in omega arith));
    }

    pub word_beside : (u p i : ℕ) → u ≢ t → p < z.boxes → i ≤ z.boxes → word_at z boxes3 u p i ≡ word_at z boxes u p i
    word_beside u p i other start le = get_or-set_other boxes end (box_of z u (place_at z p i)) n 0 (λ e. other (box_same z.boxes u t (place_at z p i) (place_at z place count) (place_inside p i start le) (place_inside place count q.start q.few) e).0)

    -- the queue of another thread stays
    pub queue_beside : (u p c : ℕ) → u ≢ t → IsQueue z boxes u p c → IsQueue z boxes3 u p c
    queue_beside u p c other w = queue_on boxes boxes3 u p c (λ i lt. word_beside u p i other w.start (omega arith)) w
