-- Each image that a crash may leave is taken by some picks, and each pick takes such a value.
use Rattle.std.proofs.Common.{◌≡◌, ◌⊎◌, inl, inr, ⊎_elim, ℕ, zero, suc, ◌+◌, ◌%◌, ◌^◌, ◌<◌, ◌≤◌, ◌/◌, ◌==◌, Bool, true, false, if◌then◌else◌, List, [], ◌∷◌, ◌++◌, length, get_or, slice_index, refl, sym, ap, ◌∙◌, subst, arith, mod-eq_of_lt, length-append, length-drop, Result, Ok, Err, IfOk, Vec, Global}
use Rattle.std.proofs.lemmas.List.{get_or_append_left}
use Rattle.std.proofs.lemmas.List.Elements.{All-from_get_or}
use Rattle.std.proofs.Math.Seq.{get_or-append_seam}
use Rattle.pmem_trait.specs.declared.call.Call.{Call}
use Rattle.pmem_trait.specs.declared.call.Call.TheVariants.{Read, Put, Flush, Fence, Tell}
use Rattle.pmem_trait.specs.declared.made.Made.{Made}
use Rattle.pmem_trait.specs.Words.{IsIn, Word, State, MayHold, IsImage, with_later, with_note, word_after, after}
use Rattle.pmem_fake.specs.History.{start_state, was_effective, after_made, choices, picked_value, IsPicked, EachIsPicked}

-- an element of a list by its index
is_in_at : (xs : List ℕ) (i : ℕ) → i < length xs → IsIn (get_or xs i 0) xs
is_in_at [] i below = absurd (omega arith)
is_in_at (x ∷ xs) zero below = inl refl
is_in_at (x ∷ xs) (suc i) below = inr (is_in_at xs i (omega arith))

-- a pick takes an allowed value
picked_may : (w : Word) (pick : ℕ) → MayHold w (picked_value w pick)
picked_may w pick = is_in_at (choices w) (pick % length (choices w)) (omega arith)

pub picked_allowed : {len : ℕ} {p : State} {picks image : List ℕ} → IsPicked len p picks image → IsImage len p image
picked_allowed {len} {p} {picks} is = record {
  size = is.size;
  each = λ k below. subst (λ (x : ℕ). MayHold (p.word k) x) (sym (is.each k below)) (picked_may (p.word k) (slice_index picks k));
}

-- the index of an element
index_of : (x : ℕ) (xs : List ℕ) → IsIn x xs → (i : ℕ) × (i < length xs) × (x ≡ get_or xs i 0)
index_of x [] is = absurd is
index_of x (y ∷ ys) (inl is) = (0, omega arith, is)
index_of x (y ∷ ys) (inr is) = let rest = index_of x ys is in (suc rest.0, omega (arith, rest.1), rest.2)

-- the pick that takes an allowed value
pick_of : (w : Word) (x : ℕ) → MayHold w x → (pick : ℕ) × (pick ≤ length w.later) × (x ≡ picked_value w pick)
pick_of w x may =
    let index = index_of x (choices w) may in
    (index.0, omega (arith, index.1), index.2 ∙ ap (λ (i : ℕ). get_or (choices w) i 0) (sym (mod-eq_of_lt index.1)))

-- picks for the first n words
choose : (n : ℕ) (word : ℕ → Word) (value : ℕ → ℕ) → ((k : ℕ) → k < n → MayHold (word k) (value k))
    → (picks : List ℕ) × (length picks ≡ n) × ((k : ℕ) → k < n → (get_or picks k 0 ≤ length (word k).later) × (value k ≡ picked_value (word k) (get_or picks k 0)))
choose zero word value may = ([], refl, λ k below. absurd (omega arith))
choose (suc n) word value may =
    let before = choose n word value (λ k below. may k (omega arith)) in
    let last = pick_of (word n) (value n) (may n (omega arith)) in (
      before.0 ++ last.0 ∷ [],
      omega (arith, length-append before.0 (last.0 ∷ []), before.1),
      λ k below. ⊎_elim
          (λ (earlier : k < n).
          let same : get_or (before.0 ++ last.0 ∷ []) k 0 ≡ get_or before.0 k 0 = get_or_append_left before.0 (last.0 ∷ []) 0 k (omega (arith, before.1)) in
          (omega (arith, same, (before.2 k earlier).0), (before.2 k earlier).1 ∙ ap (λ (i : ℕ). picked_value (word k) i) (sym same)))
          (λ (is : k ≡ n).
          let same : get_or (before.0 ++ last.0 ∷ []) n 0 ≡ last.0 = ap (λ (j : ℕ). get_or (before.0 ++ last.0 ∷ []) j 0) (sym before.1) ∙ get_or-append_seam before.0 last.0 [] 0 in
          subst (λ (j : ℕ). (get_or (before.0 ++ last.0 ∷ []) j 0 ≤ length (word j).later) × (value j ≡ picked_value (word j) (get_or (before.0 ++ last.0 ∷ []) j 0))) (sym is)
          (omega (arith, same, last.1), last.2 ∙ ap (λ (i : ℕ). picked_value (word n) i) (sym same)))
          (before_or_here k n below),
    )
  where
    before_or_here : (k i : ℕ) → k < suc i → (k < i) ⊎ (k ≡ i)
    before_or_here k i next = grind arith

-- a call adds at most one later value
one_more : (c : Call) (k : ℕ) (w : Word) → length (word_after c k w).later ≤ length w.later + 1
one_more (Read at) k w = omega arith
one_more (Put at value) k w = by (k == at)
  where
    by : (b : Bool) → length (if b then with_later value w else w).later ≤ length w.later + 1
    by true = omega (arith, length-append w.later (value ∷ []))
    by false = omega arith
one_more (Flush line) k w = by (k / 8 == line)
  where
    by : (b : Bool) → length (if b then with_note w else w).later ≤ length w.later + 1
    by true = omega arith
    by false = omega arith
one_more Fence k w = omega (arith, length-drop w.noted w.later)
one_more (Tell number) k w = omega arith

as_many : (late : Bool) (ms : List Made) (k : ℕ) (p : State) → length ((after_made late ms p).word k).later ≤ length (p.word k).later + length ms
as_many late [] k p = omega arith
as_many late (m ∷ ms) k p = by (was_effective late m) (λ q. as_many late ms k q)
  where
    by : (b : Bool) → ((q : State) → length ((after_made late ms q).word k).later ≤ length (q.word k).later + length ms)
        → length ((after_made late ms (if b then after m.call p else p)).word k).later ≤ length (p.word k).later + suc (length ms)
    by false rest = omega (arith, rest p)
    by true rest = omega (arith, rest (after m.call p), one_more m.call k (p.word k))

-- each image that a crash may leave after some calls is taken by picks of 64 bits
pub each_picked : (len : ℕ) (late : Bool) (ms : List Made) (start : List ℕ) → length ms ≤ 10000000 → EachIsPicked len (after_made late ms (start_state start))
each_picked len late ms start few image is =
    let p = after_made late ms (start_state start) in
    let chosen = choose len p.word (λ k. get_or image k 0) is.each in (
      chosen.0,
      All-from_get_or (λ pick. pick < 2 ^ 64) chosen.0 0 (λ k below.
          let bound : length (p.word k).later ≤ length ms = omega (arith, as_many late ms k (start_state start)) in
          omega (arith, (chosen.2 k (omega (arith, chosen.1))).0, bound)),
      record { size = is.size; each = λ k below. (chosen.2 k below).1 },
    )

-- a picked image is one that a crash may leave
pub ok_allowed : {E : Type 0} (r : Result (Vec ℕ Global) E) (len : ℕ) (p : State) (picks : List ℕ) → IfOk r (λ image. IsPicked len p picks image.items) → IfOk r (λ image. IsImage len p image.items)
ok_allowed (Ok image) len p picks is = picked_allowed is
ok_allowed (Err e) len p picks is = tt
