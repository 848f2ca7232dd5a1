-- Lines of different requests, and a sort by number, by who wrote, and by place.
use Rattle.std.proofs.Common.{◌≡◌, ℕ, ◌<◌, ◌≤◌, Bool, true, false, not, ◌&&◌, List, get_or, refl, arith, inl, inr, ◌⊎◌, ⊎_elim}
use Rattle.std.specs.List.{AllPairs}
use Rattle.std.specs.List.Sorted.{IsSortedByKey}
use Rattle.std.specs.Prelude.{IsPermutation, ◌==◌}
use Rattle.std.specs.Ordering.{nat_cmp, bool_cmp, ordering_then, is_lt}
use Rattle.std.specs.declared.cmp.Ordering.{Ordering}
use Rattle.std.specs.Cmp.{IsStrictWeakOrder, bool_cmp_total}
use Rattle.std.proofs.lemmas.Bool.{cases_order, cases_Bool, eqb-true, eq-eqb, and_from, and_left, and_right, both_ways}
use Rattle.std.proofs.lemmas.Bool.Decides.{nat_tests}
use Rattle.std.proofs.lemmas.Cmp.{nat_cmp_total, on_total, then_total}
use Rattle.std.proofs.lemmas.List.Sorted.{sorted_far, ranks_by}
use Rattle.run_order.proofs.Pairs.{pairs_weaker, pairs_permuted}
use Rattle.dude_audit.specs.declared.claim.Claim.{Claim}
use Rattle.dude_audit.specs.Order.{AreApart, ClaimPrecedes}

-- whether two lines belong to one request
abbrev is_one : Claim → Claim → Bool
is_one c d = (c.file == d.file) && (c.index == d.index)

one_not : (c d : Claim) → AreApart c d → is_one c d ≡ false
one_not c d apart =
    ⊎_elim (λ f. ⊎_elim (λ i. absurd (apart (eqb-true c.file d.file f) (eqb-true c.index d.index i))) (λ i. and_right (c.file == d.file) (c.index == d.index) i) (cases_Bool (c.index == d.index)))
    (λ f. and_left (c.file == d.file) (c.index == d.index) f) (cases_Bool (c.file == d.file))

not_one : (c d : Claim) → is_one c d ≡ false → AreApart c d
not_one c d none file index = both_ways _ none (and_from (c.file == d.file) (c.index == d.index) (eq-eqb c.file d.file file) (eq-eqb c.index d.index index))

flipped_number : (m n : ℕ) → (m == n) ≡ (n == m)
flipped_number m n = grind (arith, nat_tests)

flipped : (c d : Claim) → is_one c d ≡ is_one d c
flipped c d = rw (flipped_number c.file d.file, flipped_number c.index d.index) refl

pub apart_permuted : (xs ys : List Claim) → IsPermutation xs ys → AllPairs AreApart xs → AllPairs AreApart ys
apart_permuted xs ys same apart =
    pairs_weaker (λ c d. is_one c d ≡ false) AreApart ys not_one
    (pairs_permuted is_one flipped xs ys same (pairs_weaker AreApart (λ c d. is_one c d ≡ false) xs one_not apart))

-- the key of the printed order
abbrev pub key_of : Claim → ℕ × Bool × ℕ × ℕ
key_of c = (c.number, not c.wrote, c.file, c.index)

abbrev pub key_cmp : ℕ × Bool × ℕ × ℕ → ℕ × Bool × ℕ × ℕ → Ordering
key_cmp x y = ordering_then (ordering_then (ordering_then (nat_cmp x.0 y.0) (bool_cmp x.1 y.1)) (nat_cmp x.2 y.2)) (nat_cmp x.3 y.3)

-- of two keys the second isn't less
keys_rise : (a x : ℕ) (v w : Bool) (b y c z : ℕ) → is_lt (ordering_then (ordering_then (ordering_then (nat_cmp a x) (bool_cmp (not v) (not w))) (nat_cmp b y)) (nat_cmp c z)) ≡ false
    → (x < a) ⊎ ((x ≡ a) × (((w ≡ true) × (v ≡ false)) ⊎ ((w ≡ v) × ((y < b) ⊎ ((y ≡ b) × (z ≤ c))))))
keys_rise a x true true b y c z h = grind (arith, nat_tests)
keys_rise a x true false b y c z h = grind (arith, nat_tests)
keys_rise a x false true b y c z h = grind (arith, nat_tests)
keys_rise a x false false b y c z h = grind (arith, nat_tests)

printed_so : (c d : Claim) → is_lt (key_cmp (key_of d) (key_of c)) ≡ false → AreApart c d → ClaimPrecedes c d
printed_so c d rise apart =
    ⊎_elim (λ less. inl less)
    (λ same. inr (
      same.0,
      ⊎_elim (λ wrote. inl wrote)
          (λ alike. inr (
            alike.0,
            ⊎_elim (λ less. inl less)
                (λ file. inr (file.0, ⊎_elim (λ i. absurd (apart file.0 i)) (λ other. ⊎_elim (λ less. less) (λ more. absurd (omega (arith, more, file.1))) other) (cases_order c.index d.index))) alike.1,
          )) same.1,
    ))
    (keys_rise d.number c.number d.wrote c.wrote d.file c.file d.index c.index rise)

key_order : IsStrictWeakOrder (λ (c d : Claim). is_lt (key_cmp (key_of c) (key_of d)))
key_order = ranks_by (then_total (then_total (then_total (on_total (λ (p : ℕ × Bool × ℕ × ℕ). p.0) nat_cmp_total) (on_total (λ (p : ℕ × Bool × ℕ × ℕ). p.1) bool_cmp_total)) (on_total (λ (p : ℕ × Bool × ℕ × ℕ). p.2) nat_cmp_total)) (on_total (λ (p : ℕ × Bool × ℕ × ℕ). p.3) nat_cmp_total)) key_of

pub printed_from_sort : (claims : List Claim) → IsSortedByKey key_of key_cmp claims → AllPairs AreApart claims → AllPairs ClaimPrecedes claims
printed_from_sort claims sorted apart = λ i j d before within.
    printed_so (get_or claims i d) (get_or claims j d)
    (sorted_far (λ c d. is_lt (key_cmp (key_of c) (key_of d))) key_order claims sorted i j d (omega (arith, before)) within)
    (apart i j d before within)
