-- Requests of different places, and a sort by place.
use Rattle.std.proofs.Common.{◌≡◌, ℕ, ◌<◌, ◌≤◌, Bool, false, ◌&&◌, List, get_or, ap₂, arith, inl, inr, ◌⊎◌, ⊎_elim}
use Rattle.std.specs.List.{AllPairs}
use Rattle.std.specs.List.Sorted.{IsSortedByKey}
use Rattle.std.specs.Prelude.{IsPermutation, ◌==◌}
use Rattle.std.specs.Ordering.{nat_cmp, ordering_then, is_lt}
use Rattle.std.specs.declared.cmp.Ordering.{Ordering}
use Rattle.std.specs.Cmp.{IsStrictWeakOrder}
use Rattle.std.proofs.lemmas.Bool.{cases_order, cases_Bool, eqb-true, eq-eqb, and_from, and_left, and_right, both_ways}
use Rattle.std.proofs.lemmas.Bool.Decides.{nat_tests}
use Rattle.std.proofs.lemmas.Cmp.{nat_cmp_total, on_total, then_total}
use Rattle.std.proofs.lemmas.List.Sorted.{sorted_far, ranks_by}
use Rattle.tatp_model.specs.declared.done.Done.{Done}
use Rattle.tatp_model.specs.OneThread.{PrecedesInFiles}
use Rattle.run_order.specs.Runs.{StandApart, PrecedesInRounds}
use Rattle.run_order.proofs.Pairs.{pairs_weaker, pairs_permuted}

-- whether two requests have one place
abbrev pub in_one_place : Done → Done → Bool
in_one_place d e = (d.file == e.file) && (d.index == e.index)

pub apart_place : (d e : Done) → StandApart d e → in_one_place d e ≡ false
apart_place d e apart =
    ⊎_elim (λ f. ⊎_elim (λ i. absurd (apart (eqb-true d.file e.file f) (eqb-true d.index e.index i))) (λ i. and_right (d.file == e.file) (d.index == e.index) i) (cases_Bool (d.index == e.index)))
    (λ f. and_left (d.file == e.file) (d.index == e.index) f) (cases_Bool (d.file == e.file))

pub place_apart : (d e : Done) → in_one_place d e ≡ false → StandApart d e
place_apart d e none file index =
    both_ways _ none (and_from (d.file == e.file) (d.index == e.index) (eq-eqb d.file e.file file) (eq-eqb d.index e.index index))

flipped_number : (m n : ℕ) → (m == n) ≡ (n == m)
flipped_number m n = grind (arith, nat_tests)

pub flipped_place : (d e : Done) → in_one_place d e ≡ in_one_place e d
flipped_place d e = ap₂ (λ (x y : Bool). x && y) (flipped_number d.file e.file) (flipped_number d.index e.index)

-- requests of different places stay so when they change places in the list
pub apart_permuted : (performed done : List Done) → IsPermutation performed done → AllPairs StandApart performed → AllPairs StandApart done
apart_permuted performed done same apart =
    pairs_weaker (λ d e. in_one_place d e ≡ false) StandApart done place_apart
    (pairs_permuted in_one_place flipped_place performed done same
    (pairs_weaker StandApart (λ d e. in_one_place d e ≡ false) performed apart_place apart))

-- requests in rounds have different places
pub rounds_apart : (performed : List Done) → AllPairs PrecedesInRounds performed → AllPairs StandApart performed
rounds_apart performed rounds =
    pairs_weaker PrecedesInRounds StandApart performed
    (λ d e before file index. ⊎_elim (λ less. absurd (omega (arith, less, index))) (λ less. absurd (omega (arith, less.1, file))) before) rounds

-- the key of the order of files
abbrev pub place_of : Done → ℕ × ℕ
place_of d = (d.file, d.index)

abbrev pub place_cmp : ℕ × ℕ → ℕ × ℕ → Ordering
place_cmp x y = ordering_then (nat_cmp x.0 y.0) (nat_cmp x.1 y.1)

-- of two pairs of numbers the second isn't less
pairs_rise : (a b x y : ℕ) → is_lt (ordering_then (nat_cmp a x) (nat_cmp b y)) ≡ false → (x < a) ⊎ ((x ≡ a) × (y ≤ b))
pairs_rise a b x y not_less = grind (arith, nat_tests)

-- requests of different places, of which the second isn't before the first
in_files : (d e : Done) → is_lt (place_cmp (place_of e) (place_of d)) ≡ false → StandApart d e → PrecedesInFiles d e
in_files d e sorted apart =
    ⊎_elim (λ less. inl less)
    (λ same. inr (same.0, ⊎_elim (λ i. absurd (apart same.0 i)) (λ other. ⊎_elim (λ less. less) (λ more. absurd (omega (arith, more, same.1))) other) (cases_order d.index e.index)))
    (pairs_rise e.file e.index d.file d.index sorted)

place_order : IsStrictWeakOrder (λ (d e : Done). is_lt (place_cmp (place_of d) (place_of e)))
place_order = ranks_by (then_total (on_total (λ (p : ℕ × ℕ). p.0) nat_cmp_total) (on_total (λ (p : ℕ × ℕ). p.1) nat_cmp_total)) place_of

-- requests of different places, sorted by file and index
pub in_files_from_sort : (done : List Done) → IsSortedByKey place_of place_cmp done → AllPairs StandApart done → AllPairs PrecedesInFiles done
in_files_from_sort done sorted apart = λ i j d before within.
    in_files (get_or done i d) (get_or done j d)
    (sorted_far (λ d e. is_lt (place_cmp (place_of d) (place_of e))) place_order done sorted i j d (omega (arith, before)) within)
    (apart i j d before within)
