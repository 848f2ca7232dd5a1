-- Rows that rise by key.
use Rattle.std.proofs.Common.{◌≡◌, ◌≢◌, ℕ, zero, suc, ◌+◌, ◌<◌, ◌≤◌, List, [], ◌∷◌, length, get_or, map, take, drop, ap, sym, ◌∙◌, arith, ⊎_elim}
use Rattle.std.specs.List.{All, AllPairs}
use Rattle.std.specs.List.Sorted.{IsStrictlyIncreasing}
use Rattle.std.proofs.lemmas.Bool.{cases_lt}
use Rattle.std.proofs.lemmas.List.{get_or-map, get_or-take, get_or-drop, length-map, length-take, length-drop, take-map, drop-map}
use Rattle.std.proofs.lemmas.List.Kept.{AllPairs-from_increasing}

-- each key is below all later ones
pub pairs_from_rising : {R : Type 0} (key : R → ℕ) (rows : List R) → IsStrictlyIncreasing (map key rows) → AllPairs (λ r s. key r < key s) rows
pairs_from_rising key rows rise i j d before within =
    let lower : get_or (map key rows) i 0 ≡ key (get_or rows i d) = get_or-map key rows i d 0 (omega arith) in
    let upper : get_or (map key rows) j 0 ≡ key (get_or rows j d) = get_or-map key rows j d 0 within in
    let below : get_or (map key rows) i 0 < get_or (map key rows) j 0 = AllPairs-from_increasing (map key rows) rise i j 0 before (omega (arith, length-map rows key)) in
    omega (arith, lower, upper, below)

-- so no two rows have one key
pub keys_differ : {R : Type 0} (key : R → ℕ) (rows : List R) → IsStrictlyIncreasing (map key rows) → AllPairs (λ r s. key r ≢ key s) rows
keys_differ key rows rise i j d before within = λ same. absurd (omega (arith, pairs_from_rising key rows rise i j d before within, same))

-- the i-th key is at least i over the lowest
keys_from : {R : Type 0} (key : R → ℕ) (rows : List R) (a : ℕ) (d : R) → AllPairs (λ r s. key r < key s) rows → All (λ r. a ≤ key r) rows → (i : ℕ) → i < length rows → a + i ≤ key (get_or rows i d)
keys_from key rows a d rise low zero within = omega (arith, low 0 d within)
keys_from key rows a d rise low (suc i) within =
    let lower : a + i ≤ key (get_or rows i d) = keys_from key rows a d rise low i (omega arith) in
    omega (arith, lower, rise i (suc i) d (omega arith) within)

-- rows whose keys lie among n numbers are at most n
pub length-le_from_keys : {R : Type 0} (key : R → ℕ) (rows : List R) (a n : ℕ) → AllPairs (λ r s. key r < key s) rows → All (λ r. a ≤ key r) rows → All (λ r. key r < a + n) rows → length rows ≤ n
length-le_from_keys key [] a n rise low high = omega arith
length-le_from_keys key (r ∷ rows) a n rise low high =
    ⊎_elim (λ h. absurd (omega (arith, keys_from key (r ∷ rows) a r rise low n h, high n r h))) (λ h. h) (cases_lt n (length (r ∷ rows)))

-- a part of rows that rise rises
pub rising_part : {R : Type 0} (key : R → ℕ) (rows : List R) (i n : ℕ) → IsStrictlyIncreasing (map key rows) → IsStrictlyIncreasing (map key (take n (drop i rows)))
rising_part key rows i n rise k within =
    let some : k + 1 < length (take n (drop i rows)) = omega (arith, within, length-map (take n (drop i rows)) key) in
    let size = length-take n (drop i rows) in
    let rest = length-drop i rows in
    let at : (j : ℕ) → j < length (take n (drop i rows)) → get_or (map key (take n (drop i rows))) j 0 ≡ get_or (map key rows) (i + j) 0 =
    λ j inside. ap (λ (l : List ℕ). get_or l j 0) (sym (take-map key n (drop i rows)) ∙ ap (take n) (sym (drop-map key i rows))) ∙ get_or-take n (drop i (map key rows)) j 0 (omega (arith, inside, size)) ∙ get_or-drop i (map key rows) j 0 in
    let next : get_or (map key rows) (i + k) 0 < get_or (map key rows) (i + k + 1) 0 = rise (i + k) (omega (arith, some, size, rest, length-map rows key)) in
    let one : i + (k + 1) ≡ i + k + 1 = omega arith in
    let lower = at k (omega (arith, some)) in
    let upper = at (k + 1) some ∙ ap (λ (m : ℕ). get_or (map key rows) m 0) one in
    let less : get_or (map key (take n (drop i rows))) k 0 < get_or (map key (take n (drop i rows))) (k + 1) 0 = omega (arith, lower, upper, next) in
    less
