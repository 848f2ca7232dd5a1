-- Lists of chains: whose elements they are, and one chain exchanged for another.
use Rattle.std.proofs.Common.{◌≡◌, ◌≢◌, ℕ, ◌<◌, ◌⊎◌, inl, inr, suc, zero, List, [], ◌∷◌, ◌++◌, length, Contains, get_or, slice_set, refl, sym, ◌∙◌, subst, arith, false, eqb, append_assoc, length-set, get_or-set_same}
use Rattle.std.proofs.lemmas.List.{set-set}
use Rattle.std.proofs.lemmas.List.Elements.{Contains-append_cases, Contains-append_left, Contains-append_right, Contains-get_or, All-contains, All-from_recursion, recursion_from_All}
use Rattle.std.proofs.lemmas.List.Sorted.{IsPermutation-refl, IsPermutation-sym, IsPermutation-trans, IsPermutation-cons, IsPermutation-append_left, IsPermutation-append_right, IsPermutation-append_comm, IsPermutation-middle}
use Rattle.std.proofs.lemmas.Bool.{eqb-false}
use Rattle.std.proofs.lemmas.Map.Keys.{IsDistinct-head, IsDistinct-tail, IsDistinct-cons, IsDistinct-from_apart}
use Rattle.std.specs.List.{AllByRecursion, IsDistinct}
use Rattle.std.specs.List.Sorted.{IsPermutation}
use Rattle.hash_table.specs.Table.{chain_of, records_in}

-- a fact of each element, one after another
pub each_from : (P : ℕ → Type 0) (xs : List ℕ) → ((x : ℕ) → Contains xs x → P x) → AllByRecursion P xs
each_from P xs holds = recursion_from_All P xs (λ k d below. holds (get_or xs k d) (Contains-get_or xs k d below))

-- a fact of each element, at one of them
pub each_at : (P : ℕ → Type 0) (xs : List ℕ) (x : ℕ) → AllByRecursion P xs → Contains xs x → P x
each_at P xs x all c = All-contains P xs x (All-from_recursion P xs all) c

only_one : (x y k : ℕ) → k < 1 → get_or (y ∷ []) k x ≡ x → x ≡ y
only_one x y zero below is = sym is
only_one x y (suc k) below is = absurd (omega arith)

-- the first element, or one of the others
pub first_or_other : (x y : ℕ) (ys : List ℕ) → Contains (y ∷ ys) x → (x ≡ y) ⊎ Contains ys x
first_or_other x y ys c =
    elim (Contains-append_cases (y ∷ []) ys x c) [
      | inl h ↦ inl (only_one x y h.0 h.1 h.2)
      | inr h ↦ inr h
    ]

pub first_among : (x : ℕ) (xs : List ℕ) → Contains (x ∷ xs) x
first_among x xs = (0, omega arith, refl)

pub other_among : (x y : ℕ) (ys : List ℕ) → Contains ys x → Contains (y ∷ ys) x
other_among x y ys c = Contains-append_right (y ∷ []) ys x c

pub no_element : (x : ℕ) → Contains [] x → ⊥
no_element x c = omega (arith, c.1)

-- in a list without repetition the elements of a prefix differ from those behind
pub differ_across : (x y : ℕ) (xs ys : List ℕ) → IsDistinct eqb (xs ++ ys) → Contains xs x → Contains ys y → x ≢ y
differ_across x y [] ys distinct cx cy same = no_element x cx
differ_across x y (z ∷ zs) ys distinct cx cy same =
    elim (first_or_other x z zs cx) [
      | inl first ↦ eqb-false z y (each_at (λ v. eqb z v ≡ false) (zs ++ ys) y (IsDistinct-head eqb z (zs ++ ys) distinct) (Contains-append_right zs ys y cy)) (sym first ∙ same)
      | inr other ↦ differ_across x y zs ys (IsDistinct-tail eqb z (zs ++ ys) distinct) other cy same
    ]

-- a prefix of a list without repetition has none
pub distinct_prefix : (xs ys : List ℕ) → IsDistinct eqb (xs ++ ys) → IsDistinct eqb xs
distinct_prefix [] ys distinct = IsDistinct-from_apart eqb [] (λ i j d lt below. absurd (omega arith))
distinct_prefix (x ∷ xs) ys distinct = IsDistinct-cons eqb x xs
    (each_from (λ y. eqb x y ≡ false) xs (λ y c. each_at (λ v. eqb x v ≡ false) (xs ++ ys) y (IsDistinct-head eqb x (xs ++ ys) distinct) (Contains-append_left xs ys y c)))
    (distinct_prefix xs ys (IsDistinct-tail eqb x (xs ++ ys) distinct))

-- what stands in a chain
pub chain_among : (chains : List (List ℕ)) (bucket x : ℕ) → Contains (chain_of chains bucket) x → Contains (records_in chains) x
chain_among [] bucket x c = c
chain_among (chain ∷ chains) zero x c = Contains-append_left chain (records_in chains) x c
chain_among (chain ∷ chains) (suc bucket) x c = Contains-append_right chain (records_in chains) x (chain_among chains bucket x c)

-- a record of some chain
pub chain_with : (chains : List (List ℕ)) (x : ℕ) → Contains (records_in chains) x → (bucket : ℕ) × (bucket < length chains) × Contains (chain_of chains bucket) x
chain_with [] x c = absurd (no_element x c)
chain_with (chain ∷ chains) x c =
    elim (Contains-append_cases chain (records_in chains) x c) [
      | inl here ↦ (0, omega arith, here)
      | inr there ↦ let found = chain_with chains x there in (suc found.0, omega (arith, found.1), found.2)
    ]

move_first : (xs ys zs : List ℕ) → IsPermutation (xs ++ (ys ++ zs)) (ys ++ (xs ++ zs))
move_first xs ys zs =
    subst (λ l. IsPermutation l (ys ++ (xs ++ zs))) (append_assoc xs ys zs)
    (subst (λ l. IsPermutation (xs ++ ys ++ zs) l) (append_assoc ys xs zs) (IsPermutation-append_left zs (xs ++ ys) (ys ++ xs) (IsPermutation-append_comm xs ys)))

-- one chain, and those of the other buckets
chain_apart : (chains : List (List ℕ)) (bucket : ℕ) → bucket < length chains → IsPermutation (records_in chains) (chain_of chains bucket ++ records_in (slice_set chains bucket []))
chain_apart [] bucket below = absurd (omega arith)
chain_apart (chain ∷ chains) zero below = IsPermutation-refl (chain ++ records_in chains)
chain_apart (chain ∷ chains) (suc bucket) below =
    IsPermutation-trans _ _ _
    (IsPermutation-append_right chain (records_in chains) (chain_of chains bucket ++ records_in (slice_set chains bucket [])) (chain_apart chains bucket (omega arith)))
    (move_first chain (chain_of chains bucket) (records_in (slice_set chains bucket [])))

pub chain_put : (chains : List (List ℕ)) (bucket : ℕ) (chain : List ℕ) → bucket < length chains → IsPermutation (records_in (slice_set chains bucket chain)) (chain ++ records_in (slice_set chains bucket []))
chain_put chains bucket chain below =
    subst (λ l. IsPermutation (records_in (slice_set chains bucket chain)) (l ++ records_in (slice_set chains bucket []))) (get_or-set_same chains bucket chain [] below)
    (subst (λ l. IsPermutation (records_in (slice_set chains bucket chain)) (chain_of (slice_set chains bucket chain) bucket ++ records_in l)) (set-set chains bucket chain [])
    (chain_apart (slice_set chains bucket chain) bucket (omega (arith, length-set chains bucket chain))))

-- one more record before a chain
pub records_more : (chains : List (List ℕ)) (bucket at : ℕ) → bucket < length chains → IsPermutation (at ∷ records_in chains) (records_in (slice_set chains bucket (at ∷ chain_of chains bucket)))
records_more chains bucket at below =
    IsPermutation-trans _ _ _
    (IsPermutation-cons at _ _ (chain_apart chains bucket below))
    (IsPermutation-sym _ _ (chain_put chains bucket (at ∷ chain_of chains bucket) below))

-- one record of a chain fewer
pub records_less : (chains : List (List ℕ)) (bucket at : ℕ) (before behind : List ℕ) → bucket < length chains → chain_of chains bucket ≡ before ++ at ∷ behind → IsPermutation (records_in chains) (at ∷ records_in (slice_set chains bucket (before ++ behind)))
records_less chains bucket at before behind below is =
    let others = records_in (slice_set chains bucket []) in
    IsPermutation-trans _ _ _ (chain_apart chains bucket below)
    (IsPermutation-trans _ _ _
    (subst (λ l. IsPermutation (l ++ others) (at ∷ ((before ++ behind) ++ others))) (sym is) (IsPermutation-append_left others (before ++ at ∷ behind) (at ∷ (before ++ behind)) (IsPermutation-middle before at behind)))
    (IsPermutation-cons at _ _ (IsPermutation-sym _ _ (chain_put chains bucket (before ++ behind) below))))
