-- The chains of keys that were inserted one after another.
use Rattle.std.proofs.Common.{◌≡◌, ℕ, ◌+◌, ◌*◌, ◌%◌, ◌<◌, ◌≤◌, inl, inr, Bool, true, false, cond, eqb, List, [], ◌∷◌, ◌++◌, length, map, reverse, get_or, zero-add, refl, sym, ap, subst, ◌∙◌, arith}
use Rattle.std.proofs.Math.Nat.{mul-le-mul_left}
use Rattle.std.proofs.lemmas.Bool.{cases_Bool, eqb-true}
use Rattle.std.proofs.lemmas.List.{append-nil, reverse-append, get_or_default}
use Rattle.std.proofs.lemmas.List.Elements.{filter-append, recursion_from_All, All-from_recursion, All-map}
use Rattle.std.proofs.lemmas.List.FromFn.{length-enumerate_from, get_or-enumerate_from}
use Rattle.std.proofs.lemmas.List.Sorted.{All-permutation, IsPermutation-reverse}
use Rattle.std.specs.List.{AllByRecursion, enumerate_from, filter}
use Rattle.record_heap.specs.declared.pool.Pool.{Pool}
use Rattle.record_heap.specs.Pool.{IsRecord}
use Rattle.hash_table.specs.declared.table.Table.{Table}
use Rattle.tatp_rows.specs.Filled.{record_at, chain_for}

pub is_record : {pool : Pool} {k : ℕ} → k < pool.count → IsRecord pool (record_at pool k)
is_record {pool} {k} below = record { index = k; below = below; is = refl }

-- records stand in the order of their indexes
pub record_before : (pool : Pool) (j k : ℕ) → j < k → record_at pool j + pool.size ≤ record_at pool k
record_before pool j k less =
    let step : pool.size * (j + 1) ≤ pool.size * k = mul-le-mul_left pool.size (omega arith) in
    omega (arith, step)

enumerate-append : {X : Type 0} (n : ℕ) (xs : List X) (x : X) → enumerate_from n (xs ++ x ∷ []) ≡ enumerate_from n xs ++ (n + length xs, x) ∷ []
enumerate-append n [] x = ap (λ (k : ℕ). (k, x) ∷ []) (omega arith)
enumerate-append n (y ∷ ys) x = ap (λ l. (n, y) ∷ l) (enumerate-append (n + 1) ys x ∙ ap (λ (k : ℕ). enumerate_from (n + 1) ys ++ (k, x) ∷ []) (omega arith))

chained_push : {X : Type 0} (p : X → Bool) (f : X → ℕ) (xs : List X) (x : X) → map f (reverse (filter p (xs ++ x ∷ []))) ≡ cond (p x) (f x ∷ map f (reverse (filter p xs))) (map f (reverse (filter p xs)))
chained_push {X} p f xs x =
    let parts : filter p (xs ++ x ∷ []) ≡ filter p xs ++ cond (p x) (x ∷ []) [] = filter-append p xs (x ∷ []) in
    let each : (b : Bool) → map f (reverse (filter p xs ++ cond b (x ∷ []) [])) ≡ cond b (f x ∷ map f (reverse (filter p xs))) (map f (reverse (filter p xs))) = λ b.
    elim b as (λ b. map f (reverse (filter p xs ++ cond b (x ∷ []) [])) ≡ cond b (f x ∷ map f (reverse (filter p xs))) (map f (reverse (filter p xs)))) [
      | true ↦ ap (map f) (reverse-append (filter p xs) (x ∷ []))
      | false ↦ ap (λ l. map f (reverse l)) (append-nil (filter p xs))
    ] in
    ap (λ l. map f (reverse l)) parts ∙ each (p x)

-- a key more: its bucket's chain begins with its record
pub chain_more : (table : Table) (keys : List ℕ) (key bucket : ℕ) → chain_for table (keys ++ key ∷ []) bucket
    ≡ cond (eqb (key % table.buckets) bucket) (record_at table.pool (length keys) ∷ chain_for table keys bucket) (chain_for table keys bucket)
chain_more table keys key bucket =
    let p : ℕ × ℕ → Bool = λ x. eqb (x.1 % table.buckets) bucket in
    let f : ℕ × ℕ → ℕ = λ x. record_at table.pool x.0 in
    ap (λ l. map f (reverse (filter p l))) (enumerate-append 0 keys key) ∙ chained_push p f (enumerate_from 0 keys) (0 + length keys, key)
    ∙ ap (λ k. cond (eqb (key % table.buckets) bucket) (record_at table.pool k ∷ chain_for table keys bucket) (chain_for table keys bucket)) (zero-add (length keys))

-- the i-th record has one of the keys, which belongs to the bucket
pub record IsChained (table : Table) (keys : List ℕ) (bucket at : ℕ) : Type 0 where
  pub index : ℕ
  pub below : index < length keys
  pub is : at ≡ record_at table.pool index
  pub home : get_or keys index 0 % table.buckets ≡ bucket

each_filtered : {X : Type 0} (p : X → Bool) (P Q : X → Type 0) (xs : List X) → ((x : X) → P x → p x ≡ true → Q x) → AllByRecursion P xs → AllByRecursion Q (filter p xs)
each_filtered p P Q [] step all = tt
each_filtered p P Q (x ∷ xs) step all =
    let rest = each_filtered p P Q xs step all.1 in
    elim (cases_Bool (p x)) [
      | inl passes ↦ subst (λ b. AllByRecursion Q (cond b (x ∷ filter p xs) (filter p xs))) (sym passes) (step x all.0 passes, rest)
      | inr fails ↦ subst (λ b. AllByRecursion Q (cond b (x ∷ filter p xs) (filter p xs))) (sym fails) rest
    ]

each_enumerated : (keys : List ℕ) → AllByRecursion (λ x. (x.0 < length keys) × (get_or keys x.0 0 ≡ x.1)) (enumerate_from 0 keys)
each_enumerated keys =
    let P : ℕ × ℕ → Type 0 = λ x. (x.0 < length keys) × (get_or keys x.0 0 ≡ x.1) in
    recursion_from_All P (enumerate_from 0 keys) (λ i d below.
    let inside : i < length keys = omega (arith, length-enumerate_from 0 keys) in
    subst P (sym (get_or-enumerate_from 0 keys i d inside)) (omega arith, ap (λ k. get_or keys k 0) (zero-add i) ∙ get_or_default keys i 0 d.1 inside))

-- the records of a chain
pub chain_each : (table : Table) (keys : List ℕ) (bucket : ℕ) → AllByRecursion (IsChained table keys bucket) (chain_for table keys bucket)
chain_each table keys bucket =
    let p : ℕ × ℕ → Bool = λ x. eqb (x.1 % table.buckets) bucket in
    let f : ℕ × ℕ → ℕ = λ x. record_at table.pool x.0 in
    let P : ℕ × ℕ → Type 0 = λ x. (x.0 < length keys) × (get_or keys x.0 0 ≡ x.1) in
    let Q : ℕ × ℕ → Type 0 = λ x. IsChained table keys bucket (f x) in
    let each = each_filtered p P Q (enumerate_from 0 keys)
    (λ x holds passes. record { index = x.0; below = holds.0; is = refl; home = ap (λ k. k % table.buckets) holds.1 ∙ eqb-true (x.1 % table.buckets) bucket passes }) (each_enumerated keys) in
    let kept = filter p (enumerate_from 0 keys) in
    recursion_from_All (IsChained table keys bucket) (chain_for table keys bucket)
    (All-map (IsChained table keys bucket) f (reverse kept) (All-permutation Q kept (reverse kept) (IsPermutation-reverse kept) (All-from_recursion Q kept each)))
