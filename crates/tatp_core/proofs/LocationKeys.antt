-- The keys of subscribers in an index, where one of them changes.
use Rattle.std.proofs.Common.{◌≡◌, ℕ, ◌+◌, ◌^◌, ◌<◌, ◌≤◌, inl, inr, Bool, true, false, not, cond, List, [], ◌∷◌, ◌++◌, length, map, get_or, Contains, refl, sym, ap, ap₂, ◌∙◌, subst, arith}
use Rattle.std.specs.List.{filter}
use Rattle.std.specs.List.Sorted.{IsPermutation, IsStrictlyIncreasing}
use Rattle.std.proofs.lemmas.Bool.{both_ways, cases_Bool}
use Rattle.std.proofs.lemmas.List.Elements.{Contains-get_or}
use Rattle.std.proofs.lemmas.List.Kept.{AllPairs-filter}
use Rattle.std.proofs.lemmas.List.Sorted.{IsPermutation-cons, IsPermutation-middle, IsPermutation-refl, IsPermutation-sym, IsPermutation-trans}
use Rattle.tatp_model.specs.declared.sub_row.SubRow.{SubRow}
use Rattle.tatp_model.specs.Transaction.{update_where}
use Rattle.tatp_model.proofs.Rising.{length-le_from_keys, pairs_from_rising}
use Rattle.tatp_layout.specs.Index.{location_key}
use Rattle.tatp_layout.specs.Records.{subscriber_form}
use Rattle.tatp_layout.proofs.Found.{first_or_other}
use Rattle.tatp_layout.proofs.Rewritten.{NamesRow, contains_map_back}
use Rattle.tatp_core.proofs.Lists.{contains_filter, filter_contains}

-- the rows that a test doesn't name
abbrev pub others_of : {R : Type 0} → (R → Bool) → List R → List R
others_of test rows = filter (λ r. not (test r)) rows

-- numbers of the rows, those that a test names before the others
parted : {R : Type 0} (test : R → Bool) (h f g : R → ℕ) → ((r : R) → test r ≡ true → h r ≡ f r) → ((r : R) → test r ≡ false → h r ≡ g r) → (rows : List R) → IsPermutation (map h rows) (map f (filter test rows) ++ map g (others_of test rows))
parted test h f g on off [] = IsPermutation-refl []
parted test h f g on off (r ∷ rows) =
    let rest = parted test h f g on off rows in
    elim (cases_Bool (test r)) [
      | inl passes ↦ rw passes (subst (λ k. IsPermutation (k ∷ map h rows) (f r ∷ (map f (filter test rows) ++ map g (others_of test rows)))) (sym (on r passes)) (IsPermutation-cons (f r) _ _ rest))
      | inr fails ↦ rw fails (subst (λ k. IsPermutation (k ∷ map h rows) (map f (filter test rows) ++ g r ∷ map g (others_of test rows))) (sym (off r fails))
          (IsPermutation-trans _ _ _ (IsPermutation-cons (g r) _ _ rest) (IsPermutation-sym _ _ (IsPermutation-middle (map f (filter test rows)) (g r) (map g (others_of test rows))))))
    ]

fused : {R : Type 0} (k : R → ℕ) (change : R → R) (rows : List R) → map k (map change rows) ≡ map (λ r. k (change r)) rows
fused k change [] = refl
fused k change (r ∷ rows) = ap (λ ks. k (change r) ∷ ks) (fused k change rows)

-- the only one of a list
single : {R : Type 0} (row : R) (kept : List R) → Contains kept row → length kept ≤ 1 → kept ≡ row ∷ []
single row [] c few = absurd (omega (arith, c.1))
single row (x ∷ []) c few = elim (first_or_other row x [] c) [ inl is ↦ ap (λ r. r ∷ []) is | inr none ↦ absurd (omega (arith, none.1)) ]
single row (x ∷ y ∷ more) c few = absurd (omega arith)

-- ---- one subscriber gets another location

module _ {test : SubRow → Bool} {rows : List SubRow} {row : SubRow} (rise : IsStrictlyIncreasing (map (λ r. r.s_id) rows)) (there : Contains rows row) (named : NamesRow subscriber_form test rows row) where
  named_alone : filter test rows ≡ row ∷ []
  named_alone =
      let kept = filter test rows in
      let same : (k : ℕ) (d : SubRow) → k < length kept → (get_or kept k d).s_id ≡ row.s_id =
      λ k d inside. let c = filter_contains test rows (get_or kept k d) (Contains-get_or kept k d inside) in named.names (get_or kept k d) c.0 c.1 in
      let few : length kept ≤ 1 = length-le_from_keys (λ r. r.s_id) kept row.s_id 1 (AllPairs-filter (λ r s. r.s_id < s.s_id) test rows (pairs_from_rising (λ r. r.s_id) rows rise)) (λ k d inside. omega (arith, same k d inside)) (λ k d inside. omega (arith, same k d inside)) in
      single row kept (contains_filter test rows row there named.passes) few

  pub keys_apart : IsPermutation (map location_key rows) (location_key row ∷ map location_key (others_of test rows))
  keys_apart = subst (λ kept. IsPermutation (map location_key rows) (map location_key kept ++ map location_key (others_of test rows))) named_alone (parted test location_key location_key location_key (λ r passes. refl) (λ r fails. refl) rows)

  pub keys_together : (rewrite : SubRow → SubRow) → IsPermutation (location_key (rewrite row) ∷ map location_key (others_of test rows)) (map location_key (update_where test rewrite rows))
  keys_together rewrite =
      let change = λ (s : SubRow). cond (test s) (rewrite s) s in
      let apart = parted test (λ s. location_key (change s)) (λ s. location_key (rewrite s)) location_key (λ s passes. ap (λ b. location_key (cond b (rewrite s) s)) passes) (λ s fails. ap (λ b. location_key (cond b (rewrite s) s)) fails) rows in
      let one = subst (λ kept. IsPermutation (map (λ s. location_key (change s)) rows) (map (λ s. location_key (rewrite s)) kept ++ map location_key (others_of test rows))) named_alone apart in
      IsPermutation-sym _ _ (subst (λ ks. IsPermutation ks (location_key (rewrite row) ∷ map location_key (others_of test rows))) (sym (fused location_key change rows)) one)

  -- no other subscriber has a key with its s_id
  pub key_absent : (vlr : ℕ) → ((s : SubRow) → Contains rows s → s.s_id < 2 ^ 32) → ¬ Contains (map location_key (others_of test rows)) (location_key (record row { vlr = vlr }))
  key_absent vlr small = λ c.
      let back = contains_map_back location_key (others_of test rows) _ c in
      let was = filter_contains (λ r. not (test r)) rows back.0 back.1 in
      let same : back.0.s_id ≡ row.s_id = omega (arith, back.2, small back.0 was.0, small row there) in
      both_ways (not (test back.0)) (ap not (ap test (named.alone back.0 was.0 same) ∙ named.passes)) was.1

-- ---- rows that are rewritten but for their keys in an index

pub same_keys : (test : SubRow → Bool) (rewrite : SubRow → SubRow) → ((s : SubRow) → location_key (rewrite s) ≡ location_key s) → (rows : List SubRow) → map location_key (update_where test rewrite rows) ≡ map location_key rows
same_keys test rewrite same [] = refl
same_keys test rewrite same (r ∷ rows) = ap₂ (λ k ks. k ∷ ks)
    (elim (cases_Bool (test r)) [ inl passes ↦ ap (λ b. location_key (cond b (rewrite r) r)) passes ∙ same r | inr fails ↦ ap (λ b. location_key (cond b (rewrite r) r)) fails ])
    (same_keys test rewrite same rows)
