-- Whether a head meets those that are kept: the first of them whose last number isn't below its first one decides.
use Rattle.std.proofs.Common.{◌≡◌, ◌⊎◌, inl, inr, ℕ, ◌<◌, ◌≤◌, false, List, [], ◌∷◌, None, is_some, refl, sym, ap, ◌∙◌, subst, arith, rules}
use Rattle.std.proofs.lemmas.Bool.{cases_order}
use Rattle.std.proofs.lemmas.List.Elements.{All-head}
use Rattle.std.proofs.lemmas.Map.Keys.{le_from_not_gt}
use Rattle.std.specs.declared.ops.Bound.TheVariants.{Included, Unbounded}
use Rattle.std.specs.Ordering.{nat_cmp, is_gt}
use Rattle.std.specs.BTreeMap.{get}
use Rattle.std.specs.BTreeMap.Range.{IsRangeOf, IsEntryInRange}
use Rattle.dude_base.specs.Records.{RedoBundle, first_of, Covers}
use Rattle.log_ring.specs.declared.head.Head.{Head}
use Rattle.log_ring.specs.declared.scan_state.ScanState.{ScanState}
use Rattle.log_ring.specs.Heads.{numbers_of}
use Rattle.log_ring.specs.Scanning.{AreKept, MeetsKept, MissesKept}

not_gt : (a b : ℕ) → a ≤ b → is_gt (nat_cmp a b) ≡ false
not_gt a b le = grind (arith, le)

-- the last number of a bundle that covers a number of this one isn't below its first
within : (b r : RedoBundle) (number : ℕ) → Covers r number → Covers b number → first_of b ≤ r.last
within b r number covers too = let low = too.low in let high = covers.high in omega arith

module _ (found : ScanState) (b : Head) where
  -- what lies from its first number on
  abbrev pub IsFrom : List (ℕ × Head) → Type 0
  IsFrom es = IsRangeOf nat_cmp (Included (first_of (numbers_of b))) Unbounded found.heads es

  -- where nothing lies there
  pub misses_none : IsFrom [] → AreKept found → MissesKept found b
  misses_none range kept n r number is covers too =
      let last = kept.keyed n r is in
      let low : first_of (numbers_of b) ≤ n = subst (λ (x : ℕ). first_of (numbers_of b) ≤ x) last (within (numbers_of b) (numbers_of r) number covers too) in
      let none : get nat_cmp found.heads n ≡ None = range.5 refl n (not_gt (first_of (numbers_of b)) n low, tt) in
      absurd (search (rules, sym is ∙ none))

  module _ (k : ℕ) (q : Head) (es : List (ℕ × Head)) (range : IsFrom ((k, q) ∷ es)) where
    first_is : IsEntryInRange nat_cmp (Included (first_of (numbers_of b))) Unbounded found.heads (k, q)
    first_is = All-head (IsEntryInRange nat_cmp (Included (first_of (numbers_of b))) Unbounded found.heads) (k, q) es range.0

    pub meets_first : first_of (numbers_of q) ≤ b.last → first_of (numbers_of b) ≤ q.last → MeetsKept found b
    meets_first one other = by (cases_order (first_of (numbers_of q)) (first_of (numbers_of b)))
      where
        at : (number : ℕ) → Covers (numbers_of q) number → Covers (numbers_of b) number → MeetsKept found b
        at number covers too = (k, q, number, first_is.1, covers, too)

        by : (first_of (numbers_of q) ≡ first_of (numbers_of b)) ⊎ ((first_of (numbers_of q) < first_of (numbers_of b)) ⊎ (first_of (numbers_of b) < first_of (numbers_of q))) → MeetsKept found b
        by (inl same) = at (first_of (numbers_of b)) (record { low = omega arith; high = other }) (record { low = omega arith; high = omega arith })
        by (inr (inl lt)) = at (first_of (numbers_of b)) (record { low = omega arith; high = other }) (record { low = omega arith; high = omega arith })
        by (inr (inr gt)) = at (first_of (numbers_of q)) (record { low = omega arith; high = omega arith }) (record { low = omega arith; high = one })

    pub misses_first : (b.last < first_of (numbers_of q)) → AreKept found → MissesKept found b
    misses_first past kept n r number is covers too =
        let last = kept.keyed n r is in
        let key = kept.keyed k q first_is.1 in
        let low : first_of (numbers_of b) ≤ n = subst (λ (x : ℕ). first_of (numbers_of b) ≤ x) last (within (numbers_of b) (numbers_of r) number covers too) in
        let least : k ≤ n = le_from_not_gt k n (range.2 n (not_gt (first_of (numbers_of b)) n low, tt) (ap is_some is)) in
        let under = covers.low in
        let upto = too.high in
        let one : Covers (numbers_of r) k = record { low = omega arith; high = omega arith } in
        let other : Covers (numbers_of q) k = record { low = omega arith; high = omega arith } in
        let same : n ≡ k = kept.apart n k r q k is first_is.1 one other in
        let is_q : r ≡ q = search (rules, sym is ∙ (ap (get nat_cmp found.heads) same ∙ first_is.1)) in
        let first : first_of (numbers_of r) ≡ first_of (numbers_of q) = ap (λ (h : Head). first_of (numbers_of h)) is_q in
        omega arith
