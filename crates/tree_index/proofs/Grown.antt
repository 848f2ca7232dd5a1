-- A shape with one key more: there is one such shape.
use Rattle.std.proofs.Common.{◌≡◌, ◌≢◌, ℕ, zero, suc, ◌+◌, ◌*◌, ◌/◌, ◌^◌, ◌⊎◌, inl, inr, List, [], ◌∷◌, ◌++◌, Contains, Option, Some, None, refl, sym, ap, ◌∙◌, subst, arith}
use Rattle.std.proofs.lemmas.Bool.{cases_order}
use Rattle.std.proofs.lemmas.List.Elements.{All-contains, Contains-append_left, Contains-append_right}
use Rattle.std.proofs.lemmas.List.Sorted.{IsPermutation-refl, IsPermutation-sym, IsPermutation-to_front}
use Rattle.std.specs.List.Sorted.{IsPermutation}
use Rattle.tree_index.specs.Shape.{Shape, Leaf, Fork, IsRadix, bit_of, keys_in, keys_of, least_of}
use Rattle.tree_index.specs.Path.{Frame, OnZeros, OnOnes, GrowsBy, HasLeafMore, plug}
use Rattle.tree_index.specs.Walk.{EndsBelow}
use Rattle.tree_index.proofs.Numbers.{agree_up, half}
use Rattle.tree_index.proofs.Paths.{keys_along, plug_keys}
use Rattle.tree_index.proofs.Shapes.{agree_above, first_among, least_in}
use Rattle.tree_index.proofs.Stored.{grown_lists}

-- ---- where the leaf is, from the root on

-- an inner record over a leaf and a shape, with the leaf on this side
abbrev beside : ℕ → ℕ → ℕ → Shape → Shape → Shape
beside zero fork bit leaf shape = Fork fork bit leaf shape
beside (suc n) fork bit leaf shape = Fork fork bit shape leaf

module _ (key leaf fork : ℕ) where
  abbrev IsOver : Shape → Shape → Type 0
  IsOver fewer more = (bit : ℕ) × ((more ≡ Fork fork bit (Leaf leaf key) fewer) ⊎ (more ≡ Fork fork bit fewer (Leaf leaf key)))

  -- the leaf is beside the whole, or below its zeros, or below its ones
  abbrev IsAdded : Shape → Shape → Type 0
  IsAdded (Leaf at k) more = IsOver (Leaf at k) more
  IsAdded (Fork at bit zeros ones) more = IsOver (Fork at bit zeros ones) more
      ⊎ (((z : Shape) × IsAdded zeros z × (more ≡ Fork at bit z ones)) ⊎ ((o : Shape) × IsAdded ones o × (more ≡ Fork at bit zeros o)))

  added_over : (fewer more : Shape) → IsOver fewer more → IsAdded fewer more
  added_over (Leaf at k) more over = over
  added_over (Fork at bit zeros ones) more over = inl over

  added_along : (path : List Frame) (part more : Shape) → IsAdded part more → IsAdded (plug path part) (plug path more)
  added_along [] part more added = added
  added_along (OnZeros at bit ones ∷ path) part more added = added_along path (Fork at bit part ones) (Fork at bit more ones) (inr (inl (more, added, refl)))
  added_along (OnOnes at bit zeros ∷ path) part more added = added_along path (Fork at bit zeros part) (Fork at bit zeros more) (inr (inr (more, added, refl)))

  added_from : (fewer more : Shape) → HasLeafMore key leaf fork fewer more → IsAdded fewer more
  added_from fewer more h =
      let whole : (over : Shape) → IsOver h.part over → more ≡ plug h.path over → IsAdded fewer more = λ over is same.
      subst (λ s. IsAdded s more) (sym h.without) (subst (λ s. IsAdded (plug h.path h.part) s) (sym same) (added_along h.path h.part over (added_over h.part over is))) in
      elim h.with_leaf [
        | inl left ↦ whole (Fork fork h.bit (Leaf leaf key) h.part) (h.bit, inl refl) left
        | inr right ↦ whole (Fork fork h.bit h.part (Leaf leaf key)) (h.bit, inr refl) right
      ]

  over_key : (fewer more : Shape) → IsOver fewer more → Contains (keys_of more) key
  over_key fewer more over = elim over.1 [
    | inl left ↦ subst (λ s. Contains (keys_of s) key) (sym left) (first_among key (keys_of fewer))
    | inr right ↦ subst (λ s. Contains (keys_of s) key) (sym right) (Contains-append_right (keys_of fewer) (key ∷ []) key (first_among key []))
  ]

  added_key : (fewer more : Shape) → IsAdded fewer more → Contains (keys_of more) key
  added_key (Leaf at k) more over = over_key (Leaf at k) more over
  added_key (Fork at bit zeros ones) more (inl over) = over_key (Fork at bit zeros ones) more over
  added_key (Fork at bit zeros ones) more (inr (inl left)) =
      subst (λ s. Contains (keys_of s) key) (sym left.2) (Contains-append_left (keys_of left.0) (keys_of ones) key (added_key zeros left.0 left.1))
  added_key (Fork at bit zeros ones) more (inr (inr right)) =
      subst (λ s. Contains (keys_of s) key) (sym right.2) (Contains-append_right (keys_of zeros) (keys_of right.0) key (added_key ones right.0 right.1))

-- ---- the bit

-- the highest bit in which two keys differ
record IsTop (a c bit : ℕ) : Type 0 where
  above : a / 2 ^ (bit + 1) ≡ c / 2 ^ (bit + 1)
  here : a / 2 ^ bit ≢ c / 2 ^ bit

top_of : (a c bit high : ℕ) → a / 2 ^ bit ≡ 2 * high → c / 2 ^ bit ≡ 2 * high + 1 → IsTop a c bit
top_of a c bit high zero_bit one_bit = record {
  above = omega (arith, half bit a, half bit c, zero_bit, one_bit);
  here = λ same. omega (arith, same, zero_bit, one_bit);
}

flip_top : (a c bit : ℕ) → IsTop a c bit → IsTop c a bit
flip_top a c bit top = record { above = sym top.above; here = λ same. top.here (sym same) }

one_top : (a c bit other : ℕ) → IsTop a c bit → IsTop a c other → bit ≡ other
one_top a c bit other first second =
    elim (cases_order bit other) [
      | inl same ↦ same
      | inr order ↦ elim order [
        | inl below ↦ absurd (second.here (agree_up (bit + 1) other a c (omega (arith, below)) first.above))
        | inr above ↦ absurd (first.here (agree_up (other + 1) bit a c (omega (arith, above)) second.above))
      ]
    ]

ends_radix : (bit : ℕ) (shape : Shape) → IsRadix bit shape → EndsBelow bit shape
ends_radix bit (Leaf at key) radix = tt
ends_radix bit (Fork at b zeros ones) radix = radix.0

-- A leaf is put beside a shape in the highest bit in which its key differs from all others, and on the key's side.
record IsSplit (key leaf fork bit : ℕ) (fewer more : Shape) : Type 0 where
  tops : (y : ℕ) → Contains (keys_of fewer) y → IsTop key y bit
  lower : EndsBelow bit fewer
  is : more ≡ beside (bit_of key bit) fork bit (Leaf leaf key) fewer

module _ (key leaf fork : ℕ) where
  split_over : (m : ℕ) (fewer more : Shape) → (over : IsOver key leaf fork fewer more) → IsRadix m more → IsSplit key leaf fork over.0 fewer more
  split_over m fewer more over radix =
      let bit = over.0 in
      elim over.1 [
        | inl left ↦
            let r = subst (IsRadix m) left radix in
            let high = r.1.0 in
            let mine = All-contains (λ y. y / 2 ^ bit ≡ 2 * high) (key ∷ []) key r.1.1 (first_among key []) in
            let turn : bit_of key bit ≡ 0 = omega (arith, mine) in
            record {
              tops = λ y c. top_of key y bit high mine (All-contains (λ y. y / 2 ^ bit ≡ 2 * high + 1) (keys_of fewer) y r.1.2 c);
              lower = ends_radix bit fewer r.3;
              is = left ∙ ap (λ n. beside n fork bit (Leaf leaf key) fewer) (sym turn);
            }
        | inr right ↦
            let r = subst (IsRadix m) right radix in
            let high = r.1.0 in
            let mine = All-contains (λ y. y / 2 ^ bit ≡ 2 * high + 1) (key ∷ []) key r.1.2 (first_among key []) in
            let turn : bit_of key bit ≡ 1 = omega (arith, mine) in
            record {
              tops = λ y c. flip_top y key bit (top_of y key bit high (All-contains (λ y. y / 2 ^ bit ≡ 2 * high) (keys_of fewer) y r.1.1 c) mine);
              lower = ends_radix bit fewer r.2;
              is = right ∙ ap (λ n. beside n fork bit (Leaf leaf key) fewer) (sym turn);
            }
      ]

  overs_same : (m : ℕ) (fewer one other : Shape) → IsOver key leaf fork fewer one → IsOver key leaf fork fewer other → IsRadix m one → IsRadix m other → one ≡ other
  overs_same m fewer one other over again radix radix_again =
      let first = split_over m fewer one over radix in
      let second = split_over m fewer other again radix_again in
      let y = least_of fewer in
      let bits = one_top key y over.0 again.0 (first.tops y (least_in fewer)) (second.tops y (least_in fewer)) in
      first.is ∙ ap (λ b. beside (bit_of key b) fork b (Leaf leaf key) fewer) bits ∙ sym second.is

  -- what is put beside the whole differs above the bit of the whole, where the keys of what is put below agree
  not_both : (m at bit y : ℕ) (zeros ones z o one : Shape) → IsOver key leaf fork (Fork at bit zeros ones) one → IsRadix m one → IsRadix m (Fork at bit z o) → Contains (keys_of z ++ keys_of o) key → Contains (keys_of z ++ keys_of o) y → Contains (keys_of zeros ++ keys_of ones) y → ⊥
  not_both m at bit y zeros ones z o one over radix other key_in y_in y_was =
      let split = split_over m (Fork at bit zeros ones) one over radix in
      let agree = agree_above m at bit z o other in
      let P : ℕ → Type 0 = λ x. x / 2 ^ (bit + 1) ≡ agree.0 in
      let same : key / 2 ^ (bit + 1) ≡ y / 2 ^ (bit + 1) = All-contains P (keys_of z ++ keys_of o) key agree.1 key_in ∙ sym (All-contains P (keys_of z ++ keys_of o) y agree.1 y_in) in
      (split.tops y y_was).here (agree_up (bit + 1) over.0 key y (omega (arith, split.lower)) same)

  not_zeros : (m at bit : ℕ) (zeros ones z one other : Shape) → IsOver key leaf fork (Fork at bit zeros ones) one → IsRadix m one → IsAdded key leaf fork zeros z → other ≡ Fork at bit z ones → IsRadix m other → ⊥
  not_zeros m at bit zeros ones z one other over radix added is radix_other =
      not_both m at bit (least_of ones) zeros ones z ones one over radix (subst (IsRadix m) is radix_other)
      (Contains-append_left (keys_of z) (keys_of ones) key (added_key key leaf fork zeros z added))
      (Contains-append_right (keys_of z) (keys_of ones) (least_of ones) (least_in ones)) (Contains-append_right (keys_of zeros) (keys_of ones) (least_of ones) (least_in ones))

  not_ones : (m at bit : ℕ) (zeros ones o one other : Shape) → IsOver key leaf fork (Fork at bit zeros ones) one → IsRadix m one → IsAdded key leaf fork ones o → other ≡ Fork at bit zeros o → IsRadix m other → ⊥
  not_ones m at bit zeros ones o one other over radix added is radix_other =
      not_both m at bit (least_of zeros) zeros ones zeros o one over radix (subst (IsRadix m) is radix_other)
      (Contains-append_right (keys_of zeros) (keys_of o) key (added_key key leaf fork ones o added))
      (Contains-append_left (keys_of zeros) (keys_of o) (least_of zeros) (least_in zeros)) (Contains-append_left (keys_of zeros) (keys_of ones) (least_of zeros) (least_in zeros))

  -- nor is it put on both sides of a bit
  not_sides : (m at bit : ℕ) (zeros ones z o one other : Shape) → IsAdded key leaf fork zeros z → one ≡ Fork at bit z ones → IsRadix m one → IsAdded key leaf fork ones o → other ≡ Fork at bit zeros o → IsRadix m other → ⊥
  not_sides m at bit zeros ones z o one other left one_is radix right other_is radix_other =
      let r = subst (IsRadix m) one_is radix in
      let q = subst (IsRadix m) other_is radix_other in
      let zero_bit = All-contains (λ y. y / 2 ^ bit ≡ 2 * r.1.0) (keys_of z) key r.1.1 (added_key key leaf fork zeros z left) in
      let one_bit = All-contains (λ y. y / 2 ^ bit ≡ 2 * q.1.0 + 1) (keys_of o) key q.1.2 (added_key key leaf fork ones o right) in
      omega (arith, zero_bit, one_bit)

  one_added : (m : ℕ) (fewer one other : Shape) → IsAdded key leaf fork fewer one → IsAdded key leaf fork fewer other → IsRadix m one → IsRadix m other → one ≡ other
  one_added m (Leaf at k) one other over again radix radix_again = overs_same m (Leaf at k) one other over again radix radix_again
  one_added m (Fork at bit zeros ones) one other (inl over) (inl again) r q = overs_same m (Fork at bit zeros ones) one other over again r q
  one_added m (Fork at bit zeros ones) one other (inl over) (inr (inl z)) r q = absurd (not_zeros m at bit zeros ones z.0 one other over r z.1 z.2 q)
  one_added m (Fork at bit zeros ones) one other (inl over) (inr (inr o)) r q = absurd (not_ones m at bit zeros ones o.0 one other over r o.1 o.2 q)
  one_added m (Fork at bit zeros ones) one other (inr (inl z)) (inl over) r q = absurd (not_zeros m at bit zeros ones z.0 other one over q z.1 z.2 r)
  one_added m (Fork at bit zeros ones) one other (inr (inl z)) (inr (inl y)) r q =
      z.2 ∙ ap (λ s. Fork at bit s ones) (one_added bit zeros z.0 y.0 z.1 y.1 (subst (IsRadix m) z.2 r).2 (subst (IsRadix m) y.2 q).2) ∙ sym y.2
  one_added m (Fork at bit zeros ones) one other (inr (inl z)) (inr (inr o)) r q = absurd (not_sides m at bit zeros ones z.0 o.0 one other z.1 z.2 r o.1 o.2 q)
  one_added m (Fork at bit zeros ones) one other (inr (inr o)) (inl over) r q = absurd (not_ones m at bit zeros ones o.0 other one over q o.1 o.2 r)
  one_added m (Fork at bit zeros ones) one other (inr (inr o)) (inr (inl z)) r q = absurd (not_sides m at bit zeros ones z.0 o.0 other one z.1 z.2 q o.1 o.2 r)
  one_added m (Fork at bit zeros ones) one other (inr (inr o)) (inr (inr p)) r q =
      o.2 ∙ ap (λ s. Fork at bit zeros s) (one_added bit ones o.0 p.0 o.1 p.1 (subst (IsRadix m) o.2 r).3 (subst (IsRadix m) p.2 q).3) ∙ sym p.2

-- there is one shape with the leaf and the first free inner record more
pub grows_once : (key leaf : ℕ) (free left : List ℕ) (before : Option Shape) (one other : Shape) → GrowsBy key leaf before free left one → GrowsBy key leaf before free left other → IsRadix 64 one → IsRadix 64 other → one ≡ other
grows_once key leaf free left None one other grows again radix radix_again = grows.1 ∙ sym again.1
grows_once key leaf free left (Some fewer) one other grows again radix radix_again =
    let first = grows.1 in
    let second = again.1 in
    let fork : again.0 ≡ grows.0 = cc in
    one_added key leaf grows.0 64 fewer one other (added_from key leaf grows.0 fewer one grows.2) (added_from key leaf grows.0 fewer other (subst (λ f. HasLeafMore key leaf f fewer other) fork again.2)) radix radix_again

-- its keys are those before and the leaf's
pub grown_keys : (key leaf : ℕ) (free left : List ℕ) (before : Option Shape) (after : Shape) → GrowsBy key leaf before free left after → IsPermutation (key ∷ keys_in before) (keys_of after)
grown_keys key leaf free left None after grows = subst (λ s. IsPermutation (key ∷ []) (keys_of s)) (sym grows.1) (IsPermutation-refl (key ∷ []))
grown_keys key leaf free left (Some fewer) after grows =
    let h = grows.2 in
    let whole : (over : Shape) → IsPermutation (key ∷ keys_of h.part) (keys_of over) → after ≡ plug h.path over → IsPermutation (key ∷ keys_of fewer) (keys_of after) = λ over more is.
    subst (λ s. IsPermutation (key ∷ keys_of s) (keys_of after)) (sym h.without) (subst (λ s. IsPermutation (key ∷ keys_of (plug h.path h.part)) (keys_of s)) (sym is)
    (grown_lists key (keys_of (plug h.path h.part)) (keys_of h.part) (keys_along h.path) (keys_of over) (keys_of (plug h.path over)) (plug_keys h.path h.part) (plug_keys h.path over) more)) in
    elim h.with_leaf [
      | inl left ↦ whole (Fork grows.0 h.bit (Leaf leaf key) h.part) (IsPermutation-refl (key ∷ keys_of h.part)) left
      | inr right ↦ whole (Fork grows.0 h.bit h.part (Leaf leaf key)) (IsPermutation-sym _ _ (IsPermutation-to_front (keys_of h.part) key)) right
    ]
