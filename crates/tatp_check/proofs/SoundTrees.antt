-- A tree in which nothing is wrong is a lawful one whose keys are among these, and the other way round.
use Rattle.std.proofs.Common.{◌≡◌, ◌≢◌, inl, inr, ℕ, ◌+◌, ◌-◌, ◌*◌, ◌/◌, ◌^◌, ◌<◌, List, [], ◌∷◌, ◌++◌, length, All, AllPairs, Contains, Option, Some, None, get_or, refl, sym, ap, ◌∙◌, subst, arith, append_assoc, length-append}
use Rattle.std.proofs.lemmas.Bool.{cases_lt}
use Rattle.std.proofs.lemmas.List.{append-nil, get_or_append_left, get_or_default, get_or-append-add}
use Rattle.std.proofs.lemmas.List.Elements.{All-append, All-cons, All-contains, All-nil, All-weaker, Contains-append_left, Contains-append_right, Contains-get_or}
use Rattle.std.proofs.lemmas.List.Quantifiers.{all_pairs_push}
use Rattle.record_heap.specs.Pool.{IsRecord}
use Rattle.tree_index.specs.declared.tree.Tree.{Tree}
use Rattle.tree_index.specs.Shape.{Shape, Leaf, Fork, Holds, IsRadix, bit_of, forks_in, forks_of, keys_in, keys_of, least_of, leaves_in, leaves_of}
use Rattle.tree_index.specs.Tree.{FitsTree, IsTree}
use Rattle.tree_index.specs.Walk.{HasRecords}
use Rattle.tree_index.proofs.Found.{tree_in}
use Rattle.tree_index.proofs.Numbers.{from_bit, half}
use Rattle.tree_index.proofs.Shapes.{all_by, first_among, least_in}
use Rattle.tatp_check.specs.TreeFaults.{IsWholeTree}
use Rattle.tatp_check.specs.TreeWalk.{GoesByTurns, HasWalkedAll, IsSoundShape, ToOnes, ToZeros, Turn, bit_limit, forks_met, leaves_met}
use Rattle.tatp_check.proofs.Compared.{pairs_across}
use Rattle.tatp_check.proofs.LawfulTable.{lawful_pool_whole, pairs_front, whole_pool_lawful}

-- ---- lists

pub pairs_joined : {X : Type 0} (R : X → X → Type 0) (xs ys : List X) → AllPairs R xs → AllPairs R ys → ((x y : X) → Contains xs x → Contains ys y → R x y) → AllPairs R (xs ++ ys)
pairs_joined R xs ys here there across i j d less below = elim (cases_lt j (length xs)) [
  | inl front ↦
      subst (λ v. R v (get_or (xs ++ ys) j d)) (sym (get_or_append_left xs ys d i (omega (arith, less, front))))
      (subst (R (get_or xs i d)) (sym (get_or_append_left xs ys d j front)) (here i j d less front))
  | inr behind ↦
      let k = j - length xs in
      let at_j : j ≡ length xs + k = omega (arith, behind) in
      let inside : k < length ys = omega (arith, below, behind, length-append xs ys) in
      let second : get_or (xs ++ ys) j d ≡ get_or ys k d = ap (λ n. get_or (xs ++ ys) n d) at_j ∙ get_or-append-add xs ys k d in
      subst (R (get_or (xs ++ ys) i d)) (sym second) (elim (cases_lt i (length xs)) [
        | inl front ↦
            subst (λ v. R v (get_or ys k d)) (sym (get_or_append_left xs ys d i front))
            (across (get_or xs i d) (get_or ys k d) (Contains-get_or xs i d front) (Contains-get_or ys k d inside))
        | inr both ↦
            let m = i - length xs in
            let at_i : i ≡ length xs + m = omega (arith, both) in
            subst (λ v. R v (get_or ys k d)) (sym (ap (λ n. get_or (xs ++ ys) n d) at_i ∙ get_or-append-add xs ys m d))
            (there m k d (omega (arith, less, both)) inside)
      ])
]

-- ---- keys

-- a bit, and what stands above it
pub side_above : (bit high side k : ℕ) → side < 2 → k / 2 ^ bit ≡ 2 * high + side → (bit_of k bit ≡ side) × (k / 2 ^ (bit + 1) ≡ high)
side_above bit high side k small is = (omega (arith, small, is), omega (arith, small, is, half bit k))

-- without what was met behind the turns less is asked
pub asks_less : (key other : ℕ) (turns : List Turn) → GoesByTurns key (Some other) turns → GoesByTurns key None turns
asks_less key other [] goes = tt
asks_less key other (ToZeros at bit ∷ turns) goes = (goes.0, tt, asks_less key other turns goes.2)
asks_less key other (ToOnes at bit zeros ∷ turns) goes = goes

-- a key agrees with itself
pub goes_first : (key : ℕ) (turns : List Turn) → GoesByTurns key None turns → GoesByTurns key (Some key) turns
goes_first key [] goes = tt
goes_first key (ToZeros at bit ∷ turns) goes = (goes.0, refl, goes_first key turns goes.2)
goes_first key (ToOnes at bit zeros ∷ turns) goes = goes

-- the keys of a shape go by the turns, also with the least of them met there
abbrev pub AllGo : List Turn → Shape → Type 0
AllGo turns shape = All (λ k. GoesByTurns k (Some (least_of shape)) turns) (keys_of shape)

-- no record of a shape was met before it
pub record IsApart (turns : List Turn) (shape : Shape) : Type 0 where
  pub leaves : AllPairs (λ x y. x ≢ y) (leaves_met turns ++ leaves_of shape)
  pub forks : AllPairs (λ x y. x ≢ y) (forks_met turns ++ forks_of shape)

pub leaves_split : (turns : List Turn) (zeros ones : Shape) → leaves_met turns ++ (leaves_of zeros ++ leaves_of ones) ≡ (leaves_met turns ++ leaves_of zeros) ++ leaves_of ones
leaves_split turns zeros ones = sym (append_assoc (leaves_met turns) (leaves_of zeros) (leaves_of ones))

pub forks_split : (turns : List Turn) (at : ℕ) (zeros ones : Shape) → forks_met turns ++ at ∷ (forks_of zeros ++ forks_of ones) ≡ (forks_met turns ++ at ∷ forks_of zeros) ++ forks_of ones
forks_split turns at zeros ones = sym (append_assoc (forks_met turns) (at ∷ forks_of zeros) (forks_of ones))

pub forks_first : (turns : List Turn) (at : ℕ) (zeros : Shape) → forks_met turns ++ at ∷ forks_of zeros ≡ (forks_met turns ++ at ∷ []) ++ forks_of zeros
forks_first turns at zeros = sym (append_assoc (forks_met turns) (at ∷ []) (forks_of zeros))

apart_zeros : (turns : List Turn) (at bit : ℕ) (zeros ones : Shape) → IsApart turns (Fork at bit zeros ones) → IsApart (ToZeros at bit ∷ turns) zeros
apart_zeros turns at bit zeros ones apart = record {
  leaves = pairs_front (λ x y. x ≢ y) (leaves_met turns ++ leaves_of zeros) (leaves_of ones) (subst (AllPairs (λ x y. x ≢ y)) (leaves_split turns zeros ones) apart.leaves);
  forks = pairs_front (λ x y. x ≢ y) ((forks_met turns ++ at ∷ []) ++ forks_of zeros) (forks_of ones)
      (subst (AllPairs (λ x y. x ≢ y)) (forks_split turns at zeros ones ∙ ap (λ l. l ++ forks_of ones) (forks_first turns at zeros)) apart.forks);
}

apart_ones : (turns : List Turn) (at bit : ℕ) (zeros ones : Shape) → IsApart turns (Fork at bit zeros ones) → IsApart (ToOnes at bit zeros ∷ turns) ones
apart_ones turns at bit zeros ones apart = record {
  leaves = subst (AllPairs (λ x y. x ≢ y)) (leaves_split turns zeros ones) apart.leaves;
  forks = subst (AllPairs (λ x y. x ≢ y)) (forks_split turns at zeros ones) apart.forks;
}

-- below an inner record of a radix tree
module _ (most at bit : ℕ) (zeros ones : Shape) (radix : IsRadix most (Fork at bit zeros ones)) where
  in_zeros : (k : ℕ) → Contains (keys_of zeros) k → (bit_of k bit ≡ 0) × (k / 2 ^ (bit + 1) ≡ radix.1.0)
  in_zeros k c =
      let high = radix.1.0 in
      let here = All-contains (λ y. y / 2 ^ bit ≡ 2 * high) (keys_of zeros) k radix.1.1 c in
      side_above bit high 0 k (omega arith) (omega (arith, here))

  in_ones : (k : ℕ) → Contains (keys_of ones) k → (bit_of k bit ≡ 1) × (k / 2 ^ (bit + 1) ≡ radix.1.0)
  in_ones k c = side_above bit radix.1.0 1 k (omega arith) (All-contains (λ y. y / 2 ^ bit ≡ 2 * radix.1.0 + 1) (keys_of ones) k radix.1.2 c)

  least_high : least_of zeros / 2 ^ (bit + 1) ≡ radix.1.0
  least_high = (in_zeros (least_of zeros) (least_in zeros)).1

  module _ (turns : List Turn) (goes : AllGo turns (Fork at bit zeros ones)) where
    go_on : (k : ℕ) → Contains (keys_of zeros ++ keys_of ones) k → GoesByTurns k (Some (least_of zeros)) turns
    go_on k c = All-contains (λ y. GoesByTurns y (Some (least_of zeros)) turns) (keys_of zeros ++ keys_of ones) k goes c

    go_zeros : AllGo (ToZeros at bit ∷ turns) zeros
    go_zeros = all_by (λ k. GoesByTurns k (Some (least_of zeros)) (ToZeros at bit ∷ turns)) (keys_of zeros)
        (λ k c. let here = in_zeros k c in (here.0, here.1 ∙ sym least_high, go_on k (Contains-append_left (keys_of zeros) (keys_of ones) k c)))

    go_ones : AllGo (ToOnes at bit zeros ∷ turns) ones
    go_ones = all_by (λ k. GoesByTurns k (Some (least_of ones)) (ToOnes at bit zeros ∷ turns)) (keys_of ones)
        (λ k c. let here = in_ones k c in (here.0, here.1 ∙ sym least_high, go_on k (Contains-append_right (keys_of zeros) (keys_of ones) k c)))

-- no key of a radix tree is there twice
pub keys_differ : (most : ℕ) (shape : Shape) → IsRadix most shape → AllPairs (λ x y. x ≢ y) (keys_of shape)
keys_differ most (Leaf at key) radix = λ i j d less below. absurd (omega (arith, less, below))
keys_differ most (Fork at bit zeros ones) radix =
    pairs_joined (λ x y. x ≢ y) (keys_of zeros) (keys_of ones) (keys_differ bit zeros radix.2) (keys_differ bit ones radix.3)
    (λ x y cx cy same.
    let low = (in_zeros most at bit zeros ones radix x cx).0 in
    let high = (in_ones most at bit zeros ones radix y cy).0 in
    omega (arith, low, high, ap (λ k. bit_of k bit) same))

module _ (tree : Tree) (array keys : List ℕ) where
  -- ---- a sound shape is lawful

  pub sound_keys : (turns : List Turn) (shape : Shape) → IsSoundShape tree array keys turns shape → AllGo turns shape
  sound_keys turns (Leaf at key) sound =
      All-cons (λ k. GoesByTurns k (Some key) turns) key [] (goes_first key turns (subst (λ k. GoesByTurns k None turns) sound.0 sound.1.goes)) (All-nil (λ k. GoesByTurns k (Some key) turns))
  sound_keys turns (Fork at bit zeros ones) sound =
      let P : ℕ → Type 0 = λ k. GoesByTurns k (Some (least_of zeros)) turns in
      All-append P (keys_of zeros) (keys_of ones)
      (All-weaker (λ k. GoesByTurns k (Some (least_of zeros)) (ToZeros at bit ∷ turns)) P (λ k g. g.2) (keys_of zeros) (sound_keys (ToZeros at bit ∷ turns) zeros sound.3))
      (All-weaker (λ k. GoesByTurns k (Some (least_of ones)) (ToOnes at bit zeros ∷ turns)) P (λ k g. g.2) (keys_of ones) (sound_keys (ToOnes at bit zeros ∷ turns) ones sound.5))

  pub sound_radix : (turns : List Turn) (shape : Shape) → IsSoundShape tree array keys turns shape → IsRadix (bit_limit turns) shape
  sound_radix turns (Leaf at key) sound = tt
  sound_radix turns (Fork at bit zeros ones) sound =
      let high = least_of zeros / 2 ^ (bit + 1) in (
        omega (arith, sound.0, sound.1.falls),
        (
          high,
          All-weaker (λ k. GoesByTurns k (Some (least_of zeros)) (ToZeros at bit ∷ turns)) (λ k. k / 2 ^ bit ≡ 2 * high) (λ k g. omega (arith, from_bit bit k, g.0, g.1)) (keys_of zeros) (sound_keys (ToZeros at bit ∷ turns) zeros sound.3),
          All-weaker (λ k. GoesByTurns k (Some (least_of ones)) (ToOnes at bit zeros ∷ turns)) (λ k. k / 2 ^ bit ≡ 2 * high + 1) (λ k g. omega (arith, from_bit bit k, g.0, g.1)) (keys_of ones) (sound_keys (ToOnes at bit zeros ∷ turns) ones sound.5),
        ),
        sound_radix (ToZeros at bit ∷ turns) zeros sound.3,
        sound_radix (ToOnes at bit zeros ∷ turns) ones sound.5,
      )

  pub sound_holds : (turns : List Turn) (shape : Shape) → IsSoundShape tree array keys turns shape → Holds array shape
  sound_holds turns (Leaf at key) sound = sound.0
  sound_holds turns (Fork at bit zeros ones) sound = (sound.0, sound.2, sound.4, sound_holds (ToZeros at bit ∷ turns) zeros sound.3, sound_holds (ToOnes at bit zeros ∷ turns) ones sound.5)

  pub sound_known : (turns : List Turn) (shape : Shape) → IsSoundShape tree array keys turns shape → All (Contains keys) (keys_of shape)
  sound_known turns (Leaf at key) sound = All-cons (Contains keys) key [] (subst (Contains keys) sound.0 sound.1.known) (All-nil (Contains keys))
  sound_known turns (Fork at bit zeros ones) sound =
      All-append (Contains keys) (keys_of zeros) (keys_of ones) (sound_known (ToZeros at bit ∷ turns) zeros sound.3) (sound_known (ToOnes at bit zeros ∷ turns) ones sound.5)

  pub sound_leaves : (turns : List Turn) (shape : Shape) → IsSoundShape tree array keys turns shape → All (IsRecord tree.leaves) (leaves_of shape)
  sound_leaves turns (Leaf at key) sound = All-cons (IsRecord tree.leaves) at [] sound.1.new.place (All-nil (IsRecord tree.leaves))
  sound_leaves turns (Fork at bit zeros ones) sound =
      All-append (IsRecord tree.leaves) (leaves_of zeros) (leaves_of ones) (sound_leaves (ToZeros at bit ∷ turns) zeros sound.3) (sound_leaves (ToOnes at bit zeros ∷ turns) ones sound.5)

  pub sound_forks : (turns : List Turn) (shape : Shape) → IsSoundShape tree array keys turns shape → All (IsRecord tree.inner) (forks_of shape)
  sound_forks turns (Leaf at key) sound = All-nil (IsRecord tree.inner)
  sound_forks turns (Fork at bit zeros ones) sound =
      All-cons (IsRecord tree.inner) at (forks_of zeros ++ forks_of ones) sound.1.new.place
      (All-append (IsRecord tree.inner) (forks_of zeros) (forks_of ones) (sound_forks (ToZeros at bit ∷ turns) zeros sound.3) (sound_forks (ToOnes at bit zeros ∷ turns) ones sound.5))

  -- a new record more
  new_more : (met : List ℕ) (at : ℕ) → ¬ Contains met at → AllPairs (λ x y. x ≢ y) met → AllPairs (λ x y. x ≢ y) (met ++ at ∷ [])
  new_more met at unmet apart = all_pairs_push (λ x y. x ≢ y) met at apart (λ k d below same. unmet (k, below, get_or_default met k at d below ∙ same))

  pub sound_apart : (turns : List Turn) (shape : Shape) → IsSoundShape tree array keys turns shape → AllPairs (λ x y. x ≢ y) (leaves_met turns) → AllPairs (λ x y. x ≢ y) (forks_met turns) → IsApart turns shape
  sound_apart turns (Leaf at key) sound leaves forks = record {
    leaves = new_more (leaves_met turns) at sound.1.new.unmet leaves;
    forks = subst (AllPairs (λ x y. x ≢ y)) (sym (append-nil (forks_met turns))) forks;
  }
  sound_apart turns (Fork at bit zeros ones) sound leaves forks =
      let left = sound_apart (ToZeros at bit ∷ turns) zeros sound.3 leaves (new_more (forks_met turns) at sound.1.new.unmet forks) in
      let right = sound_apart (ToOnes at bit zeros ∷ turns) ones sound.5 left.leaves (subst (AllPairs (λ x y. x ≢ y)) (sym (forks_first turns at zeros)) left.forks) in
      record {
        leaves = subst (AllPairs (λ x y. x ≢ y)) (sym (leaves_split turns zeros ones)) right.leaves;
        forks = subst (AllPairs (λ x y. x ≢ y)) (sym (forks_split turns at zeros ones)) right.forks;
      }

  -- ---- and the other way round

  unmet_leaf : (turns : List Turn) (at key : ℕ) → IsApart turns (Leaf at key) → ¬ Contains (leaves_met turns) at
  unmet_leaf turns at key apart c = pairs_across (λ x y. x ≢ y) (leaves_met turns) (at ∷ []) at at apart.leaves c (first_among at []) refl

  unmet_fork : (turns : List Turn) (at bit : ℕ) (zeros ones : Shape) → IsApart turns (Fork at bit zeros ones) → ¬ Contains (forks_met turns) at
  unmet_fork turns at bit zeros ones apart c =
      let forks = forks_of zeros ++ forks_of ones in pairs_across (λ x y. x ≢ y) (forks_met turns) (at ∷ forks) at at apart.forks c (first_among at forks) refl

  pub lawful_sound : (turns : List Turn) (shape : Shape) → Holds array shape → IsRadix (bit_limit turns) shape → HasRecords tree shape → IsApart turns shape → ((k : ℕ) → Contains (keys_of shape) k → Contains keys k) → AllGo turns shape
      → IsSoundShape tree array keys turns shape
  lawful_sound turns (Leaf at key) holds radix place apart known goes = (
    holds,
    record {
      new = record { place = place; unmet = unmet_leaf turns at key apart };
      known = subst (Contains keys) (sym holds) (known key (first_among key []));
      goes = subst (λ k. GoesByTurns k None turns) (sym holds) (asks_less key key turns (All-contains (λ k. GoesByTurns k (Some key) turns) (key ∷ []) key goes (first_among key [])));
    },
  )
  lawful_sound turns (Fork at bit zeros ones) holds radix place apart known goes = (
    holds.0,
    record { new = record { place = place.0; unmet = unmet_fork turns at bit zeros ones apart }; falls = omega (arith, holds.0, radix.0) },
    holds.1,
    lawful_sound (ToZeros at bit ∷ turns) zeros holds.3 radix.2 place.1 (apart_zeros turns at bit zeros ones apart) (λ k c. known k (Contains-append_left (keys_of zeros) (keys_of ones) k c)) (go_zeros (bit_limit turns) at bit zeros ones radix turns goes),
    holds.2,
    lawful_sound (ToOnes at bit zeros ∷ turns) ones holds.4 radix.3 place.2 (apart_ones turns at bit zeros ones apart) (λ k c. known k (Contains-append_right (keys_of zeros) (keys_of ones) k c)) (go_ones (bit_limit turns) at bit zeros ones radix turns goes),
  )

  -- ---- whole trees

  no_pairs : AllPairs (λ (x : ℕ) (y : ℕ). x ≢ y) []
  no_pairs i j d less below = absurd (omega (arith, below))

  module _ {n : ℕ} (fits : FitsTree tree n) where
    -- a tree in which nothing is wrong is lawful
    pub whole_lawful : (shape : Option Shape) → (whole : IsWholeTree tree array keys shape) → IsTree tree array shape whole.leaves.free whole.inner.free
    whole_lawful None whole = record {
      leaves = whole_pool_lawful tree.leaves array (omega (arith, fits.leaf_size)) [] whole.leaves.free (λ x c. absurd (omega (arith, c.1))) whole.leaves.whole;
      inner = whole_pool_lawful tree.inner array (omega (arith, fits.inner_size)) [] whole.inner.free (λ x c. absurd (omega (arith, c.1))) whole.inner.whole;
      rooted = whole.walked.0;
    }
    whole_lawful (Some shape) whole = record {
      leaves = whole_pool_lawful tree.leaves array (omega (arith, fits.leaf_size)) (leaves_of shape) whole.leaves.free (λ x c. All-contains (IsRecord tree.leaves) (leaves_of shape) x (sound_leaves [] shape whole.walked.1) c) whole.leaves.whole;
      inner = whole_pool_lawful tree.inner array (omega (arith, fits.inner_size)) (forks_of shape) whole.inner.free (λ x c. All-contains (IsRecord tree.inner) (forks_of shape) x (sound_forks [] shape whole.walked.1) c) whole.inner.whole;
      rooted = (whole.walked.0, sound_holds [] shape whole.walked.1, sound_radix [] shape whole.walked.1);
    }

    -- in a lawful tree nothing is wrong
    lawful_walked : (shape : Option Shape) (free_leaves free_inner : List ℕ) → IsTree tree array shape free_leaves free_inner → ((k : ℕ) → Contains (keys_in shape) k → Contains keys k) → (shape ≡ None → keys ≡ []) → HasWalkedAll tree array keys shape
    lawful_walked None free_leaves free_inner lawful known none = (lawful.rooted, none refl)
    lawful_walked (Some shape) free_leaves free_inner lawful known none =
        let there = tree_in shape lawful in
        let leaves = lawful_pool_whole tree.leaves array (omega (arith, fits.leaf_size)) (leaves_of shape) free_leaves lawful.leaves in
        let inner = lawful_pool_whole tree.inner array (omega (arith, fits.inner_size)) (forks_of shape) free_inner lawful.inner in (
          there.link,
          lawful_sound [] shape there.held.words there.radix there.held.records
              (record { leaves = pairs_front (λ x y. x ≢ y) (leaves_of shape) free_leaves leaves.met.list.met.differ; forks = pairs_front (λ x y. x ≢ y) (forks_of shape) free_inner inner.met.list.met.differ })
              known
              (all_by (λ k. GoesByTurns k (Some (least_of shape)) []) (keys_of shape) (λ k c. tt)),
        )

    pub lawful_whole_tree : (shape : Option Shape) (free_leaves free_inner : List ℕ) → IsTree tree array shape free_leaves free_inner → ((k : ℕ) → Contains (keys_in shape) k → Contains keys k) → (shape ≡ None → keys ≡ []) → IsWholeTree tree array keys shape
    lawful_whole_tree shape free_leaves free_inner lawful known none = record {
      walked = lawful_walked shape free_leaves free_inner lawful known none;
      leaves = record { free = free_leaves; whole = lawful_pool_whole tree.leaves array (omega (arith, fits.leaf_size)) (leaves_in shape) free_leaves lawful.leaves };
      inner = record { free = free_inner; whole = lawful_pool_whole tree.inner array (omega (arith, fits.inner_size)) (forks_in shape) free_inner lawful.inner };
    }

  -- the keys are among these, and none is there twice
  pub whole_known : (shape : Option Shape) → HasWalkedAll tree array keys shape → (k : ℕ) → Contains (keys_in shape) k → Contains keys k
  whole_known None walked k c = absurd (omega (arith, c.1))
  whole_known (Some shape) walked k c = All-contains (Contains keys) (keys_of shape) k (sound_known [] shape walked.1) c

  pub whole_differ : (shape : Option Shape) → HasWalkedAll tree array keys shape → AllPairs (λ x y. x ≢ y) (keys_in shape)
  whole_differ None walked = no_pairs
  whole_differ (Some shape) walked = keys_differ 64 shape (sound_radix [] shape walked.1)
