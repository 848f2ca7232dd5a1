-- The replay of an image is the only one.
use Rattle.std.proofs.Common.{◌≡◌, ◌≢◌, ◌⊎◌, inl, inr, ℕ, ◌+◌, ◌<◌, List, [], ◌∷◌, refl, sym, ap, ◌∙◌, subst, arith, All}
use Rattle.std.proofs.lemmas.Bool.{cases_order}
use Rattle.std.proofs.lemmas.List.Elements.{All-head, All-tail}
use Rattle.dude_base.specs.declared.sizes.Sizes.{Sizes}
use Rattle.dude_base.specs.Image.{Cell}
use Rattle.dude_base.specs.Records.{RedoBundle, first_of, Covers}
use Rattle.redo_record.specs.Cells.{line_of}
use Rattle.redo_record.specs.Images.{sizes_of, mark_of, home_of, bundle_at, IsNewHead}
use Rattle.redo_record.specs.Damage.{IsTorn, IsDuplicateHead, IsLeastLine, IsUndamaged, IsDamagedAt}
use Rattle.redo_record.specs.Recovery.{Recovers, HasRecord, AreConsecutive, overwritten_by_all, IsDamaged, Unformatted, Damaged, Recovered, LawOfReplay}

-- a bundle covers its first number
pub covers_first : (b : RedoBundle) → Covers b (first_of b)
covers_first b = record { low = omega arith; high = omega arith }

-- there is one least line
least_same : (s : Sizes) (Is : Cell → Type 0) (k l : ℕ) → IsLeastLine s Is k → IsLeastLine s Is l → k ≡ l
least_same s Is k l a b = by (cases_order k l)
  where
    by : (k ≡ l) ⊎ ((k < l) ⊎ (l < k)) → k ≡ l
    by (inl same) = same
    by (inr (inl lt)) = absurd (b.3 a.0 (subst (λ (x : ℕ). x < l) (sym a.2) lt) a.1)
    by (inr (inr gt)) = absurd (a.3 b.0 (subst (λ (x : ℕ). x < k) (sym b.2) gt) b.1)

damage_same : (s : Sizes) (above : ℕ) (image : List ℕ) (k l : ℕ) → IsDamagedAt s above image k → IsDamagedAt s above image l → k ≡ l
damage_same s above image k l (inl a) (inl b) = least_same s (IsTorn s above image) k l a b
damage_same s above image k l (inl a) (inr b) = absurd (b.0 a.0 a.1)
damage_same s above image k l (inr a) (inl b) = absurd (a.0 b.0 b.1)
damage_same s above image k l (inr a) (inr b) = least_same s (IsDuplicateHead s above image) k l a.1 b.1

lines_same : (image : List ℕ) (k l : ℕ) → IsDamaged image k → IsDamaged image l → k ≡ l
lines_same image k l (inl a) (inl b) = a.1 ∙ sym b.1
lines_same image k l (inl a) (inr b) = absurd (let over = a.0 in let small = b.0 in omega arith)
lines_same image k l (inr a) (inl b) = absurd (let over = b.0 in let small = a.0 in omega arith)
lines_same image k l (inr a) (inr b) = damage_same (sizes_of image) (mark_of image) image k l a.1 b.1

-- an undamaged log isn't damaged
undamaged_not : (s : Sizes) (above : ℕ) (image : List ℕ) (line : ℕ) → IsUndamaged s above image → IsDamagedAt s above image line → ⊥
undamaged_not s above image line fine (inl torn) = torn.1.incomplete (fine.complete torn.0 torn.1.head)
undamaged_not s above image line fine (inr second) =
    let it = second.1.1 in
    let same : line_of s it.other ≡ line_of s second.1.0 = ap (line_of s) (fine.single it.other second.1.0 it.number it.other_head it.head it.too it.covered) in
    let lower = it.lower in
    omega arith

recovers_not : (image : List ℕ) (number : ℕ) (array : List ℕ) (line : ℕ) → Recovers image number array → IsDamaged image line → ⊥
recovers_not image number array line recovers (inl a) = let over = a.0 in let small = recovers.small in omega arith
recovers_not image number array line recovers (inr a) = undamaged_not (sizes_of image) (mark_of image) image line recovers.undamaged a.1

-- one first number has one record
record_is : {s : Sizes} {above : ℕ} {image : List ℕ} {a b : RedoBundle} → IsUndamaged s above image → HasRecord s above image a → HasRecord s above image b → first_of a ≡ first_of b → a ≡ b
record_is {s} {above} {image} {a} {b} fine one other same =
    let covers : Covers (bundle_at s image one.head) (first_of a) = subst (λ (x : RedoBundle). Covers x (first_of a)) (sym one.same) (covers_first a) in
    let too : Covers (bundle_at s image other.head) (first_of a) = subst (λ (x : RedoBundle). Covers x (first_of a)) (sym other.same) (subst (Covers b) (sym same) (covers_first b)) in
    let head : one.head ≡ other.head = fine.single one.head other.head (first_of a) one.new other.new covers too in
    sym one.same ∙ (ap (λ (c : Cell). bundle_at s image c) head ∙ other.same)

module _ (s : Sizes) (above : ℕ) (image : List ℕ) (fine : IsUndamaged s above image) where
  -- none of these records begins behind the last number of the others
  abbrev IsLast : ℕ → Type 0
  IsLast n = (head : Cell) → IsNewHead s above image head → first_of (bundle_at s image head) ≢ n + 1

  no_next : (n : ℕ) {r : RedoBundle} → IsLast n → HasRecord s above image r → first_of r ≡ n + 1 → ⊥
  no_next n last has is = last has.head has.new (ap first_of has.same ∙ is)

  -- lists of records that lead from one number as far as there are records
  lists_same : (from n m : ℕ) (rs ts : List RedoBundle) → IsLast n → IsLast m → All (HasRecord s above image) rs → All (HasRecord s above image) ts
      → AreConsecutive from rs n → AreConsecutive from ts m → (n ≡ m) × (rs ≡ ts)
  lists_same from n m [] [] last_n last_m all_a all_b a b = (sym a ∙ b, refl)
  lists_same from n m [] (y ∷ ys) last_n last_m all_a all_b a b = absurd (no_next n last_n (All-head (HasRecord s above image) y ys all_b) (b.0 ∙ ap (λ k. k + 1) a))
  lists_same from n m (x ∷ xs) [] last_n last_m all_a all_b a b = absurd (no_next m last_m (All-head (HasRecord s above image) x xs all_a) (a.0 ∙ ap (λ k. k + 1) b))
  lists_same from n m (x ∷ xs) (y ∷ ys) last_n last_m all_a all_b a b =
      let same : x ≡ y = record_is fine (All-head (HasRecord s above image) x xs all_a) (All-head (HasRecord s above image) y ys all_b) (a.0 ∙ sym b.0) in
      let rest = lists_same x.last n m xs ys last_n last_m (All-tail (HasRecord s above image) x xs all_a) (All-tail (HasRecord s above image) y ys all_b) a.1
      (subst (λ (r : RedoBundle). AreConsecutive r.last ys m) (sym same) b.1) in
      let tails = rest.1 in
      (rest.0, cc)

module _ (image : List ℕ) (n m : ℕ) (a b : List ℕ) (one : Recovers image n a) (other : Recovers image m b) where
  both_same : (n ≡ m) × (one.records ≡ other.records)
  both_same = lists_same (sizes_of image) (mark_of image) image one.undamaged (mark_of image) n m one.records other.records one.greatest other.greatest one.logged other.logged one.consecutive other.consecutive

  numbers_same : n ≡ m
  numbers_same = both_same.0

  arrays_same : a ≡ b
  arrays_same = one.result ∙ (ap (λ (l : List RedoBundle). overwritten_by_all l (home_of (sizes_of image) image)) both_same.1 ∙ sym other.result)

  recovered_same : Recovered n a ≡ Recovered m b
  recovered_same = ap (λ (x : ℕ). Recovered x a) numbers_same ∙ ap (λ (l : List ℕ). Recovered m l) arrays_same

pub replay_law : LawOfReplay
replay_law image Unformatted Unformatted a b = refl
replay_law image Unformatted (Damaged l) a b = absurd (a b.0)
replay_law image Unformatted (Recovered m y) a b = absurd (a b.formatted)
replay_law image (Damaged k) Unformatted a b = absurd (b a.0)
replay_law image (Damaged k) (Damaged l) a b = ap (λ (x : ℕ). Damaged x) (lines_same image k l a.1 b.1)
replay_law image (Damaged k) (Recovered m y) a b = absurd (recovers_not image m y k b a.1)
replay_law image (Recovered n x) Unformatted a b = absurd (b a.formatted)
replay_law image (Recovered n x) (Damaged l) a b = absurd (recovers_not image n x l a b.1)
replay_law image (Recovered n x) (Recovered m y) a b = recovered_same image n m x y a b
