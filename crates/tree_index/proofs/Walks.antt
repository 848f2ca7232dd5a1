-- Steps of walks over an array that holds a tree.
use Rattle.std.proofs.Common.{◌≡◌, ℕ, zero, suc, ◌+◌, ◌-◌, ◌<◌, ◌≤◌, ◌⊎◌, inl, inr, List, [], ◌∷◌, Option, Some, None, IfSome, slice_index, refl, sym, ap, ◌∙◌, subst, arith}
use Rattle.record_heap.specs.Pool.{IsRecord}
use Rattle.tree_index.specs.declared.tree.Tree.{Tree}
use Rattle.tree_index.specs.declared.tree.PassedRecord.{PassedRecord}
use Rattle.tree_index.specs.declared.tree.Trail.{Trail}
use Rattle.tree_index.specs.declared.tree.TreePosition.{TreePosition}
use Rattle.tree_index.specs.Shape.{Shape, Leaf, Fork, IsRadix, bit_of, least_of, link_of}
use Rattle.tree_index.specs.Tree.{FitsTree}
use Rattle.tree_index.specs.Path.{Frame, OnZeros, OnOnes, plug, GoesBy, slot_of, over_of, turn_of}
use Rattle.tree_index.specs.Walk.{EndsBelow, FitsPosition, FitsTrail, IsHeld, IsIn, IsStep, IsUnder, Passes, Reaches, GoesToZeros, Trails, turn_by, start_at, step_by}
use Rattle.tree_index.proofs.Shapes.{radix_more, bit_small}

-- a leaf is no inner record
pub leaf_apart : {tree : Tree} {n : ℕ} → FitsTree tree n → (at : ℕ) → IsRecord tree.leaves at → IsRecord tree.inner at → ⊥
leaf_apart fits at leaf inner = omega (arith, (fits.records at inner).records at leaf, fits.leaf_size, fits.inner_size)

-- ---- down to the least

-- After n steps to the zeros a walk stands here, and the least key is that of the whole.
pub record Lowest (tree : Tree) (words : List ℕ) (whole : Shape) (n at : ℕ) : Type 0 where
  pub shape : Shape
  pub least : least_of whole ≡ least_of shape
  pub held : IsHeld tree words shape
  pub here : at ≡ link_of shape
  pub radix : IsRadix (64 - n) shape

pub lowest_none : (tree : Tree) (words : List ℕ) (shape : Shape) (at : ℕ) → IsHeld tree words shape → IsRadix 64 shape → at ≡ link_of shape → Lowest tree words shape 0 at
lowest_none tree words shape at held radix here = record { shape = shape; least = refl; held = held; here = here; radix = radix }

lowest_step : {tree : Tree} {count : ℕ} → FitsTree tree count → (words : List ℕ) (whole : Shape) (n at next : ℕ) → GoesToZeros tree at words next → (shape : Shape) → least_of whole ≡ least_of shape → IsHeld tree words shape → at ≡ link_of shape → IsRadix (64 - n) shape → Lowest tree words whole (n + 1) next
lowest_step {tree} fits words whole n at next down (Leaf place key) least held here radix = record {
  shape = Leaf place key;
  least = least;
  held = held;
  here = down.other (λ inner. leaf_apart fits place held.records (subst (IsRecord tree.inner) here inner)) ∙ here;
  radix = tt;
}
lowest_step {tree} fits words whole n at next down (Fork place bit zeros ones) least held here radix = record {
  shape = zeros;
  least = least;
  held = record { records = held.records.1; words = held.words.3 };
  here = down.inner (subst (IsRecord tree.inner) (sym here) held.records.0) ∙ ap (λ x. slice_index words (x + 2)) here ∙ held.words.1;
  radix = radix_more bit (64 - (n + 1)) zeros (omega (arith, radix.0)) radix.2;
}

pub lowest_more : {tree : Tree} {count : ℕ} → FitsTree tree count → (words : List ℕ) (whole : Shape) (n at next : ℕ) → GoesToZeros tree at words next → Lowest tree words whole n at → Lowest tree words whole (n + 1) next
lowest_more fits words whole n at next down low = lowest_step fits words whole n at next down low.shape low.least low.held low.here low.radix

lowest_leaf : (tree : Tree) (words : List ℕ) (least : ℕ) (at : ℕ) (shape : Shape) → least ≡ least_of shape → IsHeld tree words shape → at ≡ link_of shape → IsRadix 0 shape → IsRecord tree.leaves at × (least ≡ slice_index words at)
lowest_leaf tree words least at (Leaf place key) same held here radix = (subst (IsRecord tree.leaves) (sym here) held.records, same ∙ sym held.words ∙ ap (λ x. slice_index words x) (sym here))
lowest_leaf tree words least at (Fork place bit zeros ones) same held here radix = absurd (omega (arith, radix.0))

-- after 64 it is the leaf
pub lowest_end : {tree : Tree} {words : List ℕ} {whole : Shape} {n at : ℕ} → 64 ≤ n → Lowest tree words whole n at → IsRecord tree.leaves at × (least_of whole ≡ slice_index words at)
lowest_end {tree} {words} {whole} {n} {at} all low = lowest_leaf tree words (least_of whole) at low.shape low.least low.held low.here (radix_more (64 - n) 0 low.shape (omega (arith, all)) low.radix)

-- ---- down by the bits of a key

-- After n steps a walk for the key stands at this position.
pub record Stands (tree : Tree) (key floor : ℕ) (words : List ℕ) (whole : Shape) (n : ℕ) (position : TreePosition) : Type 0 where
  pub passes : Passes tree key floor words whole position
  pub radix : IsRadix (64 - n) passes.part

stands_none : (tree : Tree) (key floor link : ℕ) (words : List ℕ) (whole : Shape) → IsIn tree words whole → link ≡ slice_index words tree.root → Stands tree key floor words whole 0 (start_at tree link)
stands_none tree key floor link words whole there read = record {
  passes = record { path = []; part = whole; is = refl; at = ap (λ l. start_at tree l) (read ∙ there.link); steps = tt; held = there.held };
  radix = there.radix;
}

abbrev passed : ℕ → ℕ → ℕ → ℕ → Option PassedRecord
passed at slot bit side = Some (record { at = at; slot = slot; bit = bit; side = side })

abbrev placed : ℕ → Option PassedRecord → Option ℕ → ℕ → TreePosition
placed slot over turn link = record { slot = slot; link = link; over = over; turn = turn }

pub bit_cases : (n : ℕ) → n < 2 → (n ≡ 0) ⊎ (n ≡ 1)
bit_cases zero small = inl refl
bit_cases (suc zero) small = inr refl
bit_cases (suc (suc n)) small = absurd (omega (arith, small))

stands_by : {tree : Tree} {key floor n : ℕ} {words : List ℕ} {whole : Shape} {position : TreePosition} (path : List Frame) (part : Shape) → whole ≡ plug path part → position ≡ record { slot = slot_of tree.root path; link = link_of part; over = over_of tree.root path; turn = turn_of path } → GoesBy key floor path → IsHeld tree words part → IsRadix (64 - n) part → Stands tree key floor words whole n position
stands_by path part is at steps held radix = record { passes = record { path = path; part = part; is = is; at = at; steps = steps; held = held }; radix = radix }

stands_step : {tree : Tree} {count : ℕ} → FitsTree tree count → (key floor : ℕ) (words : List ℕ) (whole : Shape) (n : ℕ) (position next : TreePosition) → IsStep tree key floor position words (Some next) → (path : List Frame) (shape : Shape) → whole ≡ plug path shape → position ≡ record { slot = slot_of tree.root path; link = link_of shape; over = over_of tree.root path; turn = turn_of path } → GoesBy key floor path → IsHeld tree words shape → IsRadix (64 - n) shape → Stands tree key floor words whole (n + 1) next
stands_step {tree} fits key floor words whole n position next step path (Leaf at k) is here goes held radix = absurd (leaf_apart fits at held.records (subst (IsRecord tree.inner) (ap (λ (p : TreePosition). p.link) here) step.0))
stands_step {tree} fits key floor words whole n position next step path (Fork at bit zeros ones) is here goes held radix =
    let link : position.link ≡ at = ap (λ (p : TreePosition). p.link) here in
    let read : slice_index words position.link ≡ bit = ap (λ x. slice_index words x) link ∙ held.words.0 in
    let above = slot_of tree.root path in
    let led : (side slot below : ℕ) → bit_of key bit ≡ side → at + 2 + side ≡ slot → slice_index words slot ≡ below → next ≡ placed slot (passed at above bit side) (turn_by side at (turn_of path)) below = λ side slot below by sum linked.
    step.2 ∙ ap (λ b. step_by words position (bit_of key b)) read ∙ ap (λ p. step_by words p (bit_of key bit)) here
    ∙ ap (λ s. step_by words (placed above (over_of tree.root path) (turn_of path) at) s) by
    ∙ ap (λ b. placed (at + 2 + side) (passed at above b side) (turn_by side at (turn_of path)) (slice_index words (at + 2 + side))) held.words.0
    ∙ ap (λ x. placed x (passed at above bit side) (turn_by side at (turn_of path)) (slice_index words x)) sum
    ∙ ap (λ l. placed slot (passed at above bit side) (turn_by side at (turn_of path)) l) linked in
    let high : floor ≤ bit = omega (arith, step.1, read) in
    elim (bit_cases (bit_of key bit) (bit_small key bit)) [
      | inl none ↦ stands_by (OnZeros at bit ones ∷ path) zeros is (led 0 (at + 2) (link_of zeros) none (omega arith) held.words.1) (high, none, goes)
          (record { records = held.records.1; words = held.words.3 }) (radix_more bit (64 - (n + 1)) zeros (omega (arith, radix.0)) radix.2)
      | inr one ↦ stands_by (OnOnes at bit zeros ∷ path) ones is (led 1 (at + 3) (link_of ones) one (omega arith) held.words.2) (high, one, goes)
          (record { records = held.records.2; words = held.words.4 }) (radix_more bit (64 - (n + 1)) ones (omega (arith, radix.0)) radix.3)
    ]

stands_more : {tree : Tree} {count : ℕ} → FitsTree tree count → (key floor : ℕ) (words : List ℕ) (whole : Shape) (n : ℕ) (position next : TreePosition) → IsStep tree key floor position words (Some next) → Stands tree key floor words whole n position → Stands tree key floor words whole (n + 1) next
stands_more fits key floor words whole n position next step s = stands_step fits key floor words whole n position next step s.passes.path s.passes.part s.passes.is s.passes.at s.passes.steps s.passes.held s.radix

ends_step : (tree : Tree) (key floor : ℕ) (words : List ℕ) (position : TreePosition) → IsStep tree key floor position words None → (shape : Shape) → position.link ≡ link_of shape → IsHeld tree words shape → EndsBelow floor shape
ends_step tree key floor words position none (Leaf at k) link held = tt
ends_step tree key floor words position none (Fork at bit zeros ones) link held =
    omega (arith, none (subst (IsRecord tree.inner) (sym link) held.records.0), ap (λ x. slice_index words x) link, held.words.0)

-- ---- the positions on the way

-- After n steps a walk for the key stands at the last position of this trail, and passed the two others.
pub record Trailing (tree : Tree) (key floor : ℕ) (words : List ℕ) (whole : Shape) (n : ℕ) (trail : Trail) : Type 0 where
  pub last : Stands tree key floor words whole n trail.last
  pub second : Passes tree key floor words whole trail.second
  pub third : Passes tree key floor words whole trail.third
  pub last_under : IsUnder words trail.second trail.last
  pub second_under : IsUnder words trail.third trail.second

abbrev trail_of : TreePosition → TreePosition → TreePosition → Trail
trail_of last second third = record { last = last; second = second; third = third }

pub trailing_none : (tree : Tree) (key floor link : ℕ) (words : List ℕ) (whole : Shape) → IsIn tree words whole → link ≡ slice_index words tree.root → Trailing tree key floor words whole 0 (trail_of (start_at tree link) (start_at tree link) (start_at tree link))
trailing_none tree key floor link words whole there read =
    let stands = stands_none tree key floor link words whole there read in
    record { last = stands; second = stands.passes; third = stands.passes; last_under = tt; second_under = tt }

-- the words named where a walk begins
pub start_fits : (tree : Tree) (n link : ℕ) → tree.root < n → FitsTrail tree n (trail_of (start_at tree link) (start_at tree link) (start_at tree link))
start_fits tree n link low =
    let start : FitsPosition tree n (start_at tree link) = record { slot = low; turn = tt; over = tt } in
    record { last = start; second = start; third = start }

next_under : (tree : Tree) (key floor : ℕ) (words : List ℕ) (position next : TreePosition) → IsStep tree key floor position words (Some next) → IsUnder words position next
next_under tree key floor words position next step =
    subst (λ (p : TreePosition). IsUnder words position p) (sym step.2) (refl, refl)

pub trailing_more : {tree : Tree} {count : ℕ} → FitsTree tree count → (key floor : ℕ) (words : List ℕ) (whole : Shape) (n : ℕ) (trail : Trail) (next : TreePosition) → IsStep tree key floor trail.last words (Some next) → Trailing tree key floor words whole n trail → Trailing tree key floor words whole (n + 1) (trail_of next trail.last trail.second)
trailing_more {tree} fits key floor words whole n trail next step t = record {
  last = stands_more fits key floor words whole n trail.last next step t.last;
  second = t.last.passes;
  third = t.second;
  last_under = next_under tree key floor words trail.last next step;
  second_under = t.last_under;
}

-- where there is no further step
stands_end : {tree : Tree} {key floor n : ℕ} {words : List ℕ} {whole : Shape} {position : TreePosition} → IsStep tree key floor position words None → Stands tree key floor words whole n position → Reaches tree key floor words whole position
stands_end {tree} {key} {floor} {n} {words} {whole} {position} none s = record { passes = s.passes; ends = ends_step tree key floor words position none s.passes.part (ap (λ (p : TreePosition). p.link) s.passes.at) s.passes.held }

pub trailing_end : {tree : Tree} {key floor n : ℕ} {words : List ℕ} {whole : Shape} {trail : Trail} → IsStep tree key floor trail.last words None → Trailing tree key floor words whole n trail → Trails tree key floor words whole trail
trailing_end none t = record { last = stands_end none t.last; second = t.second; third = t.third; last_under = t.last_under; second_under = t.second_under }

ends_out : (floor : ℕ) (shape : Shape) → IsRadix 0 shape → EndsBelow floor shape
ends_out floor (Leaf at k) radix = tt
ends_out floor (Fork at bit zeros ones) radix = absurd (omega (arith, radix.0))

-- or after 64 steps
stands_out : {tree : Tree} {key floor n : ℕ} {words : List ℕ} {whole : Shape} {position : TreePosition} → 64 ≤ n → Stands tree key floor words whole n position → Reaches tree key floor words whole position
stands_out {tree} {key} {floor} {n} {words} {whole} {position} all s = record { passes = s.passes; ends = ends_out floor s.passes.part (radix_more (64 - n) 0 s.passes.part (omega (arith, all)) s.radix) }

pub trailing_out : {tree : Tree} {key floor n : ℕ} {words : List ℕ} {whole : Shape} {trail : Trail} → 64 ≤ n → Trailing tree key floor words whole n trail → Trails tree key floor words whole trail
trailing_out all t = record { last = stands_out all t.last; second = t.second; third = t.third; last_under = t.last_under; second_under = t.second_under }

-- a step that was made is one by the bit that was read
pub steps_on : (tree : Tree) (words : List ℕ) (key floor : ℕ) (position : TreePosition) (bit side link : ℕ) (turn : Option ℕ) → IsRecord tree.inner position.link → bit ≡ slice_index words position.link → floor ≤ bit → side ≡ bit_of key bit → link ≡ slice_index words (position.link + 2 + side) → turn ≡ turn_by side position.link position.turn
    → IsStep tree key floor position words (Some (placed (position.link + 2 + side) (passed position.link position.slot bit side) turn link))
steps_on tree words key floor position bit side link turn there read high by linked turned =
    let over = passed position.link position.slot bit side in
    let slot = position.link + 2 + side in (
      there,
      omega (arith, high, read),
      ap (λ l. placed slot over turn l) linked ∙ ap (λ t. placed slot over t (slice_index words slot)) turned
          ∙ ap (λ b. placed slot (passed position.link position.slot b side) (turn_by side position.link position.turn) (slice_index words slot)) read ∙ ap (λ s. step_by words position s) (by ∙ ap (λ b. bit_of key b) read),
    )

turn_fits : {n : ℕ} (side at : ℕ) (before : Option ℕ) → at + 3 < n → IfSome before (λ word. word < n) → IfSome (turn_by side at before) (λ word. word < n)
turn_fits zero at before low fits = low
turn_fits (suc side) at before low fits = fits

-- the words that it names lie below n again
pub step_fits : {tree : Tree} {n : ℕ} → FitsTree tree n → (key : ℕ) (position : TreePosition) (bit side link : ℕ) (turn : Option ℕ) → FitsPosition tree n position → IsRecord tree.inner position.link → side ≡ bit_of key bit → turn ≡ turn_by side position.link position.turn
    → FitsPosition tree n (placed (position.link + 2 + side) (passed position.link position.slot bit side) turn link)
step_fits {tree} {n} fits key position bit side link turn inside there by turned =
    let ends = fits.inner.inside position.link there in
    let small : side < 2 = omega (arith, by, bit_small key bit) in
    record {
      slot = omega (arith, ends, fits.inner_size, small);
      turn = subst (λ t. IfSome t (λ word. word < n)) (sym turned) (turn_fits side position.link position.turn (omega (arith, ends, fits.inner_size)) inside.turn);
      over = (there, inside.slot, small);
    }

-- an empty tree has no step
pub empty_step : {tree : Tree} {count : ℕ} → FitsTree tree count → (key floor : ℕ) (words : List ℕ) (position next : TreePosition) → IsStep tree key floor position words (Some next) → position ≡ start_at tree 0 → ⊥
empty_step {tree} fits key floor words position next step here = omega (arith, fits.inner.not_at_zero 0 (subst (IsRecord tree.inner) (ap (λ (p : TreePosition). p.link) here) step.0))
