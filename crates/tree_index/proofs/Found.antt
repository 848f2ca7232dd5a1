-- What the walks of `next` found, in a lawful tree.
use Rattle.std.proofs.Common.{◌≡◌, ◌≢◌, ℕ, ◌+◌, ◌/◌, ◌^◌, ◌<◌, ◌≤◌, IfSome, inl, inr, List, [], ◌∷◌, ◌++◌, length, Contains, Option, Some, None, unwrap_or, slice_index, refl, sym, ap, ◌∙◌, subst, arith}
use Rattle.std.proofs.lemmas.Bool.{cases_order}
use Rattle.std.proofs.lemmas.List.Elements.{All-contains, All-from_recursion, All-nil, Contains-append_left, Contains-append_right}
use Rattle.word_space.specs.Sights.{WordsSight, IsBelow, shown}
use Rattle.word_space.specs.Steps.{WordsUsed}
use Rattle.word_space.proofs.Runs.{below_before, length_shown, shown_same}
use Rattle.record_heap.specs.Pool.{IsPool, IsRecord}
use Rattle.record_heap.proofs.Records.{each_is_record}
use Rattle.tree_index.specs.declared.tree.NearestLeaf.{NearestLeaf}
use Rattle.tree_index.specs.declared.tree.PassedRecord.{PassedRecord}
use Rattle.tree_index.specs.declared.tree.Trail.{Trail}
use Rattle.tree_index.specs.declared.tree.TreePosition.{TreePosition}
use Rattle.tree_index.specs.declared.tree.Tree.{Tree}
use Rattle.tree_index.specs.Shape.{Shape, Leaf, Fork, IsRadix, forks_of, keys_in, keys_of, leaves_of, least_of, link_of}
use Rattle.tree_index.specs.Tree.{FindsNext, FitsTree, IsNext, IsTree}
use Rattle.tree_index.specs.Path.{Frame, OnZeros, OnOnes, GoesBy, plug, over_of, slot_of, turn_of}
use Rattle.tree_index.specs.Walk.{EndsBelow, FindsLeast, FindsNearest, FitsPosition, FitsTrail, HasRecords, IsBelowFrom, IsFrom, IsHeld, IsIn, IsUnder, LeadsTo, Passes, PlacesBeside, Reaches, StaysAtRoot, WalksAlong, WalksTo}
use Rattle.tree_index.proofs.Frees.{none_is_not}
use Rattle.tree_index.proofs.Nexts.{next_above, next_below, next_here, turn_key}
use Rattle.tree_index.proofs.Shapes.{first_among, other_among, radix_inside, radix_more, reached_key, reach_along}

-- ---- the records of a lawful tree

pub has_records : (tree : Tree) (shape : Shape) → ((at : ℕ) → Contains (leaves_of shape) at → IsRecord tree.leaves at) → ((at : ℕ) → Contains (forks_of shape) at → IsRecord tree.inner at) → HasRecords tree shape
has_records tree (Leaf at key) leaf inner = leaf at (first_among at [])
has_records tree (Fork at bit zeros ones) leaf inner = (
  inner at (first_among at (forks_of zeros ++ forks_of ones)),
  has_records tree zeros (λ x c. leaf x (Contains-append_left (leaves_of zeros) (leaves_of ones) x c)) (λ x c. inner x (other_among x at (forks_of zeros ++ forks_of ones) (Contains-append_left (forks_of zeros) (forks_of ones) x c))),
  has_records tree ones (λ x c. leaf x (Contains-append_right (leaves_of zeros) (leaves_of ones) x c)) (λ x c. inner x (other_among x at (forks_of zeros ++ forks_of ones) (Contains-append_right (forks_of zeros) (forks_of ones) x c))),
)

-- a taken record is one
pub taken_record : {pool : _} {words free taken : List ℕ} → IsPool pool words free taken → (at : ℕ) → Contains taken at → IsRecord pool at
taken_record {pool} {words} {free} {taken} lawful at c = All-contains (IsRecord pool) (free ++ taken) at (All-from_recursion (IsRecord pool) (free ++ taken) (each_is_record pool (free ++ taken) lawful.once)) (Contains-append_right free taken at c)

pub tree_in : {tree : Tree} {words free_leaves free_inner : List ℕ} (shape : Shape) → IsTree tree words (Some shape) free_leaves free_inner → IsIn tree words shape
tree_in {tree} shape lawful = record {
  link = lawful.rooted.0;
  held = record { records = has_records tree shape (taken_record lawful.leaves) (taken_record lawful.inner); words = lawful.rooted.1 };
  radix = lawful.rooted.2;
}

-- ---- the first walk

leaf_of : (tree : Tree) (words : List ℕ) (key : ℕ) (position : TreePosition) (path : List Frame) (shape : Shape) → position ≡ record { slot = slot_of tree.root path; link = link_of shape; over = over_of tree.root path; turn = turn_of path } → IsHeld tree words shape → EndsBelow 0 shape → IsRecord tree.leaves position.link × (slice_index words position.link ≡ reached_key key shape)
leaf_of tree words key position path (Leaf at k) here held ends = (
  subst (IsRecord tree.leaves) (sym (ap (λ (p : TreePosition). p.link) here)) held.records,
  ap (λ x. slice_index words x) (ap (λ (p : TreePosition). p.link) here) ∙ held.words,
)
leaf_of tree words key position path (Fork at bit zeros ones) here held ends = absurd (omega (arith, ends))

-- it is the leaf to which the key leads
pub near_leaf : (tree : Tree) (words : List ℕ) (key : ℕ) (shape : Shape) (position : TreePosition) → Reaches tree key 0 words shape position → IsRecord tree.leaves position.link × (slice_index words position.link ≡ reached_key key shape)
near_leaf tree words key shape position r =
    let leaf = leaf_of tree words key position r.passes.path r.passes.part r.passes.at r.passes.held r.ends in
    (leaf.0, leaf.1 ∙ sym (reach_along key 0 r.passes.path r.passes.part r.passes.steps) ∙ ap (λ s. reached_key key s) (sym r.passes.is))

-- a walk that led to no leaf found no tree
pub no_tree : {tree : Tree} {words : List ℕ} {key : ℕ} {trail : Trail} → WalksAlong tree key 0 words trail → (IsRecord tree.leaves trail.last.link → ⊥) → (whole : Shape) → ¬ IsIn tree words whole
no_tree {tree} {words} {key} {trail} walk none whole there = none (near_leaf tree words key whole trail.last (walk whole there).last).0

-- one that led to a leaf didn't stay at an empty root
pub some_tree : {tree : Tree} {n : ℕ} (words : List ℕ) (trail : Trail) → FitsTree tree n → StaysAtRoot tree words trail → IsRecord tree.leaves trail.last.link → slice_index words tree.root ≢ 0
some_tree {tree} words trail fits empty leaf none = omega (arith, fits.leaves.not_at_zero 0 (subst (IsRecord tree.leaves) (ap (λ (p : TreePosition). p.link) (empty none)) leaf))

-- the key found is the one to which the bits of the key lead
pub near_key : {tree : Tree} {words : List ℕ} {key : ℕ} {near : NearestLeaf} (shape : Shape) → IsIn tree words shape → LeadsTo tree key words near → near.key ≡ reached_key key shape
near_key {tree} {words} {key} {near} shape there leads = leads.read ∙ (near_leaf tree words key shape near.trail.last (leads.walk shape there).last).1

-- where a walk found no tree there is no key
pub no_shape : {tree : Tree} {words free_leaves free_inner : List ℕ} (shape : Option Shape) → IsTree tree words shape free_leaves free_inner → ((whole : Shape) → ¬ IsIn tree words whole) → shape ≡ None
no_shape None lawful none = refl
no_shape (Some shape) lawful none = absurd (none shape (tree_in shape lawful))

pub next_none : {tree : Tree} {words : List ℕ} {key : ℕ} → ((whole : Shape) → ¬ IsIn tree words whole) → FindsNext tree key words None
next_none {key = key} none = λ shape free_leaves free_inner lawful. subst (λ s. IsNext (keys_in s) key None) (sym (no_shape shape lawful none)) (All-nil (λ y. y < key))

pub next_equal : {tree : Tree} {words : List ℕ} {key : ℕ} {near : NearestLeaf} → LeadsTo tree key words near → near.key ≡ key → FindsNext tree key words (Some near.key)
next_equal {tree} {words} {key} {near} leads same = λ shape free_leaves free_inner lawful. here shape lawful
  where
    here : {free_leaves free_inner : List ℕ} (shape : Option Shape) → IsTree tree words shape free_leaves free_inner → IsNext (keys_in shape) key (Some near.key)
    here None lawful = absurd (leads.some lawful.rooted)
    here (Some shape) lawful = subst (λ y. IsNext (keys_of shape) key (Some y)) (sym same) (next_here key shape (sym (near_key shape (tree_in shape lawful) leads) ∙ same))

-- ---- the second walk

-- the last inner record of the path has a bit from `floor` on
abbrev IsLastFrom : ℕ → List Frame → Type 0
IsLastFrom floor [] = Unit {0}
IsLastFrom floor (OnZeros at bit ones ∷ path) = floor ≤ bit
IsLastFrom floor (OnOnes at bit zeros ∷ path) = floor ≤ bit

-- the bits rise on the way up
last_above : (floor at bit : ℕ) (zeros ones : Shape) (path : List Frame) → IsRadix 64 (plug path (Fork at bit zeros ones)) → floor ≤ bit → IsLastFrom floor path
last_above floor at bit zeros ones [] radix low = tt
last_above floor at bit zeros ones (OnZeros above high rest ∷ path) radix low = omega (arith, low, (radix_inside 64 path (Fork above high (Fork at bit zeros ones) rest) radix).2.0)
last_above floor at bit zeros ones (OnOnes above high rest ∷ path) radix low = omega (arith, low, (radix_inside 64 path (Fork above high rest (Fork at bit zeros ones)) radix).3.0)

goes_from : (key floor : ℕ) (path : List Frame) (shape : Shape) → IsRadix 64 (plug path shape) → GoesBy key 0 path → IsLastFrom floor path → GoesBy key floor path
goes_from key floor [] shape radix goes last = tt
goes_from key floor (OnZeros at bit ones ∷ path) shape radix goes last = (last, goes.1, goes_from key floor path (Fork at bit shape ones) radix goes.2 (last_above floor at bit shape ones path radix last))
goes_from key floor (OnOnes at bit zeros ∷ path) shape radix goes last = (last, goes.1, goes_from key floor path (Fork at bit zeros shape) radix goes.2 (last_above floor at bit zeros shape path radix last))

last_of : (root floor : ℕ) (path : List Frame) → IfSome (over_of root path) (λ over. floor ≤ over.bit) → IsLastFrom floor path
last_of root floor [] over = tt
last_of root floor (OnZeros at bit ones ∷ path) over = over
last_of root floor (OnOnes at bit zeros ∷ path) over = over

leaf_ends : (floor : ℕ) (shape : Shape) → EndsBelow 0 shape → EndsBelow floor shape
leaf_ends floor (Leaf at key) ends = tt
leaf_ends floor (Fork at bit zeros ones) ends = absurd (omega (arith, ends))

steps_from : {tree : Tree} {words : List ℕ} {key : ℕ} {whole : Shape} {position : TreePosition} (floor : ℕ) → IsIn tree words whole → IsFrom floor position → (passes : Passes tree key 0 words whole position) → GoesBy key floor passes.path
steps_from {tree} {key = key} floor there high passes =
    goes_from key floor passes.path passes.part (subst (IsRadix 64) passes.is there.radix) passes.steps
    (last_of tree.root floor passes.path (subst (IsFrom floor) passes.at high))

-- with such a bit over a position, or none, a walk down to `floor` passes it
placed : {tree : Tree} {words : List ℕ} {key : ℕ} {whole : Shape} {position : TreePosition} (floor : ℕ) → IsIn tree words whole → IsFrom floor position → (passes : Passes tree key 0 words whole position) → EndsBelow floor passes.part → Reaches tree key floor words whole position
placed floor there high passes ends = record {
  passes = record { path = passes.path; part = passes.part; is = passes.is; at = passes.at; steps = steps_from floor there high passes; held = passes.held };
  ends = ends;
}

-- with such a bit over the leaf, or none, it stands where the first one does
pub stays_placed : {tree : Tree} {words : List ℕ} {key : ℕ} {near : NearestLeaf} (floor : ℕ) → IsFrom floor near.trail.last → PlacesBeside tree key floor near words near.trail.last
stays_placed floor high = λ leads whole there.
    let reached = (leads.walk whole there).last in
    placed floor there high reached.passes (leaf_ends floor reached.passes.part reached.ends)

fork_ends : {tree : Tree} {n : ℕ} → FitsTree tree n → (words : List ℕ) (floor at : ℕ) (shape : Shape) → IsHeld tree words shape → at ≡ link_of shape → IsRecord tree.inner at → slice_index words at < floor → EndsBelow floor shape
fork_ends {tree} fits words floor at (Leaf place key) held here inner low = tt
fork_ends {tree} fits words floor at (Fork place bit zeros ones) held here inner low = omega (arith, low, ap (λ x. slice_index words x) here, held.words.0)

-- where the last inner record over a position has a lesser bit, but not the one before it, it stands at that record's link
pub placed_over : {tree : Tree} {n : ℕ} {words : List ℕ} {key : ℕ} {whole : Shape} {upper lower : TreePosition} (floor : ℕ) → FitsTree tree n → IsIn tree words whole → FitsPosition tree n lower → IsUnder words upper lower → IsBelowFrom floor lower → IsFrom floor upper → Passes tree key 0 words whole upper → Reaches tree key floor words whole upper
placed_over {tree} {n} {words} {key} {whole} {upper} {lower} floor fits there inside under low high passes =
    let over = low.0 in
    let same = subst (λ o. IfSome o (λ (over : PassedRecord). (over.at ≡ upper.link) × (over.bit ≡ slice_index words over.at))) low.1 under in
    let inner = (subst (λ o. IfSome o (λ (passed : PassedRecord). IsRecord tree.inner passed.at × (passed.slot < n) × (passed.side < 2))) low.1 inside.over).0 in
    placed floor there high passes
    (fork_ends fits words floor over.at passes.part passes.held (same.0 ∙ ap (λ (p : TreePosition). p.link) passes.at) inner (omega (arith, low.2, same.1)))

no_turn : (path : List Frame) → turn_of path ≡ None → turn_key path ≡ None
no_turn [] none = refl
no_turn (OnZeros at bit ones ∷ path) none = absurd (none_is_not none)
no_turn (OnOnes at bit zeros ∷ path) none = no_turn path none

held_inside : (tree : Tree) (words : List ℕ) (path : List Frame) (shape : Shape) → IsHeld tree words (plug path shape) → IsHeld tree words shape
held_inside tree words [] shape held = held
held_inside tree words (OnZeros at bit ones ∷ path) shape held = let inner = held_inside tree words path (Fork at bit shape ones) held in record { records = inner.records.1; words = inner.words.3 }
held_inside tree words (OnOnes at bit zeros ∷ path) shape held = let inner = held_inside tree words path (Fork at bit zeros shape) held in record { records = inner.records.2; words = inner.words.4 }

-- what stands behind the last turn to the zeros
record Turned (tree : Tree) (words : List ℕ) (word : ℕ) (path : List Frame) : Type 0 where
  ones : Shape
  is : turn_key path ≡ Some (least_of ones)
  link : slice_index words word ≡ link_of ones
  held : IsHeld tree words ones
  radix : IsRadix 64 ones

turned_at : (tree : Tree) (words : List ℕ) (word : ℕ) (path : List Frame) (shape : Shape) → turn_of path ≡ Some word → IsHeld tree words (plug path shape) → IsRadix 64 (plug path shape) → Turned tree words word path
turned_at tree words word [] shape turns held radix = absurd (none_is_not (sym turns))
turned_at tree words word (OnZeros at bit ones ∷ path) shape turns held radix =
    let inner = held_inside tree words path (Fork at bit shape ones) held in
    let bits = radix_inside 64 path (Fork at bit shape ones) radix in
    record {
      ones = ones;
      is = refl;
      link = ap (λ x. slice_index words x) (sym (ap (λ o. unwrap_or o 0) turns)) ∙ inner.words.2;
      held = record { records = inner.records.2; words = inner.words.4 };
      radix = radix_more bit 64 ones (omega (arith, bits.0)) bits.3;
    }
turned_at tree words word (OnOnes at bit zeros ∷ path) shape turns held radix =
    let rest = turned_at tree words word path (Fork at bit zeros shape) turns held radix in
    record { ones = rest.ones; is = rest.is; link = rest.link; held = rest.held; radix = rest.radix }

-- ---- what `nearest` and `place` told, seen over an array below the words after them

-- behind reads alone the words are seen as before
pub seen_unchanged : {S : Type 0} {sight : S → WordsSight} {turns_into : S → S → Type 0} {reads : ℕ} {old new : S} → WordsUsed sight turns_into reads 0 None old new → (P : List ℕ → List ℕ → Type 0)
    → ((array : List ℕ) → IsBelow (sight new) array → P (shown (sight old) array) (shown (sight old) array)) → (array : List ℕ) → IsBelow (sight new) array → P (shown (sight old) array) (shown (sight new) array)
seen_unchanged {sight = sight} {old = old} used P seen array below = subst (λ ws. P (shown (sight old) array) ws) (sym (shown_same used array)) (seen array below)

-- the trail found was told to fit as many words as there are
pub trail_fits : (tree : Tree) {n m : ℕ} {found : Option NearestLeaf} {near : NearestLeaf} → m ≡ n → found ≡ Some near → IfSome found (λ near. FitsTrail tree n near.trail) → FitsTrail tree m near.trail
trail_fits tree {n} {near = near} same is fits = subst (λ k. FitsTrail tree k near.trail) (sym same) (subst (λ o. IfSome o (λ (near : NearestLeaf). FitsTrail tree n near.trail)) is fits)

-- A key that isn't there has its place: the highest bit in which it differs from the key to which its bits lead, and the position
-- where a walk for it down to that bit ends.
pub record IsPlaced (tree : Tree) (key bit : ℕ) (near : NearestLeaf) (position : TreePosition) (n : ℕ) (words : List ℕ) : Type 0 where
  pub size : length words ≡ n
  pub leads : LeadsTo tree key words near
  pub small : bit < 64
  pub above : key / 2 ^ (bit + 1) ≡ near.key / 2 ^ (bit + 1)
  pub differs : key / 2 ^ bit ≢ near.key / 2 ^ bit
  pub walk : WalksTo tree key (bit + 1) words position

module _ {S : Type 0} {sight : S → WordsSight} {turns_into : S → S → Type 0} (tree : Tree) (key : ℕ) {reads : ℕ} {found : Option NearestLeaf} {near : NearestLeaf} {old middle : S}
    (used : WordsUsed sight turns_into reads 0 None old middle) (is : found ≡ Some near)
    (nearest : (array : List ℕ) → IsBelow (sight middle) array → FindsNearest tree key (shown (sight old) array) found) where
  pub near_leads : (array : List ℕ) → IsBelow (sight middle) array → LeadsTo tree key (shown (sight old) array) near
  near_leads array below = subst (λ o. FindsNearest tree key (shown (sight old) array) o) is (nearest array below)

  pub placed_by : {more : ℕ} {new : S} (bit : ℕ) (position : TreePosition) → WordsUsed sight turns_into more 0 None middle new
      → ((array : List ℕ) → IsBelow (sight new) array → PlacesBeside tree key (bit + 1) near (shown (sight middle) array) position)
      → bit < 64 → key / 2 ^ (bit + 1) ≡ near.key / 2 ^ (bit + 1) → key / 2 ^ bit ≢ near.key / 2 ^ bit
      → (array : List ℕ) → IsBelow (sight new) array → IsPlaced tree key bit near position (sight old).count (shown (sight old) array)
  placed_by bit position walked places small above differs array below =
      let below_near = below_before walked below in
      let leads = near_leads array below_near in
      let same = shown_same used array in
      record {
        size = length_shown (below_before used below_near);
        leads = leads;
        small = small;
        above = above;
        differs = differs;
        walk = subst (λ ws. WalksTo tree key (bit + 1) ws position) same (places array below (subst (λ ws. LeadsTo tree key ws near) (sym same) leads));
      }

-- Where a key has its place, the key to which its bits lead is in what the walk reached, and is its next one by it.
module _ {tree : Tree} {words : List ℕ} {key d n : ℕ} {near : NearestLeaf} {again : TreePosition} (place : IsPlaced tree key d near again n words) where
  same_leaf : (shape : Shape) → IsIn tree words shape → (r : Reaches tree key (d + 1) words shape again) → near.key ≡ reached_key key r.passes.part
  same_leaf shape there r = near_key shape there place.leads ∙ ap (λ s. reached_key key s) r.passes.is ∙ reach_along key (d + 1) r.passes.path r.passes.part r.passes.steps

  -- the key and what was reached agree above the bit, and differ from it on
  pub agrees_above : (shape : Shape) → IsIn tree words shape → (r : Reaches tree key (d + 1) words shape again) → key / 2 ^ (d + 1) ≡ reached_key key r.passes.part / 2 ^ (d + 1)
  agrees_above shape there r = place.above ∙ ap (λ y. y / 2 ^ (d + 1)) (same_leaf shape there r)

  pub differs_here : (shape : Shape) → IsIn tree words shape → (r : Reaches tree key (d + 1) words shape again) → key / 2 ^ d ≢ reached_key key r.passes.part / 2 ^ d
  differs_here shape there r e = place.differs (e ∙ ap (λ y. y / 2 ^ d) (sym (same_leaf shape there r)))

  less_in : {free_leaves free_inner : List ℕ} (shape : Option Shape) → IsTree tree words shape free_leaves free_inner → key < near.key → (r : Option ℕ) → FindsLeast tree again.link words r → IsNext (keys_in shape) key r
  less_in None lawful less r finds = absurd (place.leads.some lawful.rooted)
  less_in (Some shape) lawful less r finds =
      let there = tree_in shape lawful in
      let reached = place.walk shape there in
      let same = same_leaf shape there reached in
      let radix = subst (IsRadix 64) reached.passes.is there.radix in
      subst (λ o. IsNext (keys_of shape) key o) (sym (finds reached.passes.part reached.passes.held (radix_inside 64 reached.passes.path reached.passes.part radix) (ap (λ (p : TreePosition). p.link) reached.passes.at)))
      (subst (λ s. IsNext (keys_of s) key (Some (least_of reached.passes.part))) (sym reached.passes.is)
      (next_below key d 64 reached.passes.path reached.passes.part radix reached.passes.steps reached.ends (agrees_above shape there reached) (differs_here shape there reached) (subst (λ y. key < y) same less)))

  -- the key is less than the one that it leads to
  pub next_less : key < near.key → (r : Option ℕ) → FindsLeast tree again.link words r → FindsNext tree key words r
  next_less less r finds = λ shape free_leaves free_inner lawful. less_in shape lawful less r finds

  more_turns : (shape : Shape) → IsIn tree words shape → (key < near.key → ⊥) → (reached : Reaches tree key (d + 1) words shape again) → IsNext (keys_of shape) key (turn_key reached.passes.path)
  more_turns shape there more reached =
      let same = same_leaf shape there reached in
      let less : near.key < key = elim (cases_order key near.key) [ inl e ↦ absurd (place.differs (ap (λ y. y / 2 ^ d) e)) | inr o ↦ elim o [ inl lt ↦ absurd (more lt) | inr gt ↦ gt ] ] in
      subst (λ s. IsNext (keys_of s) key (turn_key reached.passes.path)) (sym reached.passes.is)
      (next_above key d 64 reached.passes.path reached.passes.part (subst (IsRadix 64) reached.passes.is there.radix) reached.passes.steps reached.ends (agrees_above shape there reached) (differs_here shape there reached) (subst (λ y. y < key) same less))

  no_turn_in : {free_leaves free_inner : List ℕ} (shape : Option Shape) → IsTree tree words shape free_leaves free_inner → (key < near.key → ⊥) → again.turn ≡ None → IsNext (keys_in shape) key None
  no_turn_in None lawful more none = absurd (place.leads.some lawful.rooted)
  no_turn_in (Some shape) lawful more none =
      let there = tree_in shape lawful in
      let reached = place.walk shape there in
      subst (λ o. IsNext (keys_of shape) key o) (no_turn reached.passes.path (sym (ap (λ (p : TreePosition). p.turn) reached.passes.at) ∙ none)) (more_turns shape there more reached)

  -- it is greater, and the walk made no turn to the zeros
  pub next_no_turn : (key < near.key → ⊥) → again.turn ≡ None → FindsNext tree key words None
  next_no_turn more none = λ shape free_leaves free_inner lawful. no_turn_in shape lawful more none

  turn_in : {free_leaves free_inner : List ℕ} (shape : Option Shape) → IsTree tree words shape free_leaves free_inner → (key < near.key → ⊥) → (word : ℕ) → again.turn ≡ Some word → (link : ℕ) → link ≡ slice_index words word → (r : Option ℕ) → FindsLeast tree link words r → IsNext (keys_in shape) key r
  turn_in None lawful more word turns link read r finds = absurd (place.leads.some lawful.rooted)
  turn_in (Some shape) lawful more word turns link read r finds =
      let there = tree_in shape lawful in
      let reached = place.walk shape there in
      let whole : IsHeld tree words (plug reached.passes.path reached.passes.part) = subst (IsHeld tree words) reached.passes.is there.held in
      let radix = subst (IsRadix 64) reached.passes.is there.radix in
      let turned = turned_at tree words word reached.passes.path reached.passes.part (sym (ap (λ (p : TreePosition). p.turn) reached.passes.at) ∙ turns) whole radix in
      subst (λ o. IsNext (keys_of shape) key o) (turned.is ∙ sym (finds turned.ones turned.held turned.radix (read ∙ turned.link))) (more_turns shape there more reached)

  -- or it made one
  pub next_turn : (key < near.key → ⊥) → (word : ℕ) → again.turn ≡ Some word → (link : ℕ) → link ≡ slice_index words word → (r : Option ℕ) → FindsLeast tree link words r → FindsNext tree key words r
  next_turn more word turns link read r finds = λ shape free_leaves free_inner lawful. turn_in shape lawful more word turns link read r finds
