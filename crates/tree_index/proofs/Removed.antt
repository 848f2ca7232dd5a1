-- What the parts of `remove` did, put together.
use Rattle.std.proofs.Common.{◌≡◌, ◌≢◌, ℕ, ◌+◌, ◌-◌, ◌<◌, inl, inr, List, [], ◌∷◌, ◌++◌, length, Contains, true, false, Option, Some, None, slice_index, slice_set, refl, sym, ap, ◌∙◌, subst, arith, eqb}
use Rattle.std.proofs.lemmas.List.Elements.{Contains-append_cases, Contains-append_left, Contains-append_right}
use Rattle.std.proofs.lemmas.List.Sorted.{Contains-permutation, IsPermutation-sym}
use Rattle.std.proofs.lemmas.Map.Keys.{IsDistinct-tail}
use Rattle.std.specs.List.{IsDistinct}
use Rattle.record_heap.specs.declared.pool.Pool.{Pool}
use Rattle.record_heap.specs.Pool.{Gives, IsPool, IsRecord}
use Rattle.record_heap.proofs.Arrays.{changes_more, changes_none}
use Rattle.record_heap.proofs.Frames.{IsOutsidePool, pool_stays, same_pool}
use Rattle.record_heap.proofs.Records.{none_twice}
use Rattle.tree_index.specs.declared.tree.NearestLeaf.{NearestLeaf}
use Rattle.tree_index.specs.declared.tree.TreePosition.{TreePosition}
use Rattle.tree_index.specs.declared.tree.Tree.{Tree}
use Rattle.tree_index.specs.Linking.{Unlinks}
use Rattle.tree_index.specs.Shape.{Shape, Leaf, Fork, forks_of, keys_in, leaves_of, link_of}
use Rattle.tree_index.specs.Tree.{Drops, FitsTree, IsTree, RemovesAll}
use Rattle.tree_index.specs.Path.{Frame, OnZeros, OnOnes, GoesBy, over_of, plug, slot_of}
use Rattle.tree_index.specs.Walk.{EndsBelow, IsIn, LeadsTo}
use Rattle.tree_index.proofs.Apart.{IsOwn, own_more, own_outside_inner, own_outside_leaves, slot_own}
use Rattle.tree_index.proofs.Dropped.{drops_last, drops_leaf}
use Rattle.tree_index.proofs.Found.{near_key, no_shape, taken_record, tree_in}
use Rattle.tree_index.proofs.Frees.{given_stays}
use Rattle.tree_index.proofs.Paths.{first_differs, forks_along, leaves_along, opened, plug_forks, plug_leaves}
use Rattle.tree_index.proofs.Shapes.{first_among, only_key, reached_key, reach_along, reach_there}

differ_across : (x y : ℕ) (xs ys : List ℕ) → IsDistinct eqb (xs ++ ys) → Contains xs x → Contains ys y → x ≢ y
differ_across x y [] ys distinct cx cy = absurd (omega (arith, cx.1))
differ_across x y (z ∷ zs) ys distinct cx cy =
    elim (Contains-append_cases (z ∷ []) zs x cx) [
      | inl first ↦ λ same. first_differs z (zs ++ ys) distinct y (Contains-append_right zs ys y cy) (sym same ∙ only_key x z first)
      | inr other ↦ differ_across x y zs ys (IsDistinct-tail eqb z (zs ++ ys) distinct) other cy
    ]

-- a taken record is not free
not_free : {pool : Pool} {array : List ℕ} (free taken : List ℕ) → 0 < pool.size → IsPool pool array free taken → (x : ℕ) → Contains taken x → ¬ Contains free x
not_free {pool} free taken wide lawful x there kept = differ_across x x free taken (none_twice pool (free ++ taken) lawful.once wide) kept there refl

module _ {tree : Tree} {n : ℕ} (fits : FitsTree tree n) (old : List ℕ) (free_leaves free_inner : List ℕ) (path : List Frame) (rest : Shape) (lawful : IsTree tree old (Some (plug path rest)) free_leaves free_inner) where
  old_leafs : (x : ℕ) → Contains (leaves_of (plug path rest)) x → IsRecord tree.leaves x
  old_leafs = taken_record lawful.leaves

  old_forks : (x : ℕ) → Contains (forks_of (plug path rest)) x → IsRecord tree.inner x
  old_forks = taken_record lawful.inner

  among_leaves : (x : ℕ) → Contains (leaves_of rest ++ leaves_along path) x → Contains (leaves_of (plug path rest)) x
  among_leaves x c = Contains-permutation (leaves_of rest ++ leaves_along path) (leaves_of (plug path rest)) x (IsPermutation-sym _ _ (plug_leaves path rest)) c

  among_forks : (x : ℕ) → Contains (forks_of rest ++ forks_along path) x → Contains (forks_of (plug path rest)) x
  among_forks x c = Contains-permutation (forks_of rest ++ forks_along path) (forks_of (plug path rest)) x (IsPermutation-sym _ _ (plug_forks path rest)) c

  -- a word that links something of the path
  of_path : (i : ℕ) → IsOwn tree.root (leaves_along path) (forks_along path) i → IsOutsidePool tree.leaves i × IsOutsidePool tree.inner i
  of_path i own =
      let whole = own_more tree.root i (leaves_along path) (forks_along path) (leaves_of (plug path rest)) (forks_of (plug path rest)) (λ x c. among_leaves x (Contains-append_right (leaves_of rest) (leaves_along path) x c)) (λ x c. among_forks x (Contains-append_right (forks_of rest) (forks_along path) x c)) own in
      (own_outside_leaves fits (leaves_of (plug path rest)) (forks_of (plug path rest)) i old_leafs old_forks whole, own_outside_inner fits (leaves_of (plug path rest)) (forks_of (plug path rest)) i old_leafs old_forks whole)

  fork_among : (x : ℕ) → Contains (forks_along path) x → Contains (forks_of (plug path rest)) x
  fork_among x c = among_forks x (Contains-append_right (forks_of rest) (forks_along path) x c)

  leaf_among : (x : ℕ) → Contains (leaves_of rest) x → Contains (leaves_of (plug path rest)) x
  leaf_among x c = among_leaves x (Contains-append_left (leaves_of rest) (leaves_along path) x c)

  -- one word of the path is written
  pools_stay : (i v : ℕ) → IsOwn tree.root (leaves_along path) (forks_along path) i → IsPool tree.leaves (slice_set old i v) free_leaves (leaves_of (plug path rest)) × IsPool tree.inner (slice_set old i v) free_inner (forks_of (plug path rest))
  pools_stay i v own =
      let out = of_path i own in
      (pool_stays (same_pool {words = i ∷ []} (out.0, tt) (changes_more i v changes_none)) lawful.leaves, pool_stays (same_pool {words = i ∷ []} (out.1, tt) (changes_more i v changes_none)) lawful.inner)

-- what `give` of the leaf does
abbrev pub GivesLeaf : Tree → ℕ → List ℕ → List ℕ → Type 0
GivesLeaf tree at middle new = (free taken : List ℕ) → IsPool tree.leaves middle free taken → ¬ Contains free at → Gives tree.leaves at free taken middle new

-- what both did, where the last inner record passed is that of this frame, with `beside` on its other side
both_given : {tree : Tree} {n : ℕ} → FitsTree tree n → (old middle new free_leaves free_inner : List ℕ) (key at over bit side : ℕ) (frame : Frame) (path : List Frame) (beside : Shape)
    → leaves_along (frame ∷ path) ≡ leaves_of beside ++ leaves_along path → forks_along (frame ∷ path) ≡ over ∷ (forks_of beside ++ forks_along path)
    → IsTree tree old (Some (plug (frame ∷ path) (Leaf at key))) free_leaves free_inner → slice_index old (over + 3 - side) ≡ link_of beside
    → Unlinks tree (Some (record { at = over; slot = slot_of tree.root path; bit = bit; side = side })) old middle tt → GivesLeaf tree at middle new
    → Gives tree.inner over free_inner (forks_of (plug (frame ∷ path) (Leaf at key))) (slice_set old (slot_of tree.root path) (link_of beside)) middle
    × Gives tree.leaves at free_leaves (leaves_of (plug (frame ∷ path) (Leaf at key))) middle new
both_given {tree} fits old middle new free_leaves free_inner key at over bit side frame path beside leaves_are forks_are lawful link cuts gives =
    let whole = plug (frame ∷ path) (Leaf at key) in
    let slot = slot_of tree.root path in
    let own =
    own_more tree.root slot (leaves_along path) (forks_along path) (leaves_along (frame ∷ path)) (forks_along (frame ∷ path))
    (λ x c. subst (λ (l : List ℕ). Contains l x) (sym leaves_are) (Contains-append_right (leaves_of beside) (leaves_along path) x c))
    (λ x c. subst (λ (l : List ℕ). Contains l x) (sym forks_are) (Contains-append_right (over ∷ forks_of beside) (forks_along path) x c)) (slot_own tree.root path) in
    let pools = pools_stay fits old free_leaves free_inner (frame ∷ path) (Leaf at key) lawful slot (link_of beside) own in
    let over_in = fork_among fits old free_leaves free_inner (frame ∷ path) (Leaf at key) lawful over (subst (λ (l : List ℕ). Contains l over) (sym forks_are) (first_among over (forks_of beside ++ forks_along path))) in
    let at_in = leaf_among fits old free_leaves free_inner (frame ∷ path) (Leaf at key) lawful at (first_among at []) in
    let linked : slice_set old slot (slice_index old (over + 3 - side)) ≡ slice_set old slot (link_of beside) = ap (λ v. slice_set old slot v) link in
    let inner_gives : Gives tree.inner over free_inner (forks_of whole) (slice_set old slot (link_of beside)) middle =
    subst (λ x. Gives tree.inner over free_inner (forks_of whole) x middle) linked
    (cuts free_inner (forks_of whole) (subst (λ x. IsPool tree.inner x free_inner (forks_of whole)) (sym linked) pools.1) (not_free free_inner (forks_of whole) (omega (arith, fits.inner_size)) lawful.inner over over_in)) in (
      inner_gives,
      gives free_leaves (leaves_of whole)
          (given_stays inner_gives fits.headers (fits.records over (taken_record lawful.inner over over_in)) fits.inner.size fits.leaves.size pools.0)
          (not_free free_leaves (leaves_of whole) (omega (arith, fits.leaf_size)) lawful.leaves at at_in),
    )

dropped_leaf : {tree : Tree} {n : ℕ} → FitsTree tree n → (old middle new free_leaves free_inner : List ℕ) (key at : ℕ) → length old ≡ n → (path : List Frame) → IsTree tree old (Some (plug path (Leaf at key))) free_leaves free_inner → GoesBy key 0 path → Unlinks tree (over_of tree.root path) old middle tt → GivesLeaf tree at middle new → Drops tree key (Some (plug path (Leaf at key))) free_leaves free_inner old new
dropped_leaf {tree} {n} fits old middle new free_leaves free_inner key at size [] lawful goes cuts gives =
    let pools = pools_stay fits old free_leaves free_inner [] (Leaf at key) lawful tree.root 0 (inl refl) in
    drops_last fits old middle new free_leaves free_inner key at size lawful cuts
    (gives free_leaves (at ∷ []) (subst (λ x. IsPool tree.leaves x free_leaves (at ∷ [])) (sym cuts) pools.0) (not_free free_leaves (at ∷ []) (omega (arith, fits.leaf_size)) lawful.leaves at (first_among at [])))
dropped_leaf {tree} {n} fits old middle new free_leaves free_inner key at size (OnZeros over bit beside ∷ path) lawful goes cuts gives =
    let open_up = opened old tree.root (OnZeros over bit beside ∷ path) (Leaf at key) lawful.rooted.0 lawful.rooted.1 in
    let link = ap (λ x. slice_index old x) (let sum : over + 3 - 0 ≡ over + 3 = omega arith in sum) ∙ open_up.0.1 in
    let both = both_given fits old middle new free_leaves free_inner key at over bit 0 (OnZeros over bit beside) path beside refl refl lawful link cuts gives in
    drops_leaf fits old path (OnZeros over bit beside) free_leaves free_inner key at size lawful goes middle new both.0 both.1
dropped_leaf {tree} {n} fits old middle new free_leaves free_inner key at size (OnOnes over bit beside ∷ path) lawful goes cuts gives =
    let open_up = opened old tree.root (OnOnes over bit beside ∷ path) (Leaf at key) lawful.rooted.0 lawful.rooted.1 in
    let link = ap (λ x. slice_index old x) (let sum : over + 3 - 1 ≡ over + 2 = omega arith in sum) ∙ open_up.0.1 in
    let both = both_given fits old middle new free_leaves free_inner key at over bit 1 (OnOnes over bit beside) path beside refl refl lawful link cuts gives in
    drops_leaf fits old path (OnOnes over bit beside) free_leaves free_inner key at size lawful goes middle new both.0 both.1

dropped : {tree : Tree} {n : ℕ} → FitsTree tree n → (old middle new free_leaves free_inner : List ℕ) (key : ℕ) → length old ≡ n → (path : List Frame) (rest : Shape) → EndsBelow 0 rest → IsTree tree old (Some (plug path rest)) free_leaves free_inner → GoesBy key 0 path → reached_key key rest ≡ key → Unlinks tree (over_of tree.root path) old middle tt → GivesLeaf tree (link_of rest) middle new → Drops tree key (Some (plug path rest)) free_leaves free_inner old new
dropped fits old middle new free_leaves free_inner key size path (Fork at bit zeros ones) ends lawful goes same cuts gives = absurd (omega (arith, ends))
dropped {tree} fits old middle new free_leaves free_inner key size path (Leaf at k) ends lawful goes same cuts gives =
    subst (λ x. Drops tree key (Some (plug path (Leaf at x))) free_leaves free_inner old new) (sym same)
    (dropped_leaf fits old middle new free_leaves free_inner key at size path (subst (λ x. IsTree tree old (Some (plug path (Leaf at x))) free_leaves free_inner) same lawful) goes cuts gives)

-- what `unlink` and `give` did
there_in : {tree : Tree} {n : ℕ} {key : ℕ} {near : NearestLeaf} {old middle new : List ℕ} → FitsTree tree n → length old ≡ n → LeadsTo tree key old near → near.key ≡ key → Unlinks tree near.trail.last.over old middle tt → GivesLeaf tree near.trail.last.link middle new → (shape : Option Shape) (free_leaves free_inner : List ℕ) → IsTree tree old shape free_leaves free_inner → Drops tree key shape free_leaves free_inner old new
there_in fits size leads same unlinks gives None free_leaves free_inner lawful = absurd (leads.some lawful.rooted)
there_in {tree} {n} {key} {near} {old} {middle} {new} fits size leads same unlinks gives (Some shape) free_leaves free_inner lawful =
    let there = tree_in shape lawful in
    let reached = (leads.walk shape there).last in
    let itself : reached_key key reached.passes.part ≡ key = sym (near_key shape there leads ∙ ap (λ s. reached_key key s) reached.passes.is ∙ reach_along key 0 reached.passes.path reached.passes.part reached.passes.steps) ∙ same in
    subst (λ s. Drops tree key (Some s) free_leaves free_inner old new) (sym reached.passes.is)
    (dropped fits old middle new free_leaves free_inner key size reached.passes.path reached.passes.part reached.ends (subst (λ s. IsTree tree old (Some s) free_leaves free_inner) reached.passes.is lawful) reached.passes.steps itself
    (subst (λ o. Unlinks tree o old middle tt) (ap (λ (p : TreePosition). p.over) reached.passes.at) unlinks) (subst (λ x. GivesLeaf tree x middle new) (ap (λ (p : TreePosition). p.link) reached.passes.at) gives))

-- the key was there
pub removes_there : {tree : Tree} {n : ℕ} {key : ℕ} {near : NearestLeaf} {old middle new : List ℕ} → FitsTree tree n → length old ≡ n → LeadsTo tree key old near → near.key ≡ key → Unlinks tree near.trail.last.over old middle tt → GivesLeaf tree near.trail.last.link middle new → RemovesAll tree key old new true
removes_there fits size leads same unlinks gives = λ shape free_leaves free_inner lawful. there_in fits size leads same unlinks gives shape free_leaves free_inner lawful

-- where a walk found no tree there is no key
pub removes_none : {tree : Tree} {words : List ℕ} {key : ℕ} → ((whole : Shape) → ¬ IsIn tree words whole) → RemovesAll tree key words words false
removes_none {key = key} none = λ shape free_leaves free_inner lawful. (subst (λ s. ¬ Contains (keys_in s) key) (sym (no_shape shape lawful none)) (λ c. omega (arith, c.1)), refl)

other_in : {tree : Tree} {words free_leaves free_inner : List ℕ} {key : ℕ} {near : NearestLeaf} → LeadsTo tree key words near → (near.key ≡ key → ⊥) → (shape : Option Shape) → IsTree tree words shape free_leaves free_inner → ¬ Contains (keys_in shape) key
other_in leads differ None lawful c = omega (arith, c.1)
other_in {key = key} leads differ (Some shape) lawful c = differ (near_key shape (tree_in shape lawful) leads ∙ reach_there key 64 shape lawful.rooted.2 c)

-- the bits of the key lead to another one
pub removes_other : {tree : Tree} {words : List ℕ} {key : ℕ} {near : NearestLeaf} → LeadsTo tree key words near → (near.key ≡ key → ⊥) → RemovesAll tree key words words false
removes_other leads differ = λ shape free_leaves free_inner lawful. (other_in leads differ shape lawful, refl)
