-- What `replace` finds and does, in a lawful tree.
use Rattle.std.proofs.Common.{◌≡◌, ℕ, ◌+◌, ◌-◌, inl, inr, List, [], ◌∷◌, length, Contains, drop, Option, Some, None, slice_index, slice_set, refl, sym, ap, ◌∙◌, subst, arith, false, get_or-set_same}
use Rattle.std.specs.Prelude.{Result, Ok, Err, IfOk, OnOk}
use Rattle.std.proofs.lemmas.List.Sorted.{Contains-permutation, IsPermutation-refl, IsPermutation-sym}
use Rattle.record_heap.specs.Changes.{ChangesOnly}
use Rattle.record_heap.specs.Pool.{IsRecord}
use Rattle.record_heap.proofs.Arrays.{changes_more, changes_none}
use Rattle.record_heap.proofs.Frames.{pool_stays, same_pool}
use Rattle.tree_index.specs.declared.tree.NearestLeaf.{NearestLeaf}
use Rattle.tree_index.specs.declared.tree.PassedRecord.{PassedRecord}
use Rattle.tree_index.specs.declared.tree.TreePosition.{TreePosition}
use Rattle.tree_index.specs.declared.tree.Tree.{Tree}
use Rattle.tree_index.specs.Linking.{HasKeyMore, HasSpare, LinksSpare, Relinks, linked_beside}
use Rattle.tree_index.specs.Shape.{Shape, Leaf, Fork, forks_of, keys_in, keys_of, leaves_of, link_of}
use Rattle.tree_index.specs.Tree.{FitsTree, IsTree, RemovesAll, Replaces, ReplacesAll, StaysOutside}
use Rattle.tree_index.specs.Path.{Frame, OnZeros, OnOnes, GoesBy, over_of, plug, slot_of}
use Rattle.tree_index.specs.Walk.{EndsBelow, IsIn, LeadsTo}
use Rattle.tree_index.proofs.Apart.{IsOwn, own_not_outside, own_outside_inner, own_outside_leaves}
use Rattle.tree_index.proofs.Dropped.{SparesKey, spares_leaf}
use Rattle.tree_index.proofs.Found.{IsPlaced, agrees_above, differs_here, has_records, near_key, taken_record, tree_in}
use Rattle.tree_index.proofs.Inserted.{stored_from}
use Rattle.tree_index.proofs.Paths.{opened}
use Rattle.tree_index.proofs.Shapes.{first_among, other_among, reached_key, reach_along, reach_in}

-- what is told of a call that answered Ok, by what was shown
pub when_shown : {T E : Type 0} (r : Result T E) (shows : Type 0) (P : T → Type 0) → (shows → (x : T) → P x) → OnOk r shows → IfOk r P
when_shown (Ok x) shows P then is = then is x
when_shown (Err e) shows P then is = tt

-- ---- the key is linked by spare records

-- the tree beside which they stand
spare_in : {tree : Tree} {array free_leaves free_inner : List ℕ} (leaf fork : ℕ) (shape : Shape) → HasSpare tree array leaf fork shape free_leaves free_inner → IsIn tree array shape
spare_in {tree} leaf fork shape spare = record {
  link = spare.rooted.0;
  held = record {
    records = has_records tree shape (λ x c. taken_record spare.leaves x (other_among x leaf (leaves_of shape) c)) (λ x c. taken_record spare.inner x (other_among x fork (forks_of shape) c));
    words = spare.rooted.1;
  };
  radix = spare.rooted.2;
}

-- the two walks, and what was written
pub links_spare : {tree : Tree} {old new : List ℕ} {key leaf fork d n : ℕ} {near : NearestLeaf} {again : TreePosition} → FitsTree tree n → IsPlaced tree key d near again n old
    → new ≡ linked_beside key d leaf fork again old → LinksSpare tree key leaf fork old new tt
links_spare {tree} {old} {new} {key} {leaf} {fork} {d} {again = again} fits place wrote = λ shape free_leaves free_inner spare absent.
    let there = spare_in leaf fork shape spare in
    let reached = place.walk shape there in
    let its = subst (λ s. HasSpare tree old leaf fork s free_leaves free_inner) reached.passes.is spare in
    let stores = stored_from fits old old new reached.passes.path reached.passes.part (leaf ∷ free_leaves) (fork ∷ free_inner) free_leaves free_inner key d leaf fork again place.size place.size place.small its.rooted
    (ap (λ (p : TreePosition). p.slot) reached.passes.at) (ap (λ (p : TreePosition). p.link) reached.passes.at) reached.passes.steps reached.ends (agrees_above place shape there reached) (differs_here place shape there reached)
    its.leaves its.inner (λ i a b c e. refl) refl refl wrote in
    subst (λ s. HasKeyMore tree key s free_leaves free_inner old new) (sym reached.passes.is) (record {
      after = stores.after;
      lawful = subst (λ xs. IsTree tree new (Some stores.after) xs free_inner) (sym (ap (λ (xs : List ℕ). drop 1 xs) stores.took_leaf))
          (subst (λ ys. IsTree tree new (Some stores.after) stores.left_leaves ys) (sym (ap (λ (ys : List ℕ). drop 1 ys) stores.grows.1)) stores.lawful);
      keys = stores.keys;
      others = stores.others;
    })

-- where the key is there nothing is said
pub links_there : {tree : Tree} {old new : List ℕ} {key leaf fork : ℕ} {near : NearestLeaf} → LeadsTo tree key old near → near.key ≡ key → LinksSpare tree key leaf fork old new tt
links_there {key = key} {leaf} {fork} leads same = λ shape free_leaves free_inner spare absent.
    absurd (absent (subst (λ y. Contains (keys_of shape) y) (sym (near_key shape (spare_in leaf fork shape spare) leads) ∙ same) (reach_in key shape)))

-- nor where there is no tree
pub links_none : {tree : Tree} {old new : List ℕ} {key leaf fork : ℕ} → ((whole : Shape) → ¬ IsIn tree old whole) → LinksSpare tree key leaf fork old new tt
links_none {leaf = leaf} {fork} none = λ shape free_leaves free_inner spare absent. absurd (none shape (spare_in leaf fork shape spare))

-- ---- the whole

-- what the writes are, by the inner record over the leaf: without one the leaf gets the key; else it is cut off, and linked again
abbrev pub MovesLeaf : Tree → Option PassedRecord → ℕ → ℕ → List ℕ → List ℕ → List ℕ → Type 0
MovesLeaf tree None leaf key old middle new = new ≡ slice_set old leaf key
MovesLeaf tree (Some over) leaf key old middle new = Relinks over old middle tt × LinksSpare tree key leaf over.at middle new tt

-- the only key
replaced_only : {tree : Tree} {n : ℕ} → FitsTree tree n → (old new free_leaves free_inner : List ℕ) (from to at : ℕ) → length old ≡ n → IsTree tree old (Some (Leaf at from)) free_leaves free_inner → new ≡ slice_set old at to → Replaces tree from to (Some (Leaf at from)) free_leaves free_inner old new
replaced_only {tree} {n} fits old new free_leaves free_inner from to at size lawful wrote =
    let leafs : (x : ℕ) → Contains (at ∷ []) x → IsRecord tree.leaves x = taken_record lawful.leaves in
    let forks : (x : ℕ) → Contains [] x → IsRecord tree.inner x = λ x c. absurd (omega (arith, c.1)) in
    let at_is = leafs at (first_among at []) in
    let own : IsOwn tree.root (at ∷ []) [] at = inr (inl (first_among at [])) in
    let changes : ChangesOnly (at ∷ []) old new = subst (λ x. ChangesOnly (at ∷ []) old x) (sym wrote) (changes_more at to changes_none) in
    record {
      rest = [];
      were = IsPermutation-refl (from ∷ []);
      after = Leaf at to;
      keys = IsPermutation-refl (to ∷ []);
      lawful = record {
        leaves = pool_stays (same_pool {words = at ∷ []} (own_outside_leaves fits (at ∷ []) [] at leafs forks own, tt) changes) lawful.leaves;
        inner = pool_stays (same_pool {words = at ∷ []} (own_outside_inner fits (at ∷ []) [] at leafs forks own, tt) changes) lawful.inner;
        rooted = (
          changes.others tree.root ((λ same. omega (arith, fits.root_leaves.records at at_is, fits.leaf_size, same)), tt) ∙ lawful.rooted.0,
          ap (λ x. slice_index x at) wrote ∙ get_or-set_same old at to 0 (omega (arith, fits.leaves.inside at at_is, fits.leaf_size, size)),
          tt,
        );
      };
      others = record { size = changes.size; others = λ i out. changes.others i (own_not_outside fits (at ∷ []) [] i at leafs forks own out, tt) };
    }

-- a key with another beside it
replaced_beside : {tree : Tree} → (old linked middle new free_leaves free_inner : List ℕ) (from to at over : ℕ) (whole rest : Shape) → SparesKey tree old linked from at over whole rest free_leaves free_inner → middle ≡ linked → LinksSpare tree to at over middle new tt → ¬ Contains (keys_of whole) to → Replaces tree from to (Some whole) free_leaves free_inner old new
replaced_beside {tree} old linked middle new free_leaves free_inner from to at over whole rest spares same links absent =
    let more = links rest free_leaves free_inner (subst (λ x. HasSpare tree x at over rest free_leaves free_inner) (sym same) spares.spare)
    (λ c. absent (Contains-permutation (from ∷ keys_of rest) (keys_of whole) to (IsPermutation-sym _ _ spares.keys) (other_among to from (keys_of rest) c))) in
    let cut = subst (λ x. StaysOutside tree old x) (sym same) spares.others in
    record {
      rest = keys_of rest;
      were = spares.keys;
      after = more.after;
      keys = more.keys;
      lawful = more.lawful;
      others = record { size = more.others.size ∙ cut.size; others = λ i out. more.others.others i out ∙ cut.others i out };
    }

replaced_leaf : {tree : Tree} {n : ℕ} → FitsTree tree n → (old middle new free_leaves free_inner : List ℕ) (from to at : ℕ) → length old ≡ n → (path : List Frame) → IsTree tree old (Some (plug path (Leaf at from))) free_leaves free_inner → GoesBy from 0 path → MovesLeaf tree (over_of tree.root path) at to old middle new → ¬ Contains (keys_of (plug path (Leaf at from))) to → Replaces tree from to (Some (plug path (Leaf at from))) free_leaves free_inner old new
replaced_leaf fits old middle new free_leaves free_inner from to at size [] lawful goes moves absent = replaced_only fits old new free_leaves free_inner from to at size lawful moves
replaced_leaf {tree} fits old middle new free_leaves free_inner from to at size (OnZeros over bit beside ∷ path) lawful goes moves absent =
    let open_up = opened old tree.root (OnZeros over bit beside ∷ path) (Leaf at from) lawful.rooted.0 lawful.rooted.1 in
    let link = ap (λ x. slice_index old x) (let sum : over + 3 - 0 ≡ over + 3 = omega arith in sum) ∙ open_up.0.1 in
    replaced_beside old (slice_set old (slot_of tree.root path) (link_of beside)) middle new free_leaves free_inner from to at over (plug (OnZeros over bit beside ∷ path) (Leaf at from)) (plug path beside)
    (spares_leaf fits old path (OnZeros over bit beside) free_leaves free_inner from at size lawful goes) (moves.0 ∙ ap (λ v. slice_set old (slot_of tree.root path) v) link) moves.1 absent
replaced_leaf {tree} fits old middle new free_leaves free_inner from to at size (OnOnes over bit beside ∷ path) lawful goes moves absent =
    let open_up = opened old tree.root (OnOnes over bit beside ∷ path) (Leaf at from) lawful.rooted.0 lawful.rooted.1 in
    let link = ap (λ x. slice_index old x) (let sum : over + 3 - 1 ≡ over + 2 = omega arith in sum) ∙ open_up.0.1 in
    replaced_beside old (slice_set old (slot_of tree.root path) (link_of beside)) middle new free_leaves free_inner from to at over (plug (OnOnes over bit beside ∷ path) (Leaf at from)) (plug path beside)
    (spares_leaf fits old path (OnOnes over bit beside) free_leaves free_inner from at size lawful goes) (moves.0 ∙ ap (λ v. slice_set old (slot_of tree.root path) v) link) moves.1 absent

replaced : {tree : Tree} {n : ℕ} → FitsTree tree n → (old middle new free_leaves free_inner : List ℕ) (from to : ℕ) → length old ≡ n → (path : List Frame) (rest : Shape) → EndsBelow 0 rest → IsTree tree old (Some (plug path rest)) free_leaves free_inner → GoesBy from 0 path → reached_key from rest ≡ from → MovesLeaf tree (over_of tree.root path) (link_of rest) to old middle new → ¬ Contains (keys_of (plug path rest)) to → Replaces tree from to (Some (plug path rest)) free_leaves free_inner old new
replaced fits old middle new free_leaves free_inner from to size path (Fork at bit zeros ones) ends lawful goes same moves absent = absurd (omega (arith, ends))
replaced {tree} fits old middle new free_leaves free_inner from to size path (Leaf at k) ends lawful goes same moves absent =
    subst (λ x. Replaces tree from to (Some (plug path (Leaf at x))) free_leaves free_inner old new) (sym same)
    (replaced_leaf fits old middle new free_leaves free_inner from to at size path (subst (λ x. IsTree tree old (Some (plug path (Leaf at x))) free_leaves free_inner) same lawful) goes moves
    (subst (λ x. ¬ Contains (keys_of (plug path (Leaf at x))) to) same absent))

there_in : {tree : Tree} {n : ℕ} {from to : ℕ} {near : NearestLeaf} {old new : List ℕ} (middle : List ℕ) → FitsTree tree n → length old ≡ n → LeadsTo tree from old near → near.key ≡ from → MovesLeaf tree near.trail.last.over near.trail.last.link to old middle new → (shape : Option Shape) (free_leaves free_inner : List ℕ) → IsTree tree old shape free_leaves free_inner → ¬ Contains (keys_in shape) to → Replaces tree from to shape free_leaves free_inner old new
there_in middle fits size leads same moves None free_leaves free_inner lawful absent = absurd (leads.some lawful.rooted)
there_in {tree} {n} {from} {to} {near} {old} {new} middle fits size leads same moves (Some shape) free_leaves free_inner lawful absent =
    let there = tree_in shape lawful in
    let reached = (leads.walk shape there).last in
    let itself : reached_key from reached.passes.part ≡ from = sym (near_key shape there leads ∙ ap (λ s. reached_key from s) reached.passes.is ∙ reach_along from 0 reached.passes.path reached.passes.part reached.passes.steps) ∙ same in
    subst (λ s. Replaces tree from to (Some s) free_leaves free_inner old new) (sym reached.passes.is)
    (replaced fits old middle new free_leaves free_inner from to size reached.passes.path reached.passes.part reached.ends (subst (λ s. IsTree tree old (Some s) free_leaves free_inner) reached.passes.is lawful) reached.passes.steps itself
    (subst (λ x. MovesLeaf tree (over_of tree.root reached.passes.path) x to old middle new) (ap (λ (p : TreePosition). p.link) reached.passes.at) (subst (λ o. MovesLeaf tree o near.trail.last.link to old middle new) (ap (λ (p : TreePosition). p.over) reached.passes.at) moves))
    (subst (λ s. ¬ Contains (keys_of s) to) reached.passes.is absent))

key_in : {tree : Tree} {old free_leaves free_inner : List ℕ} {from : ℕ} {near : NearestLeaf} → LeadsTo tree from old near → near.key ≡ from → (shape : Option Shape) → IsTree tree old shape free_leaves free_inner → Contains (keys_in shape) from
key_in leads same None lawful = absurd (leads.some lawful.rooted)
key_in {from = from} leads same (Some shape) lawful = subst (λ y. Contains (keys_of shape) y) (sym (near_key shape (tree_in shape lawful) leads) ∙ same) (reach_in from shape)

-- the first key was there
pub replaces_there : {tree : Tree} {n : ℕ} {from to : ℕ} {near : NearestLeaf} {old new : List ℕ} (middle : List ℕ) → FitsTree tree n → length old ≡ n → LeadsTo tree from old near → near.key ≡ from → MovesLeaf tree near.trail.last.over near.trail.last.link to old middle new → ReplacesAll tree from to old new tt
replaces_there middle fits size leads same moves = λ shape free_leaves free_inner lawful.
    ((λ none. absurd (none (key_in leads same shape lawful))), λ there absent. there_in middle fits size leads same moves shape free_leaves free_inner lawful absent)

-- it was not
pub replaces_absent : {tree : Tree} {words : List ℕ} {from to : ℕ} → RemovesAll tree from words words false → ReplacesAll tree from to words words tt
replaces_absent removes = λ shape free_leaves free_inner lawful. ((λ none. refl), λ there absent. absurd ((removes shape free_leaves free_inner lawful).0 there))
