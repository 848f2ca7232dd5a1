-- What `insert` found and did, in a lawful tree.
use Rattle.std.proofs.Common.{◌≡◌, ◌≢◌, ℕ, ◌+◌, ◌-◌, ◌/◌, ◌^◌, ◌<◌, inl, inr, List, [], ◌∷◌, length, Contains, Option, Some, None, unwrap_or, slice_index, slice_set, refl, sym, ap, ◌∙◌, subst, arith}
use Rattle.record_heap.specs.declared.pool.Pool.{Pool}
use Rattle.record_heap.specs.Changes.{ChangesOnly}
use Rattle.record_heap.specs.Pool.{IsPool, Takes}
use Rattle.tree_index.specs.declared.tree.NearestLeaf.{NearestLeaf}
use Rattle.tree_index.specs.declared.tree.TreePosition.{TreePosition}
use Rattle.tree_index.specs.declared.tree.Tree.{Tree}
use Rattle.tree_index.specs.declared.tree_put.TreePut.{TreePut}
use Rattle.tree_index.specs.declared.tree_put.TreePut.TheVariants.{There, Full, Stored}
use Rattle.tree_index.specs.Linking.{PutsBeside, PutsBesideAll, StoresBeside, linked_beside}
use Rattle.tree_index.specs.Shape.{Shape, bit_of, forks_of, keys_in, keys_of, leaves_of, link_of}
use Rattle.tree_index.specs.Tree.{FitsTree, Inserts, InsertsAll, IsRooted, IsTree, Stores}
use Rattle.tree_index.specs.Path.{Frame, GoesBy, plug, slot_of}
use Rattle.tree_index.specs.Walk.{EndsBelow, LeadsTo, Reaches}
use Rattle.tree_index.proofs.Found.{IsPlaced, agrees_above, differs_here, near_key, tree_in}
use Rattle.tree_index.proofs.Frees.{headed_stays, inner_stays, none_is_not}
use Rattle.tree_index.proofs.Stored.{stores_ones, stores_zeros}
use Rattle.tree_index.proofs.Shapes.{bit_small, reached_key, reach_in, reach_there}
use Rattle.tree_index.proofs.Walks.{bit_cases}

-- a record was taken
pub record Took (pool : Pool) (free taken : List ℕ) (at : ℕ) (old new : List ℕ) : Type 0 where
  pub left : List ℕ
  pub first : free ≡ at ∷ left
  pub lawful : IsPool pool new left (at ∷ taken)
  pub changes : ChangesOnly (pool.base ∷ (pool.base + 1) ∷ []) old new

pub took : (pool : Pool) (taken : List ℕ) (at : ℕ) (old new free : List ℕ) → Takes pool free taken (Some at) old new → Took pool free taken at old new
took pool taken at old new [] takes = absurd (none_is_not takes.0)
took pool taken at old new (x ∷ free) takes =
    let same : x ≡ at = sym (ap (λ o. unwrap_or o 0) takes.0) in
    record { left = free; first = ap (λ y. y ∷ free) same; lawful = subst (λ y. IsPool pool new free (y ∷ taken)) same takes.1; changes = takes.2 }

-- With a leaf and an inner record taken, which are linked at the position; all words but the headers' stand as before the taking:
pub stored_from : {tree : Tree} {n : ℕ} → FitsTree tree n → (old second new : List ℕ) (path : List Frame) (rest : Shape) (free_leaves free_inner left_leaves left_inner : List ℕ) (key d leaf fork : ℕ) (position : TreePosition) → length old ≡ n → length second ≡ n → d < 64 → IsRooted old tree.root (Some (plug path rest)) → position.slot ≡ slot_of tree.root path → position.link ≡ link_of rest → GoesBy key (d + 1) path → EndsBelow (d + 1) rest → key / 2 ^ (d + 1) ≡ reached_key key rest / 2 ^ (d + 1) → key / 2 ^ d ≢ reached_key key rest / 2 ^ d
    → IsPool tree.leaves second left_leaves (leaf ∷ leaves_of (plug path rest)) → IsPool tree.inner second left_inner (fork ∷ forks_of (plug path rest))
    → ((i : ℕ) → i ≢ tree.leaves.base → i ≢ tree.leaves.base + 1 → i ≢ tree.inner.base → i ≢ tree.inner.base + 1 → slice_index second i ≡ slice_index old i)
    → free_leaves ≡ leaf ∷ left_leaves → free_inner ≡ fork ∷ left_inner → new ≡ linked_beside key d leaf fork position second → Stores tree key (Some (plug path rest)) free_leaves free_inner old new
stored_from {tree} {n} fits old second new path rest free_leaves free_inner left_leaves left_inner key d leaf fork position old_size size small rooted slot link goes ends above differ leaves inner took_both took_leaf took_inner wrote =
    let put : ℕ → ℕ → List ℕ = λ x y. slice_set (slice_set (slice_set (slice_set (slice_set second leaf key) fork d) x leaf) y position.link) position.slot fork in
    elim (bit_cases (bit_of key d) (bit_small key d)) [
      | inl none ↦ stores_zeros fits old second new path rest free_leaves free_inner left_leaves left_inner key d leaf fork 2 3 position.slot position.link rooted leaves inner took_both old_size size slot (omega arith) (omega arith) (omega arith) (omega arith) (omega arith)
          (wrote ∙ ap (λ x. put x (fork + 3 - bit_of key d)) (let sum : fork + 2 + bit_of key d ≡ fork + 2 = omega (arith, none) in sum) ∙ ap (λ y. put (fork + 2) y) (let sum : fork + 3 - bit_of key d ≡ fork + 3 = omega (arith, none) in sum))
          small goes ends above differ link took_leaf took_inner none refl refl
      | inr one_bit ↦ stores_ones fits old second new path rest free_leaves free_inner left_leaves left_inner key d leaf fork 3 2 position.slot position.link rooted leaves inner took_both old_size size slot (omega arith) (omega arith) (omega arith) (omega arith) (omega arith)
          (wrote ∙ ap (λ x. put x (fork + 3 - bit_of key d)) (let sum : fork + 2 + bit_of key d ≡ fork + 3 = omega (arith, one_bit) in sum) ∙ ap (λ y. put (fork + 3) y) (let sum : fork + 3 - bit_of key d ≡ fork + 2 = omega (arith, one_bit) in sum))
          small goes ends above differ link took_leaf took_inner one_bit refl refl
    ]

stored : {tree : Tree} {n : ℕ} → FitsTree tree n → (old new : List ℕ) (path : List Frame) (rest : Shape) (free_leaves free_inner : List ℕ) (key d : ℕ) (position : TreePosition) → length old ≡ n → d < 64 → IsTree tree old (Some (plug path rest)) free_leaves free_inner → position.slot ≡ slot_of tree.root path → position.link ≡ link_of rest → GoesBy key (d + 1) path → EndsBelow (d + 1) rest → key / 2 ^ (d + 1) ≡ reached_key key rest / 2 ^ (d + 1) → key / 2 ^ d ≢ reached_key key rest / 2 ^ d
    → StoresBeside tree key d position free_leaves (leaves_of (plug path rest)) free_inner (forks_of (plug path rest)) old new → Stores tree key (Some (plug path rest)) free_leaves free_inner old new
stored {tree} {n} fits old new path rest free_leaves free_inner key d position size small lawful slot link goes ends above differ g =
    let one = took tree.leaves (leaves_of (plug path rest)) g.leaf old g.first free_leaves g.takes_leaf in
    let two = took tree.inner (forks_of (plug path rest)) g.fork g.first g.second free_inner (g.takes_inner (inner_stays fits g.leaf (leaves_of (plug path rest)) free_leaves g.takes_leaf lawful.inner)) in
    stored_from fits old g.second new path rest free_leaves free_inner one.left two.left key d g.leaf g.fork position size (two.changes.size ∙ one.changes.size ∙ size) small lawful.rooted slot link goes ends above differ
    (headed_stays fits.headers fits.leaves.size two.changes one.lawful) two.lawful (λ i a b c e. two.changes.others i (c, (e, tt)) ∙ one.changes.others i (a, (b, tt))) one.first two.first g.wrote

-- the key was there
there_in : {tree : Tree} {words free_leaves free_inner : List ℕ} {key : ℕ} {near : NearestLeaf} (shape : Option Shape) → IsTree tree words shape free_leaves free_inner → LeadsTo tree key words near → near.key ≡ key → Contains (keys_in shape) key
there_in None lawful leads same = absurd (leads.some lawful.rooted)
there_in {key = key} (Some shape) lawful leads same =
    subst (λ y. Contains (keys_of shape) y) (sym (near_key shape (tree_in shape lawful) leads) ∙ same) (reach_in key shape)

pub inserts_there : {tree : Tree} {words : List ℕ} {key : ℕ} {near : NearestLeaf} → LeadsTo tree key words near → near.key ≡ key → InsertsAll tree key words words There
inserts_there leads same = λ shape free_leaves free_inner lawful. (there_in shape lawful leads same, refl)

-- what `put_beside` did
module _ {tree : Tree} {old : List ℕ} {key d n : ℕ} {near : NearestLeaf} {again : TreePosition} (fits : FitsTree tree n) (place : IsPlaced tree key d near again n old) (new : List ℕ) where
  whole_inserts : (shape : Shape) (free_leaves free_inner : List ℕ) → IsTree tree old (Some shape) free_leaves free_inner → (put : TreePut) → PutsBeside tree key d again free_leaves (leaves_of shape) free_inner (forks_of shape) put old new → (reached : Reaches tree key (d + 1) old shape again) → Inserts tree key (Some shape) free_leaves free_inner put old new
  whole_inserts shape free_leaves free_inner lawful There done reached = absurd done
  whole_inserts shape free_leaves free_inner lawful Full done reached = (
    (λ c. place.differs (ap (λ y. y / 2 ^ d) (sym (reach_there key 64 shape lawful.rooted.2 c) ∙ sym (near_key shape (tree_in shape lawful) place.leads)))),
    elim done.0 [ inl none ↦ inl none | inr none ↦ inr ((λ e. none_is_not e), none) ],
    done.1,
  )
  whole_inserts shape free_leaves free_inner lawful Stored done reached =
      let there = tree_in shape lawful in
      subst (λ s. Stores tree key (Some s) free_leaves free_inner old new) (sym reached.passes.is)
      (stored fits old new reached.passes.path reached.passes.part free_leaves free_inner key d again place.size place.small (subst (λ s. IsTree tree old (Some s) free_leaves free_inner) reached.passes.is lawful)
      (ap (λ (p : TreePosition). p.slot) reached.passes.at) (ap (λ (p : TreePosition). p.link) reached.passes.at) reached.passes.steps reached.ends (agrees_above place shape there reached) (differs_here place shape there reached)
      (subst (λ s. StoresBeside tree key d again free_leaves (leaves_of s) free_inner (forks_of s) old new) reached.passes.is done))

  beside_in : (shape : Option Shape) (free_leaves free_inner : List ℕ) → IsTree tree old shape free_leaves free_inner → (put : TreePut) → PutsBesideAll tree key d again old new put → Inserts tree key shape free_leaves free_inner put old new
  beside_in None free_leaves free_inner lawful put puts = absurd (place.leads.some lawful.rooted)
  beside_in (Some shape) free_leaves free_inner lawful put puts = whole_inserts shape free_leaves free_inner lawful put (puts free_leaves (leaves_of shape) free_inner (forks_of shape) lawful.leaves lawful.inner) (place.walk shape (tree_in shape lawful))

  pub inserts_beside : (put : TreePut) → PutsBesideAll tree key d again old new put → InsertsAll tree key old new put
  inserts_beside put puts = λ shape free_leaves free_inner lawful. beside_in shape free_leaves free_inner lawful put puts
