-- The two pools of a tree stay where the words of the other change.
use Rattle.std.proofs.Common.{◌≡◌, ◌≢◌, ℕ, ◌+◌, ◌<◌, ◌≤◌, inl, inr, List, [], ◌∷◌, Option, Some, None, slice_index, refl, sym, ◌∙◌, subst, arith}
use Rattle.std.proofs.lemmas.Bool.{cases_eq}
use Rattle.record_heap.specs.declared.pool.Pool.{Pool}
use Rattle.record_heap.specs.Changes.{ChangesOnly}
use Rattle.record_heap.specs.Pool.{AreApart, FitsPool, Gives, IsPool, IsRecord, Takes}
use Rattle.record_heap.proofs.Frames.{IsOutsidePool, pool_stays, same_pool}
use Rattle.record_heap.proofs.Pools.{free_records}
use Rattle.record_heap.proofs.Records.{records_apart}
use Rattle.tree_index.specs.declared.tree.Tree.{Tree}
use Rattle.tree_index.specs.Tree.{FitsTree, IsBeside}

abbrev Chosen : {A : Type 0} → Option A → Type 0
Chosen None = ⊥
Chosen (Some x) = Unit {0}

pub none_is_not : {A : Type 0} {x : A} → Some x ≡ None → ⊥
none_is_not e = subst (λ o. Chosen o) e tt

-- nothing was free
pub none_free : (pool : Pool) (taken old new : List ℕ) (free : List ℕ) → Takes pool free taken None old new → (free ≡ []) × (new ≡ old)
none_free pool taken old new [] takes = (refl, takes.1)
none_free pool taken old new (at ∷ free) takes = absurd (none_is_not (sym takes.0))

pub no_first : {pool : Pool} {array taken : List ℕ} (free : List ℕ) (first : ℕ) → first ≡ slice_index array pool.base → (IsRecord pool first → ⊥) → IsPool pool array free taken → free ≡ []
no_first [] first read none lawful = refl
no_first {pool} (at ∷ free) first read none lawful = absurd (none (subst (IsRecord pool) (sym (read ∙ lawful.links.0)) (free_records lawful).0))

pub no_free : {tree : Tree} {n : ℕ} {array taken : List ℕ} (first : ℕ) → FitsTree tree n → (free : List ℕ) → first ≡ slice_index array tree.inner.base → IsRecord tree.inner first → IsPool tree.inner array free taken → free ≡ [] → ⊥
no_free {tree} {array = array} {taken} first fits free read there lawful none =
    let empty : IsPool tree.inner array [] taken = subst (λ f. IsPool tree.inner array f taken) none lawful in
    omega (arith, fits.inner.not_at_zero 0 (subst (IsRecord tree.inner) (read ∙ empty.links) there))

-- ---- words outside a pool

-- each word of some that lie beside the pool
pub beside_outside : {pool : Pool} {p n i : ℕ} → IsBeside pool p n → 2 ≤ pool.size → (k : ℕ) → k < n → i ≡ p + k → IsOutsidePool pool i
beside_outside beside wide k small is = record {
  first = omega (arith, beside.header, small, is);
  live = omega (arith, beside.header, small, is);
  links = λ x r. omega (arith, beside.records x r, wide, small, is);
}

-- each word of a record but its link
pub record_outside : {pool : Pool} {n at i : ℕ} → FitsPool pool n → IsRecord pool at → (k : ℕ) → k < pool.size → k ≢ 1 → i ≡ at + k → IsOutsidePool pool i
record_outside {at = at} fits there k small other is = record {
  first = omega (arith, fits.apart at there, small, is);
  live = omega (arith, fits.apart at there, small, is);
  links = λ x r same. elim (cases_eq x at) [ inl e ↦ other (omega (arith, same, e, is)) | inr differ ↦ omega (arith, records_apart r there differ, fits.size, small, is, same) ];
}

apart_other : (p m q n : ℕ) → AreApart p m q n → AreApart q n p m
apart_other p m q n apart = elim apart [ inl before ↦ inr before | inr behind ↦ inl behind ]

-- the header and the records of the leaves lie beside the inner records' pool
pub leaf_header_beside : {tree : Tree} {n : ℕ} → FitsTree tree n → IsBeside tree.inner tree.leaves.base 2
leaf_header_beside {tree} fits = record {
  header = apart_other tree.leaves.base 2 tree.inner.base 2 fits.headers.header;
  records = λ x r. apart_other tree.leaves.base 2 x tree.inner.size (fits.records x r).header;
}

pub leaf_beside : {tree : Tree} {n : ℕ} → FitsTree tree n → (at : ℕ) → IsRecord tree.leaves at → IsBeside tree.inner at tree.leaves.size
leaf_beside {tree} fits at there = record {
  header = apart_other at tree.leaves.size tree.inner.base 2 (fits.headers.records at there);
  records = λ x r. apart_other at tree.leaves.size x tree.inner.size ((fits.records x r).records at there);
}

-- ---- a pool stays where the header of another one changes, beside it

pub headed_stays : {other : Pool} {base : ℕ} {free others old new : List ℕ} → IsBeside other base 2 → 2 ≤ other.size → ChangesOnly (base ∷ (base + 1) ∷ []) old new → IsPool other old free others → IsPool other new free others
headed_stays {base = base} beside wide changes lawful =
    pool_stays (same_pool {words = base ∷ (base + 1) ∷ []} (beside_outside beside wide 0 (omega arith) (omega arith), (beside_outside beside wide 1 (omega arith) refl, tt)) changes) lawful

-- and a record of it is given back, which lies beside as well
pub given_stays : {pool other : Pool} {at : ℕ} {freed taken free others old new : List ℕ} → Gives pool at freed taken old new → IsBeside other pool.base 2 → IsBeside other at pool.size → 2 ≤ pool.size → 2 ≤ other.size → IsPool other old free others → IsPool other new free others
given_stays {pool} {at = at} gives beside within pool_wide wide lawful =
    pool_stays (same_pool {words = (at + 1) ∷ pool.base ∷ (pool.base + 1) ∷ []}
    (beside_outside within wide 1 (omega (arith, pool_wide)) refl, (beside_outside beside wide 0 (omega arith) (omega arith), (beside_outside beside wide 1 (omega arith) refl, tt))) gives.changes) lawful

-- taking a leaf leaves the inner records as they were
pub inner_stays : {tree : Tree} {n : ℕ} {free_inner inner old new : List ℕ} → FitsTree tree n → (leaf : ℕ) (leaves free : List ℕ) → Takes tree.leaves free leaves (Some leaf) old new → IsPool tree.inner old free_inner inner → IsPool tree.inner new free_inner inner
inner_stays fits leaf leaves [] takes lawful = absurd (none_is_not takes.0)
inner_stays fits leaf leaves (at ∷ free) takes lawful = headed_stays (leaf_header_beside fits) fits.inner.size takes.2 lawful
