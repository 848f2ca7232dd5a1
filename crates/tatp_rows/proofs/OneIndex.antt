-- The words of an index whose keys were inserted one after another are all known.
use Rattle.std.proofs.Common.{◌≡◌, ◌≢◌, ℕ, zero, suc, ◌+◌, ◌-◌, ◌<◌, ◌≤◌, ◌⊎◌, inl, inr, List, slice_index, sym, ap, ◌∙◌, subst, arith}
use Rattle.std.proofs.lemmas.Bool.{cases_eq, cases_lt}
use Rattle.record_heap.specs.declared.pool.Pool.{Pool}
use Rattle.record_heap.specs.Pool.{AreApart, IsPool}
use Rattle.tree_index.specs.declared.tree.Tree.{Tree}
use Rattle.tree_index.specs.Tree.{IsTree}
use Rattle.tree_index.proofs.Unread.{rooted_or_unread}
use Rattle.tatp_rows.specs.Filled.{free_from, record_at}
use Rattle.tatp_rows.specs.Indexed.{IsIndexed, IsUnusedFrom, LinksNext}
use Rattle.tatp_rows.proofs.Finished.{linked_head}
use Rattle.tatp_rows.proofs.Indexed.{grown_same}

-- a word of a header is the same in both arrays
header_or_apart : {pool : Pool} {a b free taken : List ℕ} → IsPool pool a free taken → IsPool pool b free taken → (i : ℕ) → (slice_index a i ≡ slice_index b i) ⊎ AreApart pool.base 2 i 1
header_or_apart {pool} {a} {b} {free} la lb i =
    elim (cases_eq i pool.base) [
      | inl first ↦ inl (ap (slice_index a) first ∙ linked_head a b pool.base free la.links lb.links ∙ ap (slice_index b) (sym first))
      | inr not_first ↦ elim (cases_eq i (pool.base + 1)) [
        | inl live ↦ inl (ap (slice_index a) live ∙ la.live ∙ sym lb.live ∙ ap (slice_index b) (sym live))
        | inr not_live ↦ elim (cases_lt i pool.base) [ inl before ↦ inr (inr (omega arith)) | inr from ↦ inr (inl (omega arith)) ]
      ]
    ]

-- and so is a link of one of the first m records
link_or_none : (pool : Pool) (a b : List ℕ) → LinksNext pool a → LinksNext pool b → (i m : ℕ) → m ≤ pool.count → (slice_index a i ≡ slice_index b i) ⊎ ((k : ℕ) → k < m → i ≢ record_at pool k + 1)
link_or_none pool a b la lb i zero few = inr (λ k below. absurd (omega arith))
link_or_none pool a b la lb i (suc m) few =
    elim (link_or_none pool a b la lb i m (omega arith)) [
      | inl told ↦ inl told
      | inr none ↦ elim (cases_eq i (record_at pool m + 1)) [
        | inl same ↦ inl (ap (slice_index a) same ∙ la m (omega arith) ∙ sym (lb m (omega arith)) ∙ ap (slice_index b) (sym same))
        | inr other ↦ inr (λ k below same. elim (cases_eq k m) [
          | inl last ↦ other (same ∙ ap (λ j. record_at pool j + 1) last)
          | inr before ↦ none k (omega arith) same
        ])
      ]
    ]

pub indexed_same : {tree : Tree} {key_at : ℕ → ℕ} {n : ℕ} {a b : List ℕ} → IsIndexed tree key_at n a → IsIndexed tree key_at n b → (i : ℕ) → tree.leaves.base ≤ i → slice_index a i ≡ slice_index b i
indexed_same {tree} {key_at} {n} {a} {b} ia ib i from =
    let shapes = grown_same tree key_at n ib.shape ia.shape ib.grown ia.grown in
    let lb : IsTree tree b ia.shape (free_from tree.leaves n) (free_from tree.inner (n - 1)) = subst (λ s. IsTree tree b s (free_from tree.leaves n) (free_from tree.inner (n - 1))) shapes ib.lawful in
    let zeros : (i : ℕ) → IsUnusedFrom tree ia.shape i → slice_index b i ≡ 0 = subst (λ s. (i : ℕ) → IsUnusedFrom tree s i → slice_index b i ≡ 0) shapes ib.zeros in
    elim (header_or_apart ia.lawful.leaves lb.leaves i) [
      | inl told ↦ told
      | inr leaves ↦ elim (header_or_apart ia.lawful.inner lb.inner i) [
        | inl told ↦ told
        | inr inner ↦ elim (rooted_or_unread a b tree.root ia.shape i ia.lawful.rooted lb.rooted) [
          | inl told ↦ told
          | inr unread ↦ elim (link_or_none tree.leaves a b ia.leaf_links ib.leaf_links i tree.leaves.count (omega arith)) [
            | inl told ↦ told
            | inr leaf_links ↦ elim (link_or_none tree.inner a b ia.inner_links ib.inner_links i tree.inner.count (omega arith)) [
              | inl told ↦ told
              | inr inner_links ↦
                  let unused : IsUnusedFrom tree ia.shape i = record {
                    from = from;
                    unread = record { leaves = leaves; inner = inner; root = unread.0; below = unread.1 };
                    leaf_links = leaf_links;
                    inner_links = inner_links;
                  } in
                  ia.zeros i unused ∙ sym (zeros i unused)
            ]
          ]
        ]
      ]
    ]
