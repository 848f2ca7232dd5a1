-- The first wrong word of a pool is one, and there is none where nothing is wrong.
use Rattle.std.proofs.Common.{◌≡◌, ◌≢◌, inl, inr, ℕ, List, ◌∷◌, ◌++◌, All, AllPairs, Contains, slice_index, refl, sym, ap, ◌∙◌, subst, arith, append_assoc}
use Rattle.std.proofs.lemmas.Bool.{cases_order}
use Rattle.std.proofs.lemmas.List.Elements.{All-contains, Contains-append_right}
use Rattle.record_heap.specs.declared.pool.Pool.{Pool}
use Rattle.record_heap.specs.Pool.{IsRecord}
use Rattle.hash_table.specs.Table.{link_after}
use Rattle.tatp_check.specs.Marks.{IsNew}
use Rattle.tatp_check.specs.Pools.{HasFreeList, HasMetEach, HasMetFree, IsLost, IsWholePool, IsWrongFree, IsWrongPool}
use Rattle.tatp_check.proofs.Compared.{pairs_across, path_in_linked, path_in_path, linked_one}

pub first_contained : (x : ℕ) (xs : List ℕ) → Contains (x ∷ xs) x
first_contained x xs = (0, omega arith, refl)

module _ (pool : Pool) (array : List ℕ) (none : ¬ IsRecord pool 0) (taken : List ℕ) where
  free_some : (xs : List ℕ) → All (IsRecord pool) xs → All (λ x. x ≢ 0) xs
  free_some xs places = λ k d below same. none (subst (IsRecord pool) same (places k d below))

  -- a free record that comes next in another walk is new
  free_new : (xs : List ℕ) (x : ℕ) (rest : List ℕ) (ys : List ℕ) → HasMetFree pool array taken ys → ys ≡ xs ++ x ∷ rest → IsNew pool (taken ++ xs) x
  free_new xs x rest ys met is =
      let all : AllPairs (λ a b. a ≢ b) ((taken ++ xs) ++ x ∷ rest) = subst (AllPairs (λ a b. a ≢ b)) (ap (λ l. taken ++ l) is ∙ sym (append_assoc taken xs (x ∷ rest))) met.differ in
      record {
        place = All-contains (IsRecord pool) (xs ++ x ∷ rest) x (subst (All (IsRecord pool)) is met.places) (Contains-append_right xs (x ∷ rest) x (first_contained x rest));
        unmet = λ c. pairs_across (λ a b. a ≢ b) (taken ++ xs) (x ∷ rest) x x all c (first_contained x rest) refl;
      }

  -- a wrong link of the free list is one
  one_free : (v w : ℕ) → IsWrongFree pool array taken v → IsWrongFree pool array taken w → v ≡ w
  one_free v w a b =
      let next_a : link_after pool.base a.free ≡ v = sym a.word_is in
      let next_b : link_after pool.base b.free ≡ w = sym b.word_is in
      elim (path_in_path array pool.base a.free b.free a.met.path b.met.path) [
        | inl same ↦ a.word_is ∙ ap (link_after pool.base) same ∙ next_b
        | inr other ↦ elim other [
          | inl longer ↦ absurd (a.link.astray (free_new a.free _ longer.0 b.free b.met (longer.1 ∙ ap (λ l. a.free ++ slice_index array l ∷ longer.0) next_a)))
          | inr shorter ↦ absurd (b.link.astray (free_new b.free _ shorter.0 a.free a.met (shorter.1 ∙ ap (λ l. b.free ++ slice_index array l ∷ shorter.0) next_b)))
        ]
      ]

  -- where the free list was followed, none of its links is wrong
  right_free : (free : List ℕ) → HasFreeList pool array taken free → (v : ℕ) → ¬ IsWrongFree pool array taken v
  right_free free list v a =
      let next : link_after pool.base a.free ≡ v = sym a.word_is in
      elim (path_in_linked array pool.base a.free free (free_some a.free a.met.places) a.met.path list.ended) [
        | inl whole ↦ a.link.leads (ap (slice_index array) a.word_is ∙ whole.1)
        | inr front ↦ a.link.astray (free_new a.free _ front.0 free list.met (front.1 ∙ ap (λ l. a.free ++ slice_index array l ∷ front.0) next))
      ]

  one_list : (xs ys : List ℕ) → HasFreeList pool array taken xs → HasFreeList pool array taken ys → xs ≡ ys
  one_list xs ys first second = linked_one array pool.base xs ys (free_some xs first.met.places) (free_some ys second.met.places) first.ended second.ended

  -- where each record was met, none is lost
  right_each : (xs : List ℕ) → HasMetEach pool array taken xs → (v : ℕ) → ¬ IsLost pool array taken v
  right_each xs each v wrong = wrong.new.unmet (subst (λ l. Contains (taken ++ l) v) (one_list xs wrong.free each.list wrong.list) (each.every v wrong.new.place))

  one_lost : (v w : ℕ) → IsLost pool array taken v → IsLost pool array taken w → v ≡ w
  one_lost v w a b =
      let same = one_list a.free b.free a.list b.list in
      elim (cases_order v w) [
        | inl is ↦ is
        | inr order ↦ elim order [
          | inl less ↦ absurd (a.new.unmet (subst (λ l. Contains (taken ++ l) v) (sym same) (b.lower v a.new.place less)))
          | inr more ↦ absurd (b.new.unmet (subst (λ l. Contains (taken ++ l) w) same (a.lower w b.new.place more)))
        ]
      ]

  -- the first wrong word of the pool is one
  pub one_in_pool : (v w : ℕ) → IsWrongPool pool array taken v → IsWrongPool pool array taken w → v ≡ w
  one_in_pool v w (inl a) (inl b) = one_free v w a b
  one_in_pool v w (inl a) (inr (inl b)) = absurd (right_free b.free b.list v a)
  one_in_pool v w (inl a) (inr (inr b)) = absurd (right_free b.free b.met.list v a)
  one_in_pool v w (inr (inl a)) (inl b) = absurd (right_free a.free a.list w b)
  one_in_pool v w (inr (inl a)) (inr (inl b)) = one_lost v w a b
  one_in_pool v w (inr (inl a)) (inr (inr b)) = absurd (right_each b.free b.met v a)
  one_in_pool v w (inr (inr a)) (inl b) = absurd (right_free a.free a.met.list w b)
  one_in_pool v w (inr (inr a)) (inr (inl b)) = absurd (right_each a.free a.met w b)
  one_in_pool v w (inr (inr a)) (inr (inr b)) = a.word_is ∙ sym b.word_is

  -- where nothing is wrong there is none
  pub right_pool : (xs : List ℕ) → IsWholePool pool array taken xs → (w : ℕ) → ¬ IsWrongPool pool array taken w
  right_pool xs whole w (inl b) = right_free xs whole.met.list w b
  right_pool xs whole w (inr (inl b)) = right_each xs whole.met w b
  right_pool xs whole w (inr (inr b)) = b.differs (ap (slice_index array) b.word_is ∙ whole.count)
