-- The first wrong word of a table is one, and there is none where nothing is wrong.
use Rattle.std.proofs.Common.{◌≡◌, ◌≢◌, ◌⊎◌, inl, inr, ℕ, zero, suc, ◌+◌, ◌<◌, List, [], ◌∷◌, ◌++◌, length, All, AllPairs, Contains, slice_index, get_or, refl, sym, ap, ◌∙◌, subst, arith}
use Rattle.std.proofs.lemmas.Bool.{cases_order}
use Rattle.std.proofs.lemmas.List.{append-nil, drop_all}
use Rattle.std.proofs.lemmas.List.Elements.{Contains-get_or}
use Rattle.record_heap.specs.Pool.{IsRecord}
use Rattle.hash_table.specs.declared.table.Table.{Table}
use Rattle.hash_table.specs.Table.{link_after, records_in}
use Rattle.hash_table.specs.Walk.{IsPath}
use Rattle.tatp_check.specs.Faults.{FitsNew, IsWrongNext, IsInChains, IsFirstWrong}
use Rattle.tatp_check.specs.Pools.{IsWrongPool}
use Rattle.tatp_check.specs.Walk.{IsSound, HasMetChains, IsWhole}
use Rattle.tatp_check.proofs.Compared.{pairs_across, path_in_path, ChainsGoOn, next_of, front_same, goes_further, goes_longer}
use Rattle.tatp_check.proofs.OnePool.{first_contained, one_in_pool, right_pool}

module _ (content : ℕ → ℕ → Type 0) (table : Table) (array : List ℕ) (none : ¬ IsRecord table.pool 0) where
  -- ---- chains

  -- a record that comes next in another walk is right
  fits_new : {bucket at : ℕ} (met : List ℕ) → IsSound content table array bucket at → All (λ x. slice_index array x ≢ slice_index array at) met → (offset : ℕ) → offset < table.pool.size → FitsNew content table array bucket met at offset
  fits_new met sound new zero below = (sound.fits zero below, new)
  fits_new met sound new (suc k) below = sound.fits (suc k) below

  -- where another walk goes on, nothing is wrong
  pub not_wrong : (cs : List (List ℕ)) (p met : List ℕ) → AllPairs (λ x y. slice_index array x ≢ slice_index array y) met → ChainsGoOn content table array none cs p met → (word : ℕ)
      → ¬ IsWrongNext content table array (length cs) (records_in cs ++ p) (link_after (table.at + length cs) p) word
  not_wrong cs p met differ on word = by on.next
    where
      by : (next_of content table array none cs p ≡ 0) ⊎ ((rest : List ℕ) × (on.behind ≡ next_of content table array none cs p ∷ rest) × IsSound content table array (length cs) (next_of content table array none cs p))
          → ¬ IsWrongNext content table array (length cs) (records_in cs ++ p) (link_after (table.at + length cs) p) word
      by (inl end) (inl wrong) = wrong.0.leads end
      by (inl end) (inr wrong) = none (subst (IsRecord table.pool) end wrong.new.place)
      by (inr more) wrong =
          let at = next_of content table array none cs p in
          let all : AllPairs (λ x y. slice_index array x ≢ slice_index array y) ((records_in cs ++ p) ++ at ∷ more.0) =
          subst (AllPairs (λ x y. slice_index array x ≢ slice_index array y)) (on.all ∙ ap (λ l. (records_in cs ++ p) ++ l) more.1) differ in
          let apart : (x : ℕ) → Contains (records_in cs ++ p) x → slice_index array x ≢ slice_index array at =
          λ x c. pairs_across (λ x y. slice_index array x ≢ slice_index array y) (records_in cs ++ p) (at ∷ more.0) x at all c (first_contained at more.0) in
          let new : All (λ x. slice_index array x ≢ slice_index array at) (records_in cs ++ p) = λ k d below. apart (get_or (records_in cs ++ p) k d) (Contains-get_or (records_in cs ++ p) k d below) in
          let unmet : ¬ Contains (records_in cs ++ p) at = λ c. apart at c refl in
          elim wrong [
            | inl link ↦ link.0.astray (record { place = more.2.place; unmet = unmet })
            | inr bad ↦ bad.wrong (fits_new (records_in cs ++ p) more.2 new bad.offset bad.inside)
          ]

  -- what is wrong next is one word
  one_next : (bucket link v w : ℕ) (met : List ℕ) → IsWrongNext content table array bucket met link v → IsWrongNext content table array bucket met link w → v ≡ w
  one_next bucket link v w met (inl a) (inl b) = a.1 ∙ sym b.1
  one_next bucket link v w met (inl a) (inr b) = absurd (a.0.astray b.new)
  one_next bucket link v w met (inr a) (inl b) = absurd (b.0.astray a.new)
  one_next bucket link v w met (inr a) (inr b) = elim (cases_order a.offset b.offset) [
    | inl same ↦ a.word_is ∙ ap (λ o. slice_index array link + o) same ∙ sym b.word_is
    | inr order ↦ elim order [
      | inl before ↦ absurd (a.wrong (b.before a.offset before))
      | inr behind ↦ absurd (b.wrong (a.before b.offset behind))
    ]
  ]

  -- the way on from two walks that met other records
  one_in_chains : (v w : ℕ) → IsInChains content table array v → IsInChains content table array w → v ≡ w
  one_in_chains v w a b = elim (cases_order (length a.chains) (length b.chains)) [
    | inl same ↦
        let chains : a.chains ≡ b.chains = sym (front_same content table array none a.chains a.part b.chains b.part a.met b.met (omega (arith, same)) ∙ ap (λ l. a.chains ++ l) (drop_all (length a.chains) b.chains (omega (arith, same))) ∙ append-nil a.chains) in
        elim (path_in_path array (table.at + length a.chains) a.part b.part a.met.path (subst (λ n. IsPath array (table.at + n) b.part) (sym same) b.met.path)) [
          | inl part ↦ one_next (length b.chains) (link_after (table.at + length b.chains) b.part) v w (records_in b.chains ++ b.part)
              (subst (λ p. IsWrongNext content table array (length b.chains) (records_in b.chains ++ p) (link_after (table.at + length b.chains) p) v) part
              (subst (λ cs. IsWrongNext content table array (length cs) (records_in cs ++ a.part) (link_after (table.at + length cs) a.part) v) chains a.next)) b.next
          | inr other ↦ elim other [
            | inl longer ↦ absurd (not_wrong a.chains a.part _ b.met.keys_differ (goes_longer content table array none a.chains a.part b.chains b.part a.met b.met chains longer.0 longer.1) v a.next)
            | inr shorter ↦ absurd (not_wrong b.chains b.part _ a.met.keys_differ (goes_longer content table array none b.chains b.part a.chains a.part b.met a.met (sym chains) shorter.0
                (shorter.1 ∙ ap (λ n. b.part ++ slice_index array (link_after (table.at + n) b.part) ∷ shorter.0) same)) w b.next)
          ]
        ]
    | inr order ↦ elim order [
      | inl fewer ↦ absurd (not_wrong a.chains a.part _ b.met.keys_differ (goes_further content table array none a.chains a.part b.chains b.part a.met b.met fewer) v a.next)
      | inr more ↦ absurd (not_wrong b.chains b.part _ a.met.keys_differ (goes_further content table array none b.chains b.part a.chains a.part b.met a.met more) w b.next)
    ]
  ]

  -- where all chains were followed, nothing is wrong in them
  pub right_chains : (chains : List (List ℕ)) → HasMetChains content table array chains → (v : ℕ) → ¬ IsInChains content table array v
  right_chains chains whole v a =
      not_wrong a.chains a.part _ whole.met.keys_differ (goes_further content table array none a.chains a.part chains [] a.met whole.met (omega (arith, a.bucket, whole.all))) v a.next

  -- the chains are one list
  pub one_chains : (cs ds : List (List ℕ)) → HasMetChains content table array cs → HasMetChains content table array ds → cs ≡ ds
  one_chains cs ds first second =
      let same : length cs ≡ length ds = first.all ∙ sym second.all in
      sym (front_same content table array none cs [] ds [] first.met second.met (omega (arith, same)) ∙ ap (λ l. cs ++ l) (drop_all (length cs) ds (omega (arith, same))) ∙ append-nil cs)

  -- ---- the whole table

  -- what is wrong behind the chains, whatever walk met them
  same_pool : (cs ds : List (List ℕ)) (w : ℕ) → HasMetChains content table array cs → HasMetChains content table array ds → IsWrongPool table.pool array (records_in cs) w → IsWrongPool table.pool array (records_in ds) w
  same_pool cs ds w a b wrong = subst (λ l. IsWrongPool table.pool array (records_in l) w) (one_chains cs ds a b) wrong

  -- the first wrong word is one
  pub one_wrong : (v w : ℕ) → IsFirstWrong content table array v → IsFirstWrong content table array w → v ≡ w
  one_wrong v w (inl a) (inl b) = one_in_chains v w a b
  one_wrong v w (inl a) (inr b) = absurd (right_chains b.chains b.met v a)
  one_wrong v w (inr a) (inl b) = absurd (right_chains a.chains a.met w b)
  one_wrong v w (inr a) (inr b) = one_in_pool table.pool array none (records_in b.chains) v w (same_pool a.chains b.chains v a.met b.met a.wrong) b.wrong

  -- where nothing is wrong there is none
  pub none_wrong : (cs : List (List ℕ)) (xs : List ℕ) → IsWhole content table array cs xs → (w : ℕ) → ¬ IsFirstWrong content table array w
  none_wrong cs xs whole w (inl b) = right_chains cs whole.met w b
  none_wrong cs xs whole w (inr b) = right_pool table.pool array none (records_in cs) xs whole.pool w (same_pool b.chains cs w b.met whole.met b.wrong)
