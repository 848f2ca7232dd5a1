-- One row more in a table that is being filled.
use Rattle.std.proofs.Common.{◌≡◌, ◌≢◌, ℕ, ◌+◌, ◌%◌, ◌<◌, inl, inr, cond, eqb, List, [], ◌∷◌, ◌++◌, length, length-append, map, get_or, slice_index, sym, ap, subst, ◌∙◌, arith}
use Rattle.std.proofs.lemmas.Bool.{cases_eq, eq-eqb, ne_eqb}
use Rattle.std.proofs.lemmas.List.{length-map, map_push, get_or_append_left, get_or_push}
use Rattle.std.specs.List.{AllByRecursion}
use Rattle.record_heap.specs.Links.{Linked}
use Rattle.record_heap.specs.Pool.{AreApart}
use Rattle.record_heap.proofs.Arrays.{linked_from}
use Rattle.hash_table.specs.declared.table.Table.{Table}
use Rattle.hash_table.specs.Table.{FitsTable}
use Rattle.tatp_rows.specs.Filled.{record_at, chain_for}
use Rattle.tatp_rows.specs.Filling.{key_of, HasEntry, IsApart, IsFilling}
use Rattle.tatp_rows.proofs.ChainLists.{is_record, record_before, chain_more, IsChained, chain_each}

-- The words of a row stand in the record at this index, which is the first of its bucket's chain now; before the chain's
-- others, and no other word changed.
pub record IsPlaced (table : Table) (index : ℕ) (entry : List ℕ) (a c : List ℕ) : Type 0 where
  pub size : length c ≡ length a
  pub held : HasEntry c (record_at table.pool index) entry
  pub link : slice_index c (record_at table.pool index + 1) ≡ slice_index a (table.at + key_of entry % table.buckets)
  pub first : slice_index c (table.at + key_of entry % table.buckets) ≡ record_at table.pool index
  pub others : (i : ℕ) → i ≢ table.at + key_of entry % table.buckets → AreApart (record_at table.pool index) (1 + length entry) i 1 → slice_index c i ≡ slice_index a i

-- what each element gives
pub each_weaker : {P Q : ℕ → Type 0} (xs : List ℕ) → ((x : ℕ) → P x → Q x) → AllByRecursion P xs → AllByRecursion Q xs
each_weaker [] step all = tt
each_weaker (x ∷ xs) step all = (step x all.0, each_weaker xs step all.1)

module _ {table : Table} {index : ℕ} {entry a c initial : List ℕ} (entries : List (List ℕ)) (fits : FitsTable table (length a)) (below : index < table.pool.count) (short : length entry < table.pool.size) (is : length entries ≡ index)
    (placed : IsPlaced table index entry a c) (old : IsFilling table entries initial a) where
  abbrev word : ℕ
  word = table.at + key_of entry % table.buckets

  abbrev after : List (List ℕ)
  after = entries ++ entry ∷ []

  home : key_of entry % table.buckets < table.buckets
  home = omega (arith, fits.buckets)

  -- the words of an earlier record stay
  earlier : (k d : ℕ) → k < length entries → d < table.pool.size → slice_index c (record_at table.pool k + d) ≡ slice_index a (record_at table.pool k + d)
  earlier k d under small =
      let apart = record_before table.pool k index (omega (arith, is)) in
      let links = fits.records (record_at table.pool k) (is_record (omega (arith, is, below))) in
      placed.others (record_at table.pool k + d) (omega (arith, links, home, small)) (inr (omega (arith, apart, small)))

  -- its row and the earlier ones
  before_last : (k : ℕ) → k < length entries → get_or after k [] ≡ get_or entries k []
  before_last k under = get_or_append_left entries (entry ∷ []) [] k under

  last : get_or after index [] ≡ entry
  last = get_or_push entries entry [] index is

  count : length after ≡ index + 1
  count = length-append entries (entry ∷ []) ∙ omega (arith, is)

  held : (k : ℕ) → k < length after → HasEntry c (record_at table.pool k) (get_or after k [])
  held k under =
      elim (cases_eq k index) [
        | inl same ↦ subst (λ j. HasEntry c (record_at table.pool j) (get_or after j [])) (sym same) (subst (HasEntry c (record_at table.pool index)) (sym last) placed.held)
        | inr other ↦
            let first : k < length entries = omega (arith, under, count, other, is) in
            let was = old.held k first in
            let room = old.room k first in
            let base : record_at table.pool k + 0 ≡ record_at table.pool k = omega arith in
            subst (HasEntry c (record_at table.pool k)) (sym (before_last k first)) (record {
              key = ap (slice_index c) (sym base) ∙ earlier k 0 first (omega (arith, room)) ∙ ap (slice_index a) base ∙ was.key;
              fields = λ j from small.
                  let place : record_at table.pool k + (1 + j) ≡ record_at table.pool k + 1 + j = omega arith in
                  ap (slice_index c) (sym place) ∙ earlier k (1 + j) first (omega (arith, small, room)) ∙ ap (slice_index a) place ∙ was.fields j from small;
            })
      ]

  -- the chains before it
  abbrev keys : List ℕ
  keys = map key_of entries

  same_links : (bucket : ℕ) → AllByRecursion (λ x. slice_index c (x + 1) ≡ slice_index a (x + 1)) (chain_for table keys bucket)
  same_links bucket = each_weaker {P = IsChained table keys bucket} {Q = λ x. slice_index c (x + 1) ≡ slice_index a (x + 1)} (chain_for table keys bucket)
      (λ x (chained : IsChained table keys bucket x).
      let under : chained.index < length entries = omega (arith, chained.below, length-map entries key_of) in
      ap (λ y. slice_index c (y + 1)) chained.is ∙ earlier chained.index 1 under (omega (arith, fits.pool.size)) ∙ ap (λ y. slice_index a (y + 1)) (sym chained.is))
      (chain_each table keys bucket)

  new_chain : (bucket : ℕ) → chain_for table (map key_of after) bucket ≡ cond (eqb (key_of entry % table.buckets) bucket) (record_at table.pool (length keys) ∷ chain_for table keys bucket) (chain_for table keys bucket)
  new_chain bucket = ap (λ l. chain_for table l bucket) (map_push key_of entries entry) ∙ chain_more table keys (key_of entry) bucket

  chains : (bucket : ℕ) → bucket < table.buckets → Linked c (table.at + bucket) (chain_for table (map key_of after) bucket)
  chains bucket inside =
      let linked = old.chains bucket inside in
      let chain = chain_for table keys bucket in
      subst (Linked c (table.at + bucket)) (sym (new_chain bucket)) (elim (cases_eq (key_of entry % table.buckets) bucket) [
        | inl same ↦
            let here : record_at table.pool (length keys) ≡ record_at table.pool index = ap (record_at table.pool) (length-map entries key_of ∙ is) in
            let place : table.at + bucket ≡ word = omega (arith, same) in
            subst (λ b. Linked c (table.at + bucket) (cond b (record_at table.pool (length keys) ∷ chain) chain)) (sym (eq-eqb _ _ same)) (
              ap (slice_index c) place ∙ placed.first ∙ sym here,
              linked_from a c (table.at + bucket) (record_at table.pool (length keys) + 1) chain (ap (λ x. slice_index c (x + 1)) here ∙ placed.link ∙ ap (slice_index a) (sym place)) (same_links bucket) linked,
            )
        | inr differ ↦
            let out : AreApart (record_at table.pool index) (1 + length entry) (table.at + bucket) 1 = elim (fits.records (record_at table.pool index) (is_record below)) [
              | inl links_first ↦ inr (omega (arith, links_first, inside))
              | inr record_first ↦ inl (omega (arith, record_first, short))
            ] in
            subst (λ b. Linked c (table.at + bucket) (cond b (record_at table.pool (length keys) ∷ chain) chain)) (sym (ne_eqb _ _ differ))
            (linked_from a c (table.at + bucket) (table.at + bucket) chain (placed.others (table.at + bucket) (λ same. differ (omega (arith, same))) out) (same_links bucket) linked)
      ])

  others : (i : ℕ) → IsApart table after i → slice_index c i ≡ slice_index initial i
  others i apart =
      let mine : AreApart (record_at table.pool index) (1 + length entry) i 1 = subst (λ e. AreApart (record_at table.pool index) (1 + length e) i 1) last (apart.taken index (omega (arith, count))) in
      placed.others i (omega (arith, apart.links, home)) mine
      ∙ old.others i (record {
        links = apart.links;
        taken = λ k under. subst (λ e. AreApart (record_at table.pool k) (1 + length e) i 1) (before_last k under) (apart.taken k (omega (arith, under, count, is)));
      })

  room : (k : ℕ) → k < length after → length (get_or after k []) < table.pool.size
  room k under =
      elim (cases_eq k index) [
        | inl same ↦ omega (arith, ap (λ j. length (get_or after j [])) same, ap length last, short)
        | inr other ↦ omega (arith, ap length (before_last k (omega (arith, under, count, other, is))), old.room k (omega (arith, under, count, other, is)))
      ]

  pub filling_more : IsFilling table (entries ++ entry ∷ []) initial c
  filling_more = record { size = placed.size ∙ old.size; room = room; held = held; chains = chains; others = others }
