-- What becomes of a subscriber's row and of an index where the location changes.
use Rattle.std.proofs.Common.{◌≡◌, ◌≢◌, ℕ, ◌+◌, ◌*◌, ◌%◌, ◌^◌, ◌<◌, ◌≤◌, inl, inr, List, [], ◌∷◌, length, length-set, Contains, Some, slice_index, slice_set, refl, sym, ap, ◌∙◌, subst, arith, get_or-set_other}
use Rattle.std.proofs.lemmas.List.Elements.{Contains-append_cases}
use Rattle.std.proofs.lemmas.List.Sorted.{Contains-permutation, IsPermutation-cons, IsPermutation-sym, IsPermutation-trans}
use Rattle.dude_base.specs.declared.sizes.Sizes.{Sizes}
use Rattle.record_heap.specs.Pool.{IsRecord}
use Rattle.tatp_model.specs.Ranges.{IsLocation}
use Rattle.tree_index.specs.declared.tree.Tree.{Tree}
use Rattle.tree_index.specs.Shape.{keys_in}
use Rattle.tree_index.specs.Tree.{ReplacesAll}
use Rattle.tree_index.proofs.Shapes.{only_key}
use Rattle.tatp_layout.specs.Decoded.{held_word}
use Rattle.tatp_layout.specs.Index.{HasKeys, MovesKey, location_key}
use Rattle.tatp_layout.specs.Layout.{index_tree, leaf_base, subscriber_table}
use Rattle.tatp_layout.specs.RecordCalls.{MovesLocation}
use Rattle.tatp_layout.specs.Records.{HoldsRow, subscriber_form}
use Rattle.tatp_layout.proofs.Found.{first_among}
use Rattle.tatp_layout.proofs.Indexes.{before_index, index_stays, number_before}
use Rattle.tatp_layout.proofs.Permuted.{permuted_rest}
use Rattle.tatp_layout.proofs.Places.{subscriber_range}
use Rattle.tatp_layout.proofs.Stays.{holds_same}
use Rattle.tatp_layout.proofs.Stored.{vlr_set}
use Rattle.tatp_layout.proofs.Tables.{subscriber_room}

-- ---- one key in the place of another

module _ {tree : Tree} {from to : ℕ} where
  -- another one comes in its place
  pub moves_key : {old new : List ℕ} → from ≢ to → ReplacesAll tree from to old new tt → MovesKey tree from to old new tt
  moves_key {old} {new} differ replaces = λ others h none.
      let there = Contains-permutation (from ∷ others) (keys_in h.shape) from (IsPermutation-sym _ _ h.same) (first_among from others) in
      let absent : ¬ Contains (keys_in h.shape) to = λ c. elim (Contains-append_cases (from ∷ []) others to (Contains-permutation (keys_in h.shape) (from ∷ others) to h.same c)) [
        | inl first ↦ differ (sym (only_key to from first))
        | inr other ↦ none other
      ] in
      let r = (replaces h.shape h.free_leaves h.free_inner h.lawful).1 there absent in
      let same = permuted_rest from r.rest others (IsPermutation-trans _ _ _ (IsPermutation-sym _ _ r.were) h.same) in (
        record {
          shape = Some r.after;
          free_leaves = h.free_leaves;
          free_inner = h.free_inner;
          lawful = r.lawful;
          same = IsPermutation-trans _ _ _ (IsPermutation-sym _ _ r.keys) (IsPermutation-cons to _ _ same);
        },
        r.others,
      )

  -- it stays
  pub key_stays : {words : List ℕ} → from ≡ to → MovesKey tree from to words words tt
  key_stays {words} same = λ others h none. (subst (λ k. HasKeys tree words (k ∷ others)) same h, record { size = refl; others = λ i out. refl })

-- ---- the location

small_key : (key vlr s_id was id : ℕ) → was ≡ vlr → id ≡ s_id → vlr < 2 ^ 32 → s_id < 2 ^ 32 → key ≡ was % 2 ^ 32 * 2 ^ 32 + id % 2 ^ 32 → key ≡ vlr * 2 ^ 32 + s_id
small_key key vlr s_id was id same_vlr same_id vlr_small id_small is = omega arith

module _ {s : Sizes} {at vlr : ℕ} {old : List ℕ} (inside : at + 6 < length old) where
  -- without an index its word is written
  pub moves_alone : {new : List ℕ} → s.index ≡ 0 → new ≡ slice_set old (at + 6) vlr → MovesLocation s at vlr old new tt
  moves_alone {new} bare is = λ row others range holds has none. record {
    size = ap length is ∙ length-set old (at + 6) vlr;
    tables = λ i below. ap (λ l. slice_index l i) is;
    holds = subst (λ l. HoldsRow subscriber_form l at (record row { vlr = vlr })) (sym is) (vlr_set vlr inside holds);
    keys = λ some. absurd (some bare);
  }

  -- with one the key is moved then
  pub moves_indexed : {mid new : List ℕ} (from to id was : ℕ) → s.index ≢ 0 → IsLocation vlr → IsRecord (subscriber_table s).pool at → id ≡ slice_index old at → was ≡ slice_index old (at + 6)
      → mid ≡ slice_set old (at + 6) vlr → from ≡ was % 2 ^ 32 * 2 ^ 32 + id % 2 ^ 32 → to ≡ vlr % 2 ^ 32 * 2 ^ 32 + id % 2 ^ 32 → MovesKey (index_tree s) from to mid new tt → MovesLocation s at vlr old new tt
  moves_indexed {mid} {new} from to id was indexed small r id_is was_is mid_is from_is to_is moves = λ row others range holds has none.
      let moved = record row { vlr = vlr } in
      let before : at + 8 ≤ leaf_base s = omega (arith, (subscriber_range s).record_to at r, number_before s) in
      let old_vlr : slice_index old (at + 6) ≡ row.vlr = held_word 4 (at + 6) holds (omega arith) (omega arith) in
      let from_key : from ≡ location_key row = small_key from row.vlr row.s_id was id (was_is ∙ old_vlr) (id_is ∙ holds.key) range.vlr range.s_id.1 from_is in
      let to_key : to ≡ location_key moved = small_key to vlr row.s_id vlr id refl (id_is ∙ holds.key) small range.s_id.1 to_is in
      let kept : HasKeys (index_tree s) mid (location_key row ∷ others) = index_stays s (location_key row ∷ others) (λ i from. ap (λ l. slice_index l i) mid_is ∙ get_or-set_other old (at + 6) i vlr 0 (omega (arith, from, before))) has indexed in
      let done = moves others (subst (λ k. HasKeys (index_tree s) mid (k ∷ others)) (sym from_key) kept) (λ c. none (subst (λ k. Contains others k) to_key c)) in
      record {
        size = done.1.size ∙ (ap length mid_is ∙ length-set old (at + 6) vlr);
        tables = λ i below. done.1.others i (before_index s i below) ∙ ap (λ l. slice_index l i) mid_is;
        holds = holds_same (subscriber_room s) (record { words = λ i low high other. done.1.others i (before_index s i (omega (arith, high, before))) })
            (subst (λ l. HoldsRow subscriber_form l at moved) (sym mid_is) (vlr_set vlr inside holds));
        keys = λ some. subst (λ k. HasKeys (index_tree s) new (k ∷ others)) to_key done.0;
      }
