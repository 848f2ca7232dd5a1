-- Arrays that are overwritten by writes.
use Rattle.std.proofs.Common.{◌≡◌, ◌≢◌, ◌==◌, ℕ, ◌<◌, true, List, [], ◌∷◌, ◌++◌, length, length-set, length-take-le, take, All, slice_get, get_or, ◌+◌, map, slice_index, slice_set, Some, None, is_some, unwrap_or, if◌then◌else◌, refl, sym, ap, ◌∙◌, get_or-set_same, get_or-set_other, inl, inr, arith}
use Rattle.std.proofs.lemmas.Bool.{cases_eq, cases_Bool}
use Rattle.std.proofs.lemmas.List.{set-set, set_comm, get_or-take, get_or_default, take_more}
use Rattle.std.proofs.lemmas.Option.{slice_get_within, get_or_from_slice_get}
use Rattle.std.proofs.lemmas.Grind.{common_steps}
use Rattle.dude_base.specs.declared.write.Write.{Write}
use Rattle.dude_base.proofs.WriteLists.{None-from_is_some, written_absent}
use Rattle.dude_base.specs.Records.{RedoBundle, overwritten_by_all}
use Rattle.dude_base.specs.Writes.{written, put_write, overwritten, HasDistinctPlaces}

pub length-overwritten : (ws : List Write) (array : List ℕ) → length (overwritten ws array) ≡ length array
length-overwritten [] array = refl
length-overwritten (w ∷ ws) array = length-set (overwritten ws array) w.at w.value ∙ length-overwritten ws array

-- a word has the value that is written to it, or else its own
pub index-overwritten : (ws : List Write) (array : List ℕ) (i : ℕ) → i < length array → slice_index (overwritten ws array) i ≡ unwrap_or (written ws i) (slice_index array i)
index-overwritten [] array i lt = refl
index-overwritten (w ∷ ws) array i lt =
    let rest = index-overwritten ws array i lt in
    let long = length-overwritten ws array in
    grind (arith, common_steps, cases_eq w.at i, get_or-set_same (overwritten ws array) i w.value 0, get_or-set_other (overwritten ws array) w.at i w.value 0)

module _ (w : Write) where
  overwritten-new : (ws : List Write) (array : List ℕ) → written ws w.at ≡ None → overwritten (ws ++ w ∷ []) array ≡ slice_set (overwritten ws array) w.at w.value
  overwritten-new [] array new = refl
  overwritten-new (v ∷ vs) array new =
      let other : v.at ≢ w.at = λ same. grind (arith, common_steps) in
      let rest = overwritten-new vs array (grind (arith, common_steps)) in
      ap (λ a. slice_set a v.at v.value) rest ∙ set_comm (overwritten vs array) w.at v.at w.value v.value (λ e. other (sym e))

  -- under one more write of w it does not matter whether w renewed the list
  overwritten-renewed_under : (ws : List Write) (array : List ℕ) → slice_set (overwritten (map (λ v. if v.at == w.at then w else v) ws) array) w.at w.value ≡ slice_set (overwritten ws array) w.at w.value
  overwritten-renewed_under [] array = refl
  overwritten-renewed_under (v ∷ vs) array =
      let rest = overwritten-renewed_under vs array in
      grind (arith, common_steps, cases_eq v.at w.at, set-set {A = ℕ}, set_comm {A = ℕ})

  overwritten-renewed : (ws : List Write) (array : List ℕ) → is_some (written ws w.at) ≡ true → overwritten (map (λ v. if v.at == w.at then w else v) ws) array ≡ slice_set (overwritten ws array) w.at w.value
  overwritten-renewed [] array there = cc
  overwritten-renewed (v ∷ vs) array there =
      let under = overwritten-renewed_under vs array in
      elim (cases_eq v.at w.at) [
        | inl same ↦ grind (arith, common_steps, set-set {A = ℕ})
        | inr other ↦
            let rest = overwritten-renewed vs array (grind (arith, common_steps)) in
            grind (arith, common_steps, set_comm {A = ℕ})
      ]

  written-new : (ws : List Write) (i : ℕ) → written ws w.at ≡ None → written (ws ++ w ∷ []) i ≡ (if w.at == i then Some w.value else written ws i)
  written-new [] i new = refl
  written-new (v ∷ vs) i new =
      let other : v.at ≢ w.at = λ same. grind (arith, common_steps) in
      let rest = written-new vs i (grind (arith, common_steps)) in
      grind (arith, common_steps, cases_eq v.at i, cases_eq w.at i)

  written-renewed_other : (ws : List Write) (i : ℕ) → w.at ≢ i → written (map (λ v. if v.at == w.at then w else v) ws) i ≡ written ws i
  written-renewed_other [] i apart = refl
  written-renewed_other (v ∷ vs) i apart =
      let rest = written-renewed_other vs i apart in
      grind (arith, common_steps, cases_eq v.at w.at)

  written-renewed_same : (ws : List Write) → is_some (written ws w.at) ≡ true → written (map (λ v. if v.at == w.at then w else v) ws) w.at ≡ Some w.value
  written-renewed_same [] there = cc
  written-renewed_same (v ∷ vs) there = elim (cases_eq v.at w.at) [
    | inl same ↦ grind (arith, common_steps)
    | inr other ↦
        let rest = written-renewed_same vs (grind (arith, common_steps)) in
        grind (arith, common_steps)
  ]

-- one more write overwrites one word more
pub overwritten-put : (ws : List Write) (w : Write) (array : List ℕ) → overwritten (put_write ws w) array ≡ slice_set (overwritten ws array) w.at w.value
overwritten-put ws w array = elim (cases_Bool (is_some (written ws w.at))) [
  | inl there ↦ rw there (overwritten-renewed w ws array there)
  | inr new ↦ rw new (overwritten-new w ws array (None-from_is_some _ new))
]

-- what is written after one more write
pub written-put : (ws : List Write) (w : Write) (i : ℕ) → written (put_write ws w) i ≡ (if w.at == i then Some w.value else written ws i)
written-put ws w i = elim (cases_Bool (is_some (written ws w.at))) [
  | inl there ↦ elim (cases_eq w.at i) [
    | inl same ↦ let renewed = written-renewed_same w ws there in rw there (grind (arith, common_steps))
    | inr apart ↦ let renewed = written-renewed_other w ws i apart in rw there (grind (arith, common_steps))
  ]
  | inr new ↦ rw new (written-new w ws i (None-from_is_some _ new))
]

-- the first k + 1 writes of a list: the first k, and one of another word
pub copied_more : (ws : List Write) (k : ℕ) (w : Write) → HasDistinctPlaces ws → slice_get ws k ≡ Some w
    → (length (take k ws) ≡ k) × (k < length ws) × All (λ v. v.at ≢ w.at) (take k ws) × (take (k + 1) ws ≡ take k ws ++ w ∷ [])
copied_more ws k w distinct there =
    let lt : k < length ws = slice_get_within ws k w there in
    let is : get_or ws k w ≡ w = get_or_from_slice_get ws k w w there in
    let long : length (take k ws) ≡ k = length-take-le k ws (omega arith) in
    let apart : All (λ v. v.at ≢ w.at) (take k ws) = λ i d below.
    let small : i < k = omega arith in
    λ same. distinct i k d small lt (sym (ap (λ (v : Write). v.at) (get_or-take k ws i d small)) ∙ same ∙ sym (ap (λ (v : Write). v.at) (get_or_default ws k d w lt ∙ is))) in
    (long, lt, apart, take_more ws k w lt ∙ ap (λ v. take k ws ++ v ∷ []) is)

-- the first k + 1 writes, where the writes are of different words
pub overwritten-more : (ws : List Write) (array : List ℕ) (k : ℕ) (w : Write) → HasDistinctPlaces ws → slice_get ws k ≡ Some w → overwritten (take (k + 1) ws) array ≡ slice_set (overwritten (take k ws) array) w.at w.value
overwritten-more ws array k w distinct there =
    let more = copied_more ws k w distinct there in
    ap (λ vs. overwritten vs array) more.3 ∙ overwritten-new w (take k ws) array (written_absent (take k ws) w.at more.2)

pub length-overwritten_by_all : (rs : List RedoBundle) (array : List ℕ) → length (overwritten_by_all rs array) ≡ length array
length-overwritten_by_all [] array = refl
length-overwritten_by_all (r ∷ rs) array = length-overwritten_by_all rs (overwritten r.writes array) ∙ length-overwritten r.writes array
