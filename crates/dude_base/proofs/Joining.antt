-- Writes put behind others, as a bundle takes those of a record.
use Rattle.std.proofs.Common.{length-take-le, get_or-take, take-append-drop, ◌≡◌, ◌≢◌, ◌==◌, ℕ, ◌+◌, ◌<◌, ◌≤◌, suc, true, List, [], ◌∷◌, ◌++◌, length, take, drop, get_or, slice_get, slice_set, Option, Some, None, is_some, if◌then◌else◌, All, refl, sym, ap, ◌∙◌, subst, inl, inr, arith}
use Rattle.std.specs.Option.{option_or}
use Rattle.std.proofs.lemmas.Bool.{cases_eq}
use Rattle.std.proofs.lemmas.List.{set_comm, length-map, length_push}
use Rattle.std.proofs.lemmas.Grind.{common_steps}
use Rattle.dude_base.specs.declared.write.Write.{Write}
use Rattle.dude_base.specs.Writes.{written, put_write, put_all, overwritten, HasDistinctPlaces}
use Rattle.dude_base.specs.Joins.{LawOfJoining}
use Rattle.dude_base.proofs.WriteLists.{written_absent, length-put_write}
use Rattle.dude_base.proofs.Overwriting.{written-put, overwritten-put, copied_more}

-- the first write of a list is of another word than the others
first_apart : (v : Write) (vs : List Write) → HasDistinctPlaces (v ∷ vs) → All (λ u. u.at ≢ v.at) vs
first_apart v vs distinct k d lt same = distinct 0 (suc k) d (omega arith) (omega arith) (sym same)

rest_distinct : (v : Write) (vs : List Write) → HasDistinctPlaces (v ∷ vs) → HasDistinctPlaces vs
rest_distinct v vs distinct i j d ij jl = distinct (suc i) (suc j) d (omega arith) (omega arith)

pub put_all-append : (ws us vs : List Write) → put_all ws (us ++ vs) ≡ put_all (put_all ws us) vs
put_all-append ws [] vs = refl
put_all-append ws (u ∷ us) vs = put_all-append (put_write ws u) us vs

-- no fewer writes behind more
pub put_all-longer : (ws vs : List Write) → length ws ≤ length (put_all ws vs)
put_all-longer ws [] = omega arith
put_all-longer ws (v ∷ vs) = let one = length-put_write ws v in let rest = put_all-longer (put_write ws v) vs in omega (arith, one.0)

pub written-put_all : (ws vs : List Write) (i : ℕ) → HasDistinctPlaces vs → written (put_all ws vs) i ≡ option_or (written vs i) (written ws i)
written-put_all ws [] i distinct = refl
written-put_all ws (v ∷ vs) i distinct =
    let rest = written-put_all (put_write ws v) vs i (rest_distinct v vs distinct) in
    let one = written-put ws v i in
    elim (cases_eq v.at i) [
      | inl same ↦
          let none : written vs i ≡ None = subst (λ (k : ℕ). written vs k ≡ None) same (written_absent vs v.at (first_apart v vs distinct)) in
          grind (arith, common_steps)
      | inr apart ↦ grind (arith, common_steps)
    ]

-- a word that isn't written may be set before or behind
overwritten-set : (us : List Write) (array : List ℕ) (i x : ℕ) → All (λ u. u.at ≢ i) us → overwritten us (slice_set array i x) ≡ slice_set (overwritten us array) i x
overwritten-set [] array i x apart = refl
overwritten-set (u ∷ us) array i x apart =
    let other : u.at ≢ i = apart 0 u (omega arith) in
    ap (λ a. slice_set a u.at u.value) (overwritten-set us array i x (λ k d lt. apart (suc k) d (omega arith))) ∙ set_comm (overwritten us array) i u.at x u.value (λ e. other (sym e))

pub overwritten-put_all : (ws vs : List Write) (array : List ℕ) → HasDistinctPlaces vs → overwritten (put_all ws vs) array ≡ overwritten vs (overwritten ws array)
overwritten-put_all ws [] array distinct = refl
overwritten-put_all ws (v ∷ vs) array distinct =
    overwritten-put_all (put_write ws v) vs array (rest_distinct v vs distinct)
    ∙ (ap (overwritten vs) (overwritten-put ws v array) ∙ overwritten-set vs (overwritten ws array) v.at v.value (first_apart v vs distinct))

-- the first k writes of a list are of different words
distinct_take : (ws : List Write) (k : ℕ) → k ≤ length ws → HasDistinctPlaces ws → HasDistinctPlaces (take k ws)
distinct_take ws k few distinct i j d ij jl =
    let long : length (take k ws) ≡ k = length-take-le k ws few in
    let first : get_or (take k ws) i d ≡ get_or ws i d = get_or-take k ws i d (omega arith) in
    let second : get_or (take k ws) j d ≡ get_or ws j d = get_or-take k ws j d (omega arith) in
    λ same. distinct i j d ij (omega arith) (ap (λ (v : Write). v.at) (sym first) ∙ (same ∙ ap (λ (v : Write). v.at) second))

length-put_new : (ws : List Write) (v : Write) → written ws v.at ≡ None → length (put_write ws v) ≡ length ws + 1
length-put_new ws v none = rw none (length_push ws v)

length-put_old : (ws : List Write) (v : Write) → is_some (written ws v.at) ≡ true → length (put_write ws v) ≡ length ws
length-put_old ws v there = rw there (length-map ws (λ (u : Write). if u.at == v.at then v else u))

-- One more write of a list, behind the first k.
module _ (ws vs : List Write) (k : ℕ) (v : Write) (distinct : HasDistinctPlaces vs) (there : slice_get vs k ≡ Some v) where
  more : (length (take k vs) ≡ k) × (k < length vs) × All (λ u. u.at ≢ v.at) (take k vs) × (take (k + 1) vs ≡ take k vs ++ v ∷ [])
  more = copied_more vs k v distinct there

  -- the bundle's writes with it
  pub put_next : put_all ws (take (k + 1) vs) ≡ put_write (put_all ws (take k vs)) v
  put_next = ap (put_all ws) more.3 ∙ put_all-append ws (take k vs) (v ∷ [])

  -- its word was written by those that came before exactly where the bundle writes it
  pub same_word : written (put_all ws (take k vs)) v.at ≡ written ws v.at
  same_word =
      let none : written (take k vs) v.at ≡ None = written_absent (take k vs) v.at more.2 in
      written-put_all ws (take k vs) v.at (distinct_take vs k (let below = more.1 in omega arith) distinct) ∙ ap (λ (o : Option ℕ). option_or o (written ws v.at)) none

  pub place_more : written ws v.at ≡ None → length (put_all ws (take (k + 1) vs)) ≡ length (put_all ws (take k vs)) + 1
  place_more none = ap length put_next ∙ length-put_new (put_all ws (take k vs)) v (same_word ∙ none)

  pub place_same : is_some (written ws v.at) ≡ true → length (put_all ws (take (k + 1) vs)) ≡ length (put_all ws (take k vs))
  place_same some = ap length put_next ∙ length-put_old (put_all ws (take k vs)) v (ap is_some same_word ∙ some)

  -- there are no more of them than behind all
  pub few_so_far : length (put_all ws (take (k + 1) vs)) ≤ length (put_all ws vs)
  few_so_far = subst (λ (us : List Write). length (put_all ws (take (k + 1) vs)) ≤ length (put_all ws us)) (take-append-drop (k + 1) vs)
      (subst (λ (n : ℕ). length (put_all ws (take (k + 1) vs)) ≤ n) (sym (ap length (put_all-append ws (take (k + 1) vs) (drop (k + 1) vs)))) (put_all-longer (put_all ws (take (k + 1) vs)) (drop (k + 1) vs)))

-- the length of the whole is no more than that of both
pub length-put_all : (ws vs : List Write) → length (put_all ws vs) ≤ length ws + length vs
length-put_all ws [] = omega arith
length-put_all ws (v ∷ vs) = let one = length-put_write ws v in let rest = length-put_all (put_write ws v) vs in omega (arith, one.1)

pub joining_law : LawOfJoining
joining_law = record {
  writes = λ b r i distinct. written-put_all b.writes r.writes i distinct;
  effect = λ b r array distinct. overwritten-put_all b.writes r.writes array distinct;
}
