-- Writes of home words, as words of the medium, and the lines that they touch.
use Rattle.std.proofs.Common.{◌≡◌, ◌≢◌, inl, inr, ⊎_elim, ℕ, suc, ◌+◌, ◌*◌, ◌/◌, ◌==◌, ◌<◌, ◌≤◌, Bool, true, false, if◌then◌else◌, List, [], ◌∷◌, ◌++◌, length, map, get_or, Option, Some, None, unwrap_or, refl, sym, ap, ◌∙◌, subst, arith, eqb-true, eq-eqb, ne_eqb, length-append}
use Rattle.std.specs.List.{AllPairs}
use Rattle.std.specs.Option.{option_to_list}
use Rattle.std.proofs.lemmas.Bool.{cases_eq}
use Rattle.std.proofs.lemmas.List.{length-map}
use Rattle.dude_base.specs.declared.sizes.Sizes.{Sizes}
use Rattle.dude_base.specs.declared.write.Write.{Write}
use Rattle.dude_base.specs.Image.{home_word}
use Rattle.dude_base.specs.Writes.{written, HasDistinctPlaces}
use Rattle.dude_base.proofs.WriteLists.{written_absent}
use Rattle.pmem_trait.specs.declared.call.Call.TheVariants.{Fence}
use Rattle.pmem_trait.specs.Words.{IsIn, newest}
use Rattle.pmem_trait.specs.Groups.{values_put, final, put_pairs, flush_lines, group_calls}
use Rattle.redo_record.specs.BackCalls.{home_writes, once_before, without_repeats, lines_touched, mark_writes, reproduce_calls}

-- rising places are different
pub rising_distinct : (ws : List Write) → AllPairs (λ v w. v.at < w.at) ws → HasDistinctPlaces ws
rising_distinct ws rising i j d ij lt same = let below : (get_or ws i d).at < (get_or ws j d).at = rising i j d ij lt in omega arith

-- nothing is put before the home
pub put_before_home : (s : Sizes) (ws : List Write) (k : ℕ) → k < home_word s 0 → values_put (home_writes s ws) k ≡ []
put_before_home s [] k below = refl
put_before_home s (w ∷ ws) k below = rw (ne_eqb k (home_word s w.at) (λ same. omega arith)) (put_before_home s ws k below)

-- a home word gets what is written there
pub put_in_home : (s : Sizes) (ws : List Write) (i : ℕ) → HasDistinctPlaces ws → values_put (home_writes s ws) (home_word s i) ≡ option_to_list (written ws i)
put_in_home s [] i distinct = refl
put_in_home s (w ∷ ws) i distinct = elim (cases_eq w.at i) [
  | inl same ↦ (
      let none : written ws i ≡ None = subst (λ (j : ℕ). written ws j ≡ None) same (written_absent ws w.at (λ k d lt e. distinct 0 (suc k) d (omega arith) (omega arith) (sym e))) in
      let rest : values_put (home_writes s ws) (home_word s i) ≡ [] = put_in_home s ws i (λ a b d ab lt. distinct (suc a) (suc b) d (omega arith) (omega arith)) ∙ ap option_to_list none in
      rw (eq-eqb (home_word s i) (home_word s w.at) (ap (home_word s) (sym same)), eq-eqb w.at i same, rest) refl)
  | inr other ↦ (
      rw (ne_eqb (home_word s i) (home_word s w.at) (λ same. other (omega arith)), ne_eqb w.at i other)
      (put_in_home s ws i (λ a b d ab lt. distinct (suc a) (suc b) d (omega arith) (omega arith))))
]

pub final_in_home : (s : Sizes) (ws : List Write) (i x : ℕ) → HasDistinctPlaces ws → final (home_writes s ws) (home_word s i) x ≡ unwrap_or (written ws i) x
final_in_home s ws i x distinct = ap (newest x) (put_in_home s ws i distinct) ∙ by (written ws i)
  where
    by : (o : Option ℕ) → newest x (option_to_list o) ≡ unwrap_or o x
    by None = refl
    by (Some y) = refl

-- Without repeats the same numbers stand there.
once_same : (x y : ℕ) (ys : List ℕ) → IsIn x (y ∷ ys) → IsIn x (once_before y ys)
once_same x y [] is = is
once_same x y (z ∷ zs) is = by (y == z) refl
  where
    by : (b : Bool) → (y == z) ≡ b → IsIn x (if b then z ∷ zs else y ∷ z ∷ zs)
    by true same = ⊎_elim (λ first. inl (first ∙ eqb-true y z same)) (λ rest. rest) is
    by false other = is

pub in_once : (x : ℕ) (xs : List ℕ) → IsIn x xs → IsIn x (without_repeats xs)
in_once x [] is = is
in_once x (y ∷ ys) (inl same) = once_same x y (without_repeats ys) (inl same)
in_once x (y ∷ ys) (inr later) = once_same x y (without_repeats ys) (inr (in_once x ys later))

once_few : (x : ℕ) (xs : List ℕ) → length (once_before x xs) ≤ length xs + 1
once_few x [] = omega arith
once_few x (y ∷ ys) = by (x == y)
  where
    by : (b : Bool) → length (if b then y ∷ ys else x ∷ y ∷ ys) ≤ length (y ∷ ys) + 1
    by true = omega arith
    by false = omega arith

pub repeats_few : (xs : List ℕ) → length (without_repeats xs) ≤ length xs
repeats_few [] = omega arith
repeats_few (x ∷ xs) = let rest = repeats_few xs in let one = once_few x (without_repeats xs) in omega arith

-- One number more at the end counts where the last one is another.
pub repeats_same : (xs : List ℕ) (x : ℕ) → without_repeats ((xs ++ x ∷ []) ++ x ∷ []) ≡ without_repeats (xs ++ x ∷ [])
repeats_same [] x = rw (eq-eqb x x refl) refl
repeats_same (y ∷ ys) x = ap (once_before y) (repeats_same ys x)

-- some number comes first where a number stands at the end
record Begins (ys : List ℕ) : Type 0 where
  first : ℕ
  rest : List ℕ
  is : ys ≡ first ∷ rest

once_begins : (x : ℕ) (ys : List ℕ) → Begins (once_before x ys)
once_begins x [] = record { first = x; rest = []; is = refl }
once_begins x (y ∷ ys) = by (x == y)
  where
    by : (b : Bool) → Begins (if b then y ∷ ys else x ∷ y ∷ ys)
    by true = record { first = y; rest = ys; is = refl }
    by false = record { first = x; rest = y ∷ ys; is = refl }

begins : (xs : List ℕ) (x : ℕ) → Begins (without_repeats (xs ++ x ∷ []))
begins [] x = record { first = x; rest = []; is = refl }
begins (y ∷ ys) x = once_begins y (without_repeats (ys ++ x ∷ []))

once_push : (y x : ℕ) (ys : List ℕ) → Begins ys → once_before y (ys ++ x ∷ []) ≡ once_before y ys ++ x ∷ []
once_push y x ys begins = rw begins.is (by (y == begins.first))
  where
    by : (b : Bool) → (if b then begins.first ∷ (begins.rest ++ x ∷ []) else y ∷ begins.first ∷ (begins.rest ++ x ∷ [])) ≡ (if b then begins.first ∷ begins.rest else y ∷ begins.first ∷ begins.rest) ++ x ∷ []
    by true = refl
    by false = refl

pub repeats_other : (xs : List ℕ) (y x : ℕ) → y ≢ x → without_repeats ((xs ++ y ∷ []) ++ x ∷ []) ≡ without_repeats (xs ++ y ∷ []) ++ x ∷ []
repeats_other [] y x other = rw (ne_eqb y x other) refl
repeats_other (z ∷ zs) y x other = ap (once_before z) (repeats_other zs y x other) ∙ once_push z x (without_repeats (zs ++ y ∷ [])) (begins zs y)

-- the line of a word that is written is touched
pub line_touched : (s : Sizes) (ws : List Write) (i v : ℕ) → written ws i ≡ Some v → IsIn (home_word s i / 8) (lines_touched (home_writes s ws))
line_touched s ws i v is = in_once (home_word s i / 8) (map (λ (w : ℕ × ℕ). w.0 / 8) (home_writes s ws)) (go ws is)
  where
    go : (ws : List Write) → written ws i ≡ Some v → IsIn (home_word s i / 8) (map (λ (w : ℕ × ℕ). w.0 / 8) (home_writes s ws))
    go [] is = absurd (cc)
    go (w ∷ ws) is = elim (cases_eq w.at i) [
      | inl same ↦ inl (ap (λ (j : ℕ). home_word s j / 8) (sym same))
      | inr other ↦ inr (go ws (rw (ne_eqb w.at i other) at is))
    ]

-- nothing but the mark is put there
pub put_beside_mark : (number k : ℕ) → k ≢ 8 → values_put (mark_writes number) k ≡ []
put_beside_mark number k other = rw (ne_eqb k 8 other) refl

-- how many calls a group makes
pub group_length : (ws : List (ℕ × ℕ)) (ls : List ℕ) → length (group_calls ws ls) ≡ length ws + length ls + 1
unfolding group_calls
group_length ws ls = length-append (put_pairs ws) (flush_lines ls ++ Fence ∷ []) ∙ (let rest = length-append (flush_lines ls) (Fence ∷ []) in let puts = puts_length ws in let flushes = flushes_length ls in omega arith)
  where
    puts_length : (ws : List (ℕ × ℕ)) → length (put_pairs ws) ≡ length ws
    puts_length [] = refl
    puts_length (w ∷ ws) = let rest = puts_length ws in omega arith

    flushes_length : (ls : List ℕ) → length (flush_lines ls) ≡ length ls
    flushes_length [] = refl
    flushes_length (l ∷ ls) = let rest = flushes_length ls in omega arith

pub reproduce_length : (s : Sizes) (ws : List Write) (number : ℕ) → length (reproduce_calls s ws number) ≤ 2 * length ws + 4
unfolding reproduce_calls
reproduce_length s ws number =
    let both = length-append (group_calls (home_writes s ws) (lines_touched (home_writes s ws))) (group_calls (mark_writes number) (1 ∷ [])) in
    let first = group_length (home_writes s ws) (lines_touched (home_writes s ws)) in
    let second = group_length (mark_writes number) (1 ∷ []) in
    let few = repeats_few (map (λ (w : ℕ × ℕ). w.0 / 8) (home_writes s ws)) in
    let pairs : length (home_writes s ws) ≡ length ws = length-map ws (λ (w : Write). (home_word s w.at, w.value)) in
    let lines : length (map (λ (w : ℕ × ℕ). w.0 / 8) (home_writes s ws)) ≡ length (home_writes s ws) = length-map (home_writes s ws) (λ (w : ℕ × ℕ). w.0 / 8) in
    omega arith
