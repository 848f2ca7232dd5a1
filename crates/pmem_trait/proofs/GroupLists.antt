-- The lists of calls of a group, call by call.
use Rattle.std.proofs.Common.{◌≡◌, ◌≢◌, ℕ, zero, suc, ◌+◌, ◌<◌, ◌==◌, Bool, true, false, if◌then◌else◌, List, [], ◌∷◌, ◌++◌, length, get_or, take, flat_map, slice_index, refl, sym, ap, ◌∙◌, arith, append_assoc, append-nil, eq-eqb, ne_eqb}
use Rattle.std.specs.List.{range_with_len, enumerate_from}
use Rattle.pmem_trait.specs.declared.call.Call.{Call}
use Rattle.pmem_trait.specs.declared.call.Call.TheVariants.{Put, Flush}
use Rattle.pmem_trait.specs.Sights.{Sight, OneCall, CallsMade}
use Rattle.pmem_trait.specs.Groups.{put_pairs, flush_lines, values_put}
use Rattle.pmem_trait.specs.Rounds.{rounds}
use Rattle.pmem_trait.proofs.Runs.{made_next}

pub length-put_pairs : (ws : List (ℕ × ℕ)) → length (put_pairs ws) ≡ length ws
length-put_pairs [] = refl
length-put_pairs (w ∷ ws) = ap suc (length-put_pairs ws)

pub length-flush_lines : (ls : List ℕ) → length (flush_lines ls) ≡ length ls
length-flush_lines [] = refl
length-flush_lines (l ∷ ls) = ap suc (length-flush_lines ls)

-- the i-th put, by the i-th write, and the i-th flush, by the i-th line
pub put_pairs_at : (ws : List (ℕ × ℕ)) (i : ℕ) (d : ℕ × ℕ) (c : Call) → i < length ws → get_or (put_pairs ws) i c ≡ Put (get_or ws i d).0 (get_or ws i d).1
put_pairs_at [] i d c below = absurd (omega arith)
put_pairs_at (w ∷ ws) zero d c below = refl
put_pairs_at (w ∷ ws) (suc i) d c below = put_pairs_at ws i d c (omega arith)

pub flush_lines_at : (ls : List ℕ) (i : ℕ) (d : ℕ) (c : Call) → i < length ls → get_or (flush_lines ls) i c ≡ Flush (get_or ls i d)
flush_lines_at [] i d c below = absurd (omega arith)
flush_lines_at (l ∷ ls) zero d c below = refl
flush_lines_at (l ∷ ls) (suc i) d c below = flush_lines_at ls i d c (omega arith)

-- two lists of writes, or of lines, one behind the other
pub put_pairs-append : (ws vs : List (ℕ × ℕ)) → put_pairs (ws ++ vs) ≡ put_pairs ws ++ put_pairs vs
put_pairs-append [] vs = refl
put_pairs-append (w ∷ ws) vs = ap (λ (l : List Call). Put w.0 w.1 ∷ l) (put_pairs-append ws vs)

pub flush_lines-append : (ls ks : List ℕ) → flush_lines (ls ++ ks) ≡ flush_lines ls ++ flush_lines ks
flush_lines-append [] ks = refl
flush_lines-append (l ∷ ls) ks = ap (λ (r : List Call). Flush l ∷ r) (flush_lines-append ls ks)

pub written-append : (ws vs : List (ℕ × ℕ)) (k : ℕ) → values_put (ws ++ vs) k ≡ values_put ws k ++ values_put vs k
written-append [] vs k = refl
written-append (w ∷ ws) vs k = one_more (k == w.0) w.1 (values_put ws k) (values_put vs k) (values_put (ws ++ vs) k) (written-append ws vs k)
  where
    one_more : (b : Bool) (v : ℕ) (xs ys zs : List ℕ) → zs ≡ xs ++ ys → (if b then v ∷ zs else zs) ≡ (if b then v ∷ xs else xs) ++ ys
    one_more true v xs ys zs is = ap (λ (l : List ℕ). v ∷ l) is
    one_more false v xs ys zs is = is

-- words put one after another from word `at` on: nothing is written elsewhere
pub words_outside : (at : ℕ) (xs : List ℕ) (i : ℕ) → ((j : ℕ) → j < length xs → i ≡ at + j → ⊥) → values_put (enumerate_from at xs) i ≡ []
words_outside at [] i other = refl
words_outside at (x ∷ xs) i other =
    let ne : i ≢ at = λ e. other 0 (omega arith) (omega arith) in
    rw (ne_eqb i at ne) (words_outside (at + 1) xs i (λ j lt is. other (suc j) (omega arith) (omega arith)))

-- and into each of them just its own value
pub words_inside : (at : ℕ) (xs : List ℕ) (j i : ℕ) → i ≡ at + j → j < length xs → values_put (enumerate_from at xs) i ≡ slice_index xs j ∷ []
words_inside at [] j i is lt = absurd (omega arith)
words_inside at (x ∷ xs) zero i is lt =
    let same : i ≡ at = omega arith in
    rw (eq-eqb i at same) (ap (λ (l : List ℕ). x ∷ l) (words_outside (at + 1) xs i (λ j below e. omega arith)))
words_inside at (x ∷ xs) (suc j) i is lt =
    let ne : i ≢ at = omega arith in
    rw (ne_eqb i at ne) (words_inside (at + 1) xs j i (omega arith) (omega arith))

-- A loop over the writes, or over the lines: one turn more.
pub puts_next : (ws : List (ℕ × ℕ)) (i : ℕ) (d w : ℕ × ℕ) {ok : Bool} {s t u : Sight} → i < length ws → get_or ws i d ≡ w
    → CallsMade (take i (put_pairs ws)) true s t → OneCall (Put w.0 w.1) ok t u → CallsMade (take (i + 1) (put_pairs ws)) ok s u
puts_next ws i d w below is made g =
    made_next (put_pairs ws) i (Put w.0 w.1) (omega (arith, length-put_pairs ws)) (put_pairs_at ws i d _ below ∙ ap (λ (v : ℕ × ℕ). Put v.0 v.1) is) made g

pub flushes_next : (ls : List ℕ) (i d line : ℕ) {ok : Bool} {s t u : Sight} → i < length ls → get_or ls i d ≡ line
    → CallsMade (take i (flush_lines ls)) true s t → OneCall (Flush line) ok t u → CallsMade (take (i + 1) (flush_lines ls)) ok s u
flushes_next ls i d line below is made g =
    made_next (flush_lines ls) i (Flush line) (omega (arith, length-flush_lines ls)) (flush_lines_at ls i d _ below ∙ ap Flush is) made g

-- A loop whose rounds put the lists of writes f a, f (a + 1), and so on.
pub flat_more : (f : ℕ → List (ℕ × ℕ)) (a n : ℕ) → flat_map f (range_with_len a (suc n)) ≡ flat_map f (range_with_len a n) ++ f (a + n)
flat_more f a zero = append-nil (f a) ∙ ap f (omega arith)
flat_more f a (suc n) =
    ap (λ (l : List (ℕ × ℕ)). f a ++ l) (flat_more f (a + 1) n ∙ ap (λ (m : ℕ). flat_map f (range_with_len (a + 1) n) ++ f m) (omega arith))
    ∙ sym (append_assoc (f a) (flat_map f (range_with_len (a + 1) n)) (f (a + suc n)))

pub rounds_puts : (f : ℕ → List (ℕ × ℕ)) (a n : ℕ) → rounds (λ i. put_pairs (f (a + i))) n ≡ put_pairs (flat_map f (range_with_len a n))
rounds_puts f a zero = refl
rounds_puts f a (suc n) =
    ap (λ (l : List Call). l ++ put_pairs (f (a + n))) (rounds_puts f a n)
    ∙ sym (ap put_pairs (flat_more f a n) ∙ put_pairs-append (flat_map f (range_with_len a n)) (f (a + n)))
