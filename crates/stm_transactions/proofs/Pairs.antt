-- Lists of pairs that come of writes.
use Rattle.std.proofs.Common.{◌≡◌, ℕ, zero, suc, ◌+◌, ◌<◌, true, List, [], ◌∷◌, ◌++◌, length, get_or, drop, refl, sym, ap, ◌∙◌, inl, inr, eq-eqb, ne_eqb, arith}
use Rattle.std.specs.Prelude.{Option, Some, None, is_some, if◌then◌else◌}
use Rattle.std.specs.List.{slice_get}
use Rattle.std.proofs.lemmas.Bool.{true≢false}
use Rattle.std.proofs.lemmas.List.{length-append}
use mathlib.Core.Logic.{dite}
use native.Mathlib.Decide.{ℕ_discrete}
use Rattle.dude_base.specs.declared.write.Write.{Write}
use Rattle.dude_base.specs.Writes.{written, put_write, HasDistinctPlaces}
use Rattle.dude_base.proofs.WriteLists.{written_absent, put_absent, absent_written}
use Rattle.core_events.specs.Keyed.{find, without}
use Rattle.stm_transactions.specs.Pairs.{pairs_of, Noted}

pub found_some : (o : Option ℕ) → is_some o ≡ true → (x : ℕ) × (o ≡ Some x)
found_some (Some x) e = (x, refl)
found_some None e = absurd (true≢false (sym e))

pub pairs_push : (ws : List Write) (w : Write) → pairs_of (ws ++ w ∷ []) ≡ (w.at, w.value) ∷ pairs_of ws
pairs_push [] w = refl
pairs_push (y ∷ ws) w = ap (λ (l : List (ℕ × ℕ)). l ++ (y.at, y.value) ∷ []) (pairs_push ws w)

pub find_back : (xs : List (ℕ × ℕ)) (k o j : ℕ) → find (xs ++ (k, o) ∷ []) j ≡ (if is_some (find xs j) then find xs j else find ((k, o) ∷ []) j)
find_back [] k o j = refl
find_back (x ∷ xs) k o j = dite (ℕ_discrete x.0 j) (λ h. rw (eq-eqb x.0 j h) refl) (λ n. rw (ne_eqb x.0 j n) (find_back xs k o j))

pub absent_first : (w : Write) (ws : List Write) → HasDistinctPlaces (w ∷ ws) → written ws w.at ≡ None
absent_first w ws d = written_absent ws w.at (λ k e lt. λ same. d 0 (suc k) e (omega arith) (omega arith) (sym same))

pub distinct_rest : (w : Write) (ws : List Write) → HasDistinctPlaces (w ∷ ws) → HasDistinctPlaces ws
distinct_rest w ws d = λ i j e a b. d (suc i) (suc j) e (omega arith) (omega arith)

-- the pairs hold what the writes hold
pub find_pairs : (ws : List Write) → HasDistinctPlaces ws → (k : ℕ) → find (pairs_of ws) k ≡ written ws k
find_pairs [] d k = refl
find_pairs (w ∷ ws) d k =
    let rest = find_pairs ws (distinct_rest w ws d) k in
    find_back (pairs_of ws) w.at w.value k
    ∙ dite (ℕ_discrete w.at k)
    (λ h. let none : find (pairs_of ws) k ≡ None = rest ∙ (ap (λ (j : ℕ). written ws j) (sym h) ∙ absent_first w ws d) in rw (none, eq-eqb w.at k h) refl)
    (λ n. rw (ne_eqb w.at k n) (either_same (find (pairs_of ws) k) ∙ rest))
  where
    either_same : (o : Option ℕ) → (if is_some o then o else None) ≡ o
    either_same None = refl
    either_same (Some x) = refl

pub without_last : (xs : List (ℕ × ℕ)) (k o : ℕ) → find xs k ≡ None → without (xs ++ (k, o) ∷ []) k ≡ xs
without_last [] k o none = rw (eq-eqb k k refl) refl
without_last (x ∷ xs) k o none = dite (ℕ_discrete x.0 k)
    (λ h. absurd (let q : Some x.1 ≡ None = sym (rw (eq-eqb x.0 k h) refl) ∙ none in cc))
    (λ n. rw (ne_eqb x.0 k n) (ap (λ (l : List (ℕ × ℕ)). x ∷ l) (without_last xs k o (sym (rw (ne_eqb x.0 k n) refl) ∙ none))))

pub drop_next : (ws : List Write) (k : ℕ) (w : Write) → slice_get ws k ≡ Some w → drop k ws ≡ w ∷ drop (k + 1) ws
drop_next [] k w is = absurd cc
drop_next (x ∷ ws) zero w is = let e : x ≡ w = cc in ap (λ (y : Write). y ∷ ws) e
drop_next (x ∷ ws) (suc k) w is = let e : suc k + 1 ≡ suc (k + 1) = omega arith in rw e (drop_next ws k w is)

pub distinct_drop : (ws : List Write) (k : ℕ) → HasDistinctPlaces ws → HasDistinctPlaces (drop k ws)
distinct_drop ws zero d = d
distinct_drop [] (suc k) d = d
distinct_drop (w ∷ ws) (suc k) d = distinct_drop ws k (distinct_rest w ws d)

-- what is written is one of the writes
pub among : (ws : List Write) (i x : ℕ) → written ws i ≡ Some x → (k : ℕ) × (k < length ws) × ((d : Write) → (get_or ws k d).at ≡ i)
among [] i x e = absurd cc
among (w ∷ ws) i x e = dite (ℕ_discrete w.at i)
    (λ h. (0, omega arith, (λ d. h)))
    (λ o. let r = among ws i x (sym (rw (ne_eqb w.at i o) refl) ∙ e) in (suc r.0, (let lt = r.1 in omega arith), r.2))

-- ---- a write of a new word comes last
pub put_new : (ws : List Write) (i x : ℕ) → written ws i ≡ None → put_write ws (record { at = i; value = x }) ≡ ws ++ (record { at = i; value = x }) ∷ []
put_new ws i x none = put_absent ws (record { at = i; value = x }) (absent_written ws i none)

pub written_back : (ws : List Write) (i x : ℕ) → is_some (written (ws ++ (record { at = i; value = x }) ∷ []) i) ≡ true
written_back [] i x = rw (eq-eqb i i refl) refl
written_back (w ∷ ws) i x = dite (ℕ_discrete w.at i) (λ h. rw (eq-eqb w.at i h) refl) (λ n. rw (ne_eqb w.at i n) (written_back ws i x))

pub noted_new : (ws new : List Write) (i x : ℕ) → written ws i ≡ None → new ≡ put_write ws (record { at = i; value = x }) → Noted i ws new
noted_new ws new i x none is =
    let e : new ≡ ws ++ (record { at = i; value = x }) ∷ [] = is ∙ put_new ws i x none in
    record { there = rw e (written_back ws i x); more = inr (none, (x, e)) }

pub noted_same : (ws : List Write) (i : ℕ) → is_some (written ws i) ≡ true → Noted i ws ws
noted_same ws i e = record { there = e; more = inl refl }

-- what is written stays so where a write comes behind
pub written_more : (ws : List Write) (i x j : ℕ) → is_some (written ws j) ≡ true → is_some (written (ws ++ (record { at = i; value = x }) ∷ []) j) ≡ true
written_more [] i x j e = absurd (true≢false (sym e))
written_more (w ∷ ws) i x j e = dite (ℕ_discrete w.at j) (λ h. rw (eq-eqb w.at j h) refl) (λ n. rw (ne_eqb w.at j n) (written_more ws i x j (sym (rw (ne_eqb w.at j n) refl) ∙ e)))

-- ---- whether a place is among the pairs
either_some : (o : Option ℕ) (x : ℕ) → is_some (if is_some o then o else Some x) ≡ true
either_some None x = refl
either_some (Some y) x = refl

either_none : (o : Option ℕ) → is_some (if is_some o then o else None) ≡ is_some o
either_none None = refl
either_none (Some y) = refl

pub found_pairs : (ws : List Write) (k : ℕ) → is_some (find (pairs_of ws) k) ≡ is_some (written ws k)
found_pairs [] k = refl
found_pairs (w ∷ ws) k =
    ap is_some (find_back (pairs_of ws) w.at w.value k) ∙ dite (ℕ_discrete w.at k)
    (λ h. rw (eq-eqb w.at k h) (either_some (find (pairs_of ws) k) w.value))
    (λ n. rw (ne_eqb w.at k n) (either_none (find (pairs_of ws) k) ∙ found_pairs ws k))

pub length_pairs : (ws : List Write) → length (pairs_of ws) ≡ length ws
length_pairs [] = refl
length_pairs (w ∷ ws) = let e = length_pairs ws in omega (arith, length-append (pairs_of ws) ((w.at, w.value) ∷ []))
