-- What a group of writes leaves of a word, whatever it was before.
use Rattle.std.proofs.Common.{◌≡◌, ◌⊎◌, inl, inr, ⊎_elim, ℕ, ◌/◌, ◌==◌, Bool, true, false, if◌then◌else◌, List, [], ◌∷◌, ◌++◌, length, refl, sym, ap, ◌∙◌, subst, eq-eqb, append_assoc, append-nil, take_all, le_refl}
use Rattle.std.proofs.lemmas.List.{drop_all}
use Rattle.pmem_trait.specs.declared.call.Call.TheVariants.{Put, Flush, Fence}
use Rattle.pmem_trait.specs.Words.{IsIn, Word, State, newest, value_of, with_later, with_note, settle, after, after_all, MayHold, settled_at}
use Rattle.pmem_trait.specs.Groups.{put_pairs, flush_lines, group_calls, values_put}
use Rattle.pmem_trait.proofs.Images.{note_less, fence_less}
use Rattle.pmem_trait.proofs.Laws.{after_all_then}

-- the word with these later values more
abbrev pub with_all : List ℕ → Word → Word
with_all vs w = record w { later = w.later ++ vs }

pub puts_word : (ws : List (ℕ × ℕ)) (p : State) (k : ℕ) → (after_all (put_pairs ws) p).word k ≡ with_all (values_put ws k) (p.word k)
puts_word [] p k = ap (λ (l : List ℕ). record (p.word k) { later = l }) (sym (append-nil (p.word k).later))
puts_word (w ∷ ws) p k = puts_word ws (after (Put w.0 w.1) p) k ∙ by (k == w.0)
  where
    by : (b : Bool) → with_all (values_put ws k) (if b then with_later w.1 (p.word k) else p.word k) ≡ with_all (if b then w.1 ∷ values_put ws k else values_put ws k) (p.word k)
    by true = ap (λ (l : List ℕ). record (p.word k) { later = l }) (append_assoc (p.word k).later (w.1 ∷ []) (values_put ws k))
    by false = refl

-- a noted word stays so under flushes
pub noted_stays : (ls : List ℕ) (p : State) (k : ℕ) (w : Word) → p.word k ≡ with_note w → (after_all (flush_lines ls) p).word k ≡ with_note w
noted_stays [] p k w is = is
noted_stays (l ∷ ls) p k w is = noted_stays ls (after (Flush l) p) k w (by (k / 8 == l))
  where
    by : (b : Bool) → (if b then with_note (p.word k) else p.word k) ≡ with_note w
    by true = ap with_note is
    by false = is

flushes_word : (ls : List ℕ) (p : State) (k : ℕ) → IsIn (k / 8) ls → (after_all (flush_lines ls) p).word k ≡ with_note (p.word k)
flushes_word [] p k is = absurd is
flushes_word (l ∷ ls) p k (inl is) = noted_stays ls (after (Flush l) p) k (p.word k) (rw (eq-eqb (k / 8) l is))
flushes_word (l ∷ ls) p k (inr is) = flushes_word ls (after (Flush l) p) k is ∙ by (k / 8 == l)
  where
    by : (b : Bool) → with_note (if b then with_note (p.word k) else p.word k) ≡ with_note (p.word k)
    by true = refl
    by false = refl

-- a word that was noted as it stands is settled by a fence
settle_noted : (w : Word) → settle (with_note w) ≡ settled_at (value_of w)
settle_noted w = rw (take_all (length w.later) w.later (le_refl (length w.later)), drop_all (length w.later) w.later (le_refl (length w.later)))

newest-append : (x : ℕ) (xs ys : List ℕ) → newest x (xs ++ ys) ≡ newest (newest x xs) ys
newest-append x [] ys = refl
newest-append x (y ∷ xs) ys = newest-append y xs ys

-- a group in three parts
pub group_is : (ws : List (ℕ × ℕ)) (ls : List ℕ) (p : State) → after_all (group_calls ws ls) p ≡ after Fence (after_all (flush_lines ls) (after_all (put_pairs ws) p))
unfolding group_calls
group_is ws ls p = after_all_then (put_pairs ws) (flush_lines ls ++ Fence ∷ []) p ∙ after_all_then (flush_lines ls) (Fence ∷ []) (after_all (put_pairs ws) p)

-- A word whose line is flushed is settled at the last value written there, or at the value that it had.
pub group_flushed : (ws : List (ℕ × ℕ)) (ls : List ℕ) (p : State) (k : ℕ) → IsIn (k / 8) ls → (after_all (group_calls ws ls) p).word k ≡ settled_at (newest (value_of (p.word k)) (values_put ws k))
group_flushed ws ls p k flushed =
    let behind = after_all (put_pairs ws) p in
    ap (λ (q : State). q.word k) (group_is ws ls p)
    ∙ (ap settle (flushes_word ls behind k flushed)
    ∙ (ap (λ (w : Word). settle (with_note w)) (puts_word ws p k)
    ∙ (settle_noted (with_all (values_put ws k) (p.word k))
    ∙ ap settled_at (newest-append (p.word k).settled (p.word k).later (values_put ws k)))))

-- The values that a word may have after a group are those that it may have had before, and the written ones.
in_append : (x : ℕ) (xs ys : List ℕ) → IsIn x (xs ++ ys) → IsIn x xs ⊎ IsIn x ys
in_append x [] ys is = inr is
in_append x (y ∷ xs) ys (inl is) = inl (inl is)
in_append x (y ∷ xs) ys (inr is) = ⊎_elim (λ h. inl (inr h)) (λ h. inr h) (in_append x xs ys is)

pub with_all_may : (vs : List ℕ) (w : Word) (x : ℕ) → MayHold (with_all vs w) x → MayHold w x ⊎ IsIn x vs
with_all_may vs w x (inl is) = inl (inl is)
with_all_may vs w x (inr is) = ⊎_elim (λ h. inl (inr h)) (λ h. inr h) (in_append x w.later vs is)

flushes_may : (ls : List ℕ) (p : State) (k x : ℕ) → MayHold ((after_all (flush_lines ls) p).word k) x → MayHold (p.word k) x
flushes_may [] p k x may = may
flushes_may (l ∷ ls) p k x may = note_less (k / 8 == l) x (p.word k) (flushes_may ls (after (Flush l) p) k x may)

pub group_may : (ws : List (ℕ × ℕ)) (ls : List ℕ) (p : State) (k x : ℕ) → MayHold ((after_all (group_calls ws ls) p).word k) x → MayHold (p.word k) x ⊎ IsIn x (values_put ws k)
group_may ws ls p k x may =
    let behind = after_all (put_pairs ws) p in
    let fenced = subst (λ (q : State). MayHold (q.word k) x) (group_is ws ls p) may in
    let put = flushes_may ls behind k x (fence_less x ((after_all (flush_lines ls) behind).word k) fenced) in
    with_all_may (values_put ws k) (p.word k) x (subst (λ (w : Word). MayHold w x) (puts_word ws p k) put)
