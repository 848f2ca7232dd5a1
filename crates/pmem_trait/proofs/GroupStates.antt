-- Every state on the way of a group of writes: what a word may have there, and which words stay settled.
use Rattle.std.proofs.Common.{◌≡◌, ◌⊎◌, inl, inr, ⊎_elim, ℕ, ◌/◌, ◌==◌, Bool, true, false, if◌then◌else◌, List, [], ◌∷◌, ◌++◌, refl, sym, ap, subst, eqb-true, eq-eqb}
use Rattle.pmem_trait.specs.Words.{IsIn, Word, State, with_later, with_note, settle, after, MayHold, settled_at, AfterEachCall, AfterEachCall.end, AfterEachCall.more}
use Rattle.pmem_trait.specs.declared.call.Call.TheVariants.{Put, Flush, Fence}
use Rattle.pmem_trait.specs.Groups.{put_pairs, flush_lines, group_calls, values_put}
use Rattle.pmem_trait.proofs.Images.{note_less, fence_less}
use Rattle.pmem_trait.proofs.GroupWords.{with_all_may}

-- the numbers told stay; a word has no value beside those it might have had and those put there; a settled word to which
-- nothing is put stays
pub record OnTheWay (p : State) (all : List (ℕ × ℕ)) (q : State) : Type 0 where
  pub told : q.told ≡ p.told
  pub value : (k x : ℕ) → MayHold (q.word k) x → MayHold (p.word k) x ⊎ IsIn x (values_put all k)
  pub stays : (k x : ℕ) → values_put all k ≡ [] → p.word k ≡ settled_at x → q.word k ≡ settled_at x

later_less : (v x : ℕ) (w : Word) → MayHold (with_later v w) x → MayHold w x ⊎ (x ≡ v)
later_less v x w may = by (with_all_may (v ∷ []) w x may)
  where
    by : MayHold w x ⊎ IsIn x (v ∷ []) → MayHold w x ⊎ (x ≡ v)
    by (inl old) = inl old
    by (inr (inl new)) = inr new
    by (inr (inr none)) = absurd none

values_first : (at v : ℕ) (ws : List (ℕ × ℕ)) → IsIn v (values_put ((at, v) ∷ ws) at)
values_first at v ws = subst (λ (b : Bool). IsIn v (if b then v ∷ values_put ws at else values_put ws at)) (sym (eq-eqb at at refl)) (inl refl)

values_rest : (w : ℕ × ℕ) (ws : List (ℕ × ℕ)) (k x : ℕ) → IsIn x (values_put ws k) → IsIn x (values_put (w ∷ ws) k)
values_rest w ws k x is = by (k == w.0)
  where
    by : (b : Bool) → IsIn x (if b then w.1 ∷ values_put ws k else values_put ws k)
    by true = inr is
    by false = is

abbrev Among : List (ℕ × ℕ) → List (ℕ × ℕ) → Type 0
Among ws all = (k x : ℕ) → IsIn x (values_put ws k) → IsIn x (values_put all k)

put_way : {p q : State} {all : List (ℕ × ℕ)} (at v : ℕ) → IsIn v (values_put all at) → OnTheWay p all q → OnTheWay p all (after (Put at v) q)
put_way {p} {q} {all} at v among way = record { told = way.told; value = λ k x may. by k x (k == at) refl may; stays = λ k x none is. keep k x none is (k == at) refl }
  where
    by : (k x : ℕ) (b : Bool) → (k == at) ≡ b → MayHold (if b then with_later v (q.word k) else q.word k) x → MayHold (p.word k) x ⊎ IsIn x (values_put all k)
    by k x true is may = ⊎_elim
        (λ old. way.value k x old)
        (λ new. inr (subst (λ (j : ℕ). IsIn x (values_put all j)) (sym (eqb-true k at is)) (subst (λ (y : ℕ). IsIn y (values_put all at)) (sym new) among)))
        (later_less v x (q.word k) may)
    by k x false is may = way.value k x may

    keep : (k x : ℕ) → values_put all k ≡ [] → p.word k ≡ settled_at x → (b : Bool) → (k == at) ≡ b → (if b then with_later v (q.word k) else q.word k) ≡ settled_at x
    keep k x none is true same = absurd (subst (IsIn v) none (subst (λ (j : ℕ). IsIn v (values_put all j)) (sym (eqb-true k at same)) among))
    keep k x none is false same = way.stays k x none is

note_settled : (b : Bool) (w : Word) (x : ℕ) → w ≡ settled_at x → (if b then with_note w else w) ≡ settled_at x
note_settled true w x is = ap with_note is
note_settled false w x is = is

flush_way : {p q : State} {all : List (ℕ × ℕ)} (line : ℕ) → OnTheWay p all q → OnTheWay p all (after (Flush line) q)
flush_way {q = q} line way = record {
  told = way.told;
  value = λ k x may. way.value k x (note_less (k / 8 == line) x (q.word k) may);
  stays = λ k x none is. note_settled (k / 8 == line) (q.word k) x (way.stays k x none is);
}

fence_way : {p q : State} {all : List (ℕ × ℕ)} → OnTheWay p all q → OnTheWay p all (after Fence q)
fence_way {q = q} way = record {
  told = way.told;
  value = λ k x may. way.value k x (fence_less x (q.word k) may);
  stays = λ k x none is. ap (λ (w : Word). settle w) (way.stays k x none is);
}

module _ {p : State} (all : List (ℕ × ℕ)) where
  flushes_way : (q : State) (ls : List ℕ) → OnTheWay p all q → AfterEachCall (OnTheWay p all) q (flush_lines ls ++ Fence ∷ [])
  flushes_way q [] way = more way (end (fence_way way))
  flushes_way q (l ∷ ls) way = more way (flushes_way (after (Flush l) q) ls (flush_way l way))

  puts_way : (q : State) (ws : List (ℕ × ℕ)) (ls : List ℕ) → Among ws all → OnTheWay p all q → AfterEachCall (OnTheWay p all) q (put_pairs ws ++ (flush_lines ls ++ Fence ∷ []))
  puts_way q [] ls among way = flushes_way q ls way
  puts_way q (w ∷ ws) ls among way = more way
      (puts_way (after (Put w.0 w.1) q) ws ls (λ k x is. among k x (values_rest w ws k x is)) (put_way w.0 w.1 (among w.0 w.1 (values_first w.0 w.1 ws)) way))

  pub group_way : (ls : List ℕ) → AfterEachCall (OnTheWay p all) p (group_calls all ls)
  unfolding group_calls
  group_way ls = puts_way p all ls (λ k x is. is) (record { told = refl; value = λ k x may. inl may; stays = λ k x none is. is })
