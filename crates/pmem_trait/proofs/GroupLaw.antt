-- One law for every group of writes: what each mix of the old words and the written ones has, every image has.
use Rattle.std.proofs.Common.{◌≡◌, ◌⊎◌, inl, inr, ⊎_elim, ℕ, ◌/◌, ◌<◌, List, [], ◌∷◌, slice_index, refl, sym, ap, ◌∙◌, subst}
use Rattle.pmem_trait.specs.declared.call.Call.TheVariants.{Put, Flush}
use Rattle.pmem_trait.specs.Words.{IsIn, Word, State, newest, value_of, settle, after, after_all, MayHold, EveryImage, settled_at, AfterEachCall}
use Rattle.pmem_trait.specs.Groups.{put_pairs, flush_lines, group_calls, values_put, final, OldOrNew, MixOf}
use Rattle.pmem_trait.specs.MediumLaws.{LawOfSettling}
use Rattle.pmem_trait.proofs.Images.{may_still}
use Rattle.pmem_trait.proofs.GroupStates.{group_way}
use Rattle.pmem_trait.proofs.Laws.{after_each_weaker}
use Rattle.pmem_trait.proofs.GroupWords.{with_all, puts_word, noted_stays, group_is, group_flushed, group_may}

-- Where every mix of the old words and these writes has P, every image has P at each moment of the group.
pub group_law : {len : ℕ} {P : List ℕ → List ℕ → Type 0} {p : State} (all : List (ℕ × ℕ)) → ((image : List ℕ) → OldOrNew len p all image → P p.told image) → (ls : List ℕ)
    → AfterEachCall (EveryImage len P) p (group_calls all ls)
group_law {len} {P} {p} all holds ls = after_each_weaker
    (λ q way. record {
      each = λ image is.
          subst (λ (told : List ℕ). P told image) (sym way.told)
          (holds image (record { size = is.size; each = λ k below. way.value k (slice_index image k) (is.each k below) }));
    })
    (group_way all ls)

-- what a mix may have of a word that isn't written: what the word may have been
pub mix_may : {len : ℕ} {p : State} {ws : List (ℕ × ℕ)} {image : List ℕ} → OldOrNew len p ws image → (k : ℕ) → k < len → values_put ws k ≡ [] → MayHold (p.word k) (slice_index image k)
mix_may {image = image} mix k below none = ⊎_elim (λ may. may) (λ new. absurd (subst (IsIn (slice_index image k)) none new)) (mix.each k below)

-- so a settled word that isn't written is in a mix as it was
pub kept_word : {len : ℕ} {p : State} {ws : List (ℕ × ℕ)} {image : List ℕ} → OldOrNew len p ws image → (k x : ℕ) → k < len → values_put ws k ≡ [] → p.word k ≡ settled_at x → slice_index image k ≡ x
kept_word mix k x below none is = may_still _ x _ is (mix_may mix k below none)

-- nor has it, after the group, a value that it might not have had before
pub unwritten_may : (ws : List (ℕ × ℕ)) (ls : List ℕ) (p : State) (k x : ℕ) → values_put ws k ≡ [] → MayHold ((after_all (group_calls ws ls) p).word k) x → MayHold (p.word k) x
unwritten_may ws ls p k x none may = ⊎_elim (λ old. old) (λ (new : IsIn x (values_put ws k)). absurd (subst (IsIn x) none new)) (group_may ws ls p k x may)

-- and the group leaves a settled word as it was
pub left_word : (ws : List (ℕ × ℕ)) (ls : List ℕ) (p : State) (k x : ℕ) → values_put ws k ≡ [] → p.word k ≡ settled_at x → (after_all (group_calls ws ls) p).word k ≡ settled_at x
left_word ws ls p k x none at_rest =
    let behind = after_all (put_pairs ws) p in
    let put : behind.word k ≡ settled_at x = puts_word ws p k ∙ ap (with_all (values_put ws k)) at_rest ∙ ap (λ (vs : List ℕ). with_all vs (settled_at x)) none in
    ap (λ (q : State). q.word k) (group_is ws ls p) ∙ ap settle (noted_stays ls behind k (settled_at x) put)

-- What a group leaves of a word that was settled and whose line is flushed, or that isn't written.
pub group_word : (ws : List (ℕ × ℕ)) (ls : List ℕ) (p : State) (k x : ℕ) → p.word k ≡ settled_at x → (values_put ws k ≡ []) ⊎ IsIn (k / 8) ls → (after_all (group_calls ws ls) p).word k ≡ settled_at (final ws k x)
group_word ws ls p k x at_rest (inl none) = left_word ws ls p k x none at_rest ∙ ap (λ (vs : List ℕ). settled_at (newest x vs)) (sym none)
group_word ws ls p k x at_rest (inr flushed) =
    group_flushed ws ls p k flushed ∙ ap (λ (w : Word). settled_at (newest (value_of w) (values_put ws k))) at_rest

pub group_told : (ws : List (ℕ × ℕ)) (ls : List ℕ) (p : State) → (after_all (group_calls ws ls) p).told ≡ p.told
group_told ws ls p =
    ap (λ (q : State). q.told) (group_is ws ls p) ∙ flushes ls (after_all (put_pairs ws) p) ∙ puts ws p
  where
    flushes : (ls : List ℕ) (q : State) → (after_all (flush_lines ls) q).told ≡ q.told
    flushes [] q = refl
    flushes (l ∷ ls) q = flushes ls (after (Flush l) q)

    puts : (ws : List (ℕ × ℕ)) (q : State) → (after_all (put_pairs ws) q).told ≡ q.told
    puts [] q = refl
    puts (w ∷ ws) q = puts ws (after (Put w.0 w.1) q)

-- all that a group leaves
pub group_settles : LawOfSettling
group_settles ws ls p = record {
  flushed = λ k is. group_flushed ws ls p k is;
  unwritten = λ k x none may. unwritten_may ws ls p k x none may;
  settled = λ k none is. left_word ws ls p k (p.word k).settled none is ∙ sym is;
  told = group_told ws ls p;
}

-- the law that needs no property: each image is such a mix
pub mix_law : {len : ℕ} {p : State} (ws : List (ℕ × ℕ)) (ls : List ℕ) → AfterEachCall (EveryImage len (MixOf len p ws)) p (group_calls ws ls)
mix_law ws ls = group_law ws (λ image mix. (refl, mix)) ls
