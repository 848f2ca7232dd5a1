-- What a crash may leave after one call, whole or half done.
use Rattle.std.proofs.Common.{◌==◌, ◌/◌, if◌then◌else◌, ◌≡◌, ◌⊎◌, inl, inr, ⊎_elim, ℕ, zero, suc, List, [], ◌∷◌, take, drop, slice_index, refl, sym, ◌∙◌, subst, eqb-true, true, false, Bool}
use Rattle.pmem_trait.specs.declared.call.Call.{Call}
use Rattle.pmem_trait.specs.declared.call.Call.TheVariants.{Read, Put, Flush, Fence, Tell}
use Rattle.pmem_trait.specs.Words.{IsIn, Word, State, newest, with_note, settle, word_after, after, HalfDone, MayHold, IsImage, EveryImage, settled_at}
use Rattle.pmem_trait.specs.MediumLaws.{LawOfHalfDone}

-- fewer values of each word, and the same numbers told
pub every_image_less : {len : ℕ} {P : List ℕ → List ℕ → Type 0} {p q : State}
    → ((k x : ℕ) → MayHold (q.word k) x → MayHold (p.word k) x) → q.told ≡ p.told → EveryImage len P p → EveryImage len P q
every_image_less {P = P} less same leaves = record {
  each = λ image is.
      subst (λ (told : List ℕ). P told image) (sym same)
      (leaves.each image (record { size = is.size; each = λ k below. less k (slice_index image k) (is.each k below) }));
}

-- a settled word has one value
pub may_still : (w : Word) (x y : ℕ) → w ≡ settled_at x → MayHold w y → y ≡ x
may_still w x y is may = ⊎_elim (λ e. e) (λ none. absurd none) (subst (λ (v : Word). MayHold v y) is may)

-- a note alone changes no image
pub note_less : (noted : Bool) (x : ℕ) (w : Word) → MayHold (if noted then with_note w else w) x → MayHold w x
note_less true x w may = may
note_less false x w may = may

-- a value that a fence settles was a later value, or the settled one
newest_may : (x a : ℕ) (ys : List ℕ) (n : ℕ) → x ≡ newest a (take n ys) → (x ≡ a) ⊎ IsIn x ys
newest_may x a ys zero is = inl is
newest_may x a [] (suc n) is = inl is
newest_may x a (y ∷ ys) (suc n) is = inr (newest_may x y ys n is)

dropped_may : (x n : ℕ) (ys : List ℕ) → IsIn x (drop n ys) → IsIn x ys
dropped_may x zero ys is = is
dropped_may x (suc n) [] is = is
dropped_may x (suc n) (y ∷ ys) is = inr (dropped_may x n ys is)

pub fence_less : (x : ℕ) (w : Word) → MayHold (settle w) x → MayHold w x
fence_less x w (inl is) = newest_may x w.settled w.later w.noted is
fence_less x w (inr is) = inr (dropped_may x w.noted w.later is)

pub every_image_flush : {len : ℕ} {P : List ℕ → List ℕ → Type 0} {p : State} (line : ℕ) → EveryImage len P p → EveryImage len P (after (Flush line) p)
every_image_flush {p = p} line leaves = every_image_less (λ k x may. note_less (k / 8 == line) x (p.word k) may) refl leaves

pub every_image_fence : {len : ℕ} {P : List ℕ → List ℕ → Type 0} {p : State} → EveryImage len P p → EveryImage len P (after Fence p)
every_image_fence {p = p} leaves = every_image_less (λ k x may. fence_less x (p.word k) may) refl leaves

-- an image of a state with fewer values of each word
image_less : {len : ℕ} {p q : State} {image : List ℕ} → ((k x : ℕ) → MayHold (q.word k) x → MayHold (p.word k) x) → IsImage len q image → IsImage len p image
image_less {image = image} less is = record { size = is.size; each = λ k below. less k (slice_index image k) (is.each k below) }

-- the words are the same
image_same : {len : ℕ} {p q : State} {image : List ℕ} → ((k : ℕ) → q.word k ≡ p.word k) → IsImage len q image → IsImage len p image
image_same same is = image_less (λ k x may. subst (λ (w : Word). MayHold w x) (same k) may) is

-- one of two that are the same
either_way : {A : Type 0} {x y : A} → (x ≡ y) ⊎ (x ≡ y) → x ≡ y
either_way (inl is) = is
either_way (inr is) = is

-- the words that a failed put leaves are those before it or those after it
put_either : (at value : ℕ) (p q : State) → HalfDone (Put at value) p q
    → ((k : ℕ) → q.word k ≡ p.word k) ⊎ ((k : ℕ) → q.word k ≡ word_after (Put at value) k (p.word k))
put_either at value p q half = ⊎_elim
    (λ same. inl (λ k. before same k (k == at) refl (half.word k)))
    (λ put. inr (λ k. behind put k (k == at) refl (half.word k)))
    (half.word at)
  where
    before : q.word at ≡ p.word at → (k : ℕ) (b : Bool) → (k == at) ≡ b → (q.word k ≡ p.word k) ⊎ (q.word k ≡ word_after (Put at value) k (p.word k)) → q.word k ≡ p.word k
    before same k true is either = subst (λ (j : ℕ). q.word j ≡ p.word j) (sym (eqb-true k at is)) same
    before same k false is (inl old) = old
    before same k false is (inr new) = new ∙ rw is

    behind : q.word at ≡ word_after (Put at value) at (p.word at) → (k : ℕ) (b : Bool) → (k == at) ≡ b → (q.word k ≡ p.word k) ⊎ (q.word k ≡ word_after (Put at value) k (p.word k)) → q.word k ≡ word_after (Put at value) k (p.word k)
    behind put k true is either = subst (λ (j : ℕ). q.word j ≡ word_after (Put at value) j (p.word j)) (sym (eqb-true k at is)) put
    behind put k false is (inl old) = old ∙ rw is
    behind put k false is (inr new) = new

-- Each image of a call that failed half done is one from before the call or one from after it.
pub half_image : LawOfHalfDone
half_image (Read at) len p q half image is = inl (either_way half.told, image_same (λ k. either_way (half.word k)) is)
half_image (Put at value) len p q half image is = ⊎_elim
    (λ same. inl (either_way half.told, image_same same is))
    (λ put. inr (either_way half.told, image_same put is))
    (put_either at value p q half)
half_image (Flush line) len p q half image is = inl (
  either_way half.told,
  image_less
      (λ k x may. ⊎_elim (λ same. subst (λ (w : Word). MayHold w x) same may) (λ noted. note_less (k / 8 == line) x (p.word k) (subst (λ (w : Word). MayHold w x) noted may)) (half.word k)) is,
)
half_image Fence len p q half image is = inl (
  either_way half.told,
  image_less
      (λ k x may. ⊎_elim (λ same. subst (λ (w : Word). MayHold w x) same may) (λ fenced. fence_less x (p.word k) (subst (λ (w : Word). MayHold w x) fenced may)) (half.word k)) is,
)
half_image (Tell number) len p q half image is = ⊎_elim
    (λ same. inl (same, image_same (λ k. either_way (half.word k)) is))
    (λ told. inr (told, image_same (λ k. either_way (half.word k)) is))
    half.told

-- What every image has before a call and after it, it has of the call half done.
pub half_every_image : {len : ℕ} {P : List ℕ → List ℕ → Type 0} (c : Call) {p q : State} → EveryImage len P p → EveryImage len P (after c p) → HalfDone c p q → EveryImage len P q
half_every_image {len} {P} c {p} {q} old new half = record {
  each = λ image is. ⊎_elim
      (λ before. subst (λ (told : List ℕ). P told image) (sym before.0) (old.each image before.1))
      (λ behind. subst (λ (told : List ℕ). P told image) (sym behind.0) (new.each image behind.1))
      (half_image c len p q half image is);
}
