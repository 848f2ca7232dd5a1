-- Reads leave the state as it is, and so the content.
use Rattle.std.proofs.Common.{◌≡◌, ◌⊎◌, inl, inr, ⊎_elim, ℕ, ◌+◌, ◌-◌, ◌^◌, ◌<◌, ◌≤◌, Bool, true, false, IsTrue, List, [], ◌∷◌, ◌++◌, map, slice_index, refl, sym, ap, ◌∙◌, subst, arith}
use Rattle.std.proofs.lemmas.List.{map-append}
use Rattle.pmem_trait.specs.declared.call.Call.{Call}
use Rattle.pmem_trait.specs.declared.call.Call.TheVariants.{Read}
use Rattle.pmem_trait.specs.Words.{State, Word, value_of}
use Rattle.pmem_trait.specs.Sights.{Sight, state_now, OneCall, CallEffect, CallsMade, CallsMade.none, CallsMade.stop, CallsMade.step}
use Rattle.pmem_trait.specs.Reads.{OnlyReads, IsSameState, LawOfReads, ContentHas}
use Rattle.pmem_trait.proofs.Runs.{made_then, made_later, goes_alone}

same_here : (p : State) → IsSameState p p
same_here p = record { word = λ k. refl; told = refl }

same_then : {p q r : State} → IsSameState p q → IsSameState q r → IsSameState p r
same_then a b = record { word = λ k. b.word k ∙ a.word k; told = b.told ∙ a.told }

-- one read, or half of it
does_same : (at : ℕ) (ok : Bool) {p q : State} → CallEffect (Read at) ok p q → IsSameState p q
does_same at true {p} {q} does = subst (IsSameState p) (sym does) (record { word = λ k. refl; told = refl })
does_same at false half = record { word = λ k. ⊎_elim (λ is. is) (λ is. is) (half.word k); told = ⊎_elim (λ is. is) (λ is. is) half.told }

-- the state at each moment of one read
read_same : {at : ℕ} {ok : Bool} {s t : Sight} → OneCall (Read at) ok s t → IsTrue s.is_visible → (m : ℕ) → s.now ≤ m → m ≤ t.now → IsSameState (state_now s) (t.state m)
read_same {at} {ok} {s} {t} g told m from upto = by (first_or_next s.now t.now m from upto g.time)
  where
    first_or_next : (a b m : ℕ) → a ≤ m → m ≤ b → (b ≡ a + 1) ⊎ ((a ≡ 2 ^ 64 - 1) × (b ≡ a) × (ok ≡ false)) → (m ≡ a) ⊎ ((b ≡ m) × (b ≡ a + 1))
    first_or_next a b m from upto (inl next) = grind arith
    first_or_next a b m from upto (inr full) = inl (omega (arith, full.1))

    by : (m ≡ s.now) ⊎ ((t.now ≡ m) × (t.now ≡ s.now + 1)) → IsSameState (state_now s) (t.state m)
    by (inl now) = subst (IsSameState (state_now s)) (sym (g.later.past told m (omega arith))) (subst (λ (k : ℕ). IsSameState (state_now s) (s.state k)) (sym now) (same_here (state_now s)))
    by (inr next) = subst (λ (k : ℕ). IsSameState (state_now s) (t.state k)) next.0 (does_same at ok (g.does told next.1))

-- the same of some reads
pub reads_same : LawOfReads
reads_same ok s t reads told = go reads.words reads.made told
  where
    either_side : (a b m : ℕ) → (m ≤ b) ⊎ (b ≤ m)
    either_side a b m = grind arith

    go : (words : List ℕ) {ok : Bool} {s t : Sight} → CallsMade (map Read words) ok s t → IsTrue s.is_visible → (m : ℕ) → s.now ≤ m → m ≤ t.now → IsSameState (state_now s) (t.state m)
    go [] {s = s} none told m from upto = let now : s.now ≡ m = omega arith in subst (λ (k : ℕ). IsSameState (state_now s) (s.state k)) now (same_here (state_now s))
    go (at ∷ words) (stop g) told m from upto = read_same g told m from upto
    go (at ∷ words) {s = s} {t = u} (step {t = t} g rest) told m from upto = ⊎_elim
        (λ (before : m ≤ t.now). subst (IsSameState (state_now s)) (sym ((made_later rest).past (g.later.is_visible ∙ told) m before)) (read_same g told m from before))
        (λ (behind : t.now ≤ m). same_then (read_same g told t.now g.later.now (omega arith)) (go words rest (g.later.is_visible ∙ told) m behind upto))
        (either_side s.now t.now m)

-- some reads, one after another
pub reads_here : (s : Sight) → OnlyReads true s s
reads_here s = record { words = []; made = none }

pub read_alone : {at : ℕ} {ok : Bool} {s t : Sight} → OneCall (Read at) ok s t → OnlyReads ok s t
read_alone {at} {ok} g = record { words = at ∷ []; made = goes_alone ok g }

pub reads_then : {ok : Bool} {s t u : Sight} → OnlyReads true s t → OnlyReads ok t u → OnlyReads ok s u
reads_then {ok} {s} {t} {u} a b = record {
  words = a.words ++ b.words;
  made = subst (λ (l : List Call). CallsMade l ok s u) (sym (map-append Read a.words b.words)) (made_then a.made b.made);
}

pub ruleset reading = (reads_here, read_alone, reads_then)

-- the length stays
pub reads_len : {ok : Bool} {s t : Sight} → OnlyReads ok s t → t.len ≡ s.len
reads_len reads = (made_later reads.made).len

-- what the content has after some reads it had before
pub content_before : {P : List ℕ → Type 0} {ok : Bool} {s t : Sight} → OnlyReads ok s t → ContentHas P t → ContentHas P s
content_before {P} {ok} {s} {t} reads has told content is =
    let later = made_later reads.made in
    let same = reads_same ok s t reads told t.now later.now (omega arith) in
    has (later.is_visible ∙ told) content (record {
      size = is.size ∙ sym later.len;
      each = λ k lt. is.each k (let len = later.len in omega arith) ∙ ap (λ (w : Word). value_of w) (sym (same.word k));
    })

-- a word that was read is that of the content
pub read_content : {s t : Sight} {v : ℕ} (at : ℕ) → OnlyReads true s t → at < t.len → (IsTrue t.is_visible → v ≡ value_of ((state_now t).word at)) → ContentHas (λ content. slice_index content at ≡ v) s
read_content {v = v} at reads below is = content_before {P = λ content. slice_index content at ≡ v} reads (λ told content holds. holds.each at below ∙ sym (is told))
