-- A replay of the calls, word by word.
use Rattle.std.proofs.Common.{take_at, length-drop, ◌≡◌, ℕ, zero, suc, ◌+◌, ◌-◌, ◌<◌, ◌≤◌, Bool, List, [], ◌∷◌, ◌++◌, length, take, drop, get_or, refl, sym, ap, ◌∙◌, subst, arith}
use Rattle.std.proofs.lemmas.List.{drop-drop, get_or-drop}
use Rattle.pmem_trait.specs.declared.call.Call.{Call}
use Rattle.pmem_trait.specs.declared.made.Made.{Made}
use Rattle.pmem_trait.specs.Words.{Word, State, newest, settled_at, settle, word_after}
use Rattle.pmem_fake.specs.History.{step_made, after_made}
use Rattle.pmem_fake.specs.Replays.{AreInState}
use Rattle.pmem_fake.proofs.Histories.{made_next}

-- the last of the first n + 1 values
newest-take : (x n d : ℕ) (l : List ℕ) → n < length l → newest x (take (suc n) l) ≡ get_or l n d
newest-take x n d [] below = absurd (omega arith)
newest-take x zero d (y ∷ ys) below = refl
newest-take x (suc n) d (y ∷ ys) below = newest-take y n d ys (omega arith)

-- the noted values are settled: the last of them is the settled one, and those behind are left
pub settle_noted : (s f n last : ℕ) (puts : List ℕ) → 0 < n → f + n ≤ length puts → last ≡ get_or puts (f + n - 1) last
    → record { settled = last; later = drop (f + n) puts; noted = 0 } ≡ settle (record { settled = s; later = drop f puts; noted = n })
settle_noted s f zero last puts some within is = absurd (omega arith)
settle_noted s f (suc n) last puts some within is =
    let index : f + suc n - 1 ≡ f + n = omega arith in
    let chosen : newest s (take (suc n) (drop f puts)) ≡ last =
    newest-take s n last (drop f puts) (omega (arith, length-drop f puts)) ∙ get_or-drop f puts n last ∙ ap (λ (j : ℕ). get_or puts j last) (sym index) ∙ sym is in
    rw (chosen, drop-drop (suc n) f puts)

-- the words below i are as a call leaves them, and the others are as they were
pub record SteppedTo (c : Call) (old : List Word) (i : ℕ) (new : List Word) : Type 0 where
  pub size : length new ≡ length old
  pub below : (k : ℕ) → k < i → k < length old → get_or new k (settled_at 0) ≡ word_after c k (get_or old k (settled_at 0))
  pub above : (k : ℕ) → i ≤ k → get_or new k (settled_at 0) ≡ get_or old k (settled_at 0)

-- One turn of the replay: the words, lent and given back, stand as after one call more.
pub replay_turn : {len n : ℕ} {old lent new : List Word} (late : Bool) (calls : List Made) (i : ℕ) (d : Made) (p : State) → i < length calls → n ≡ length old → lent ≡ old
    → AreInState len old (after_made late (take i calls) p) → length new ≡ length lent
    → ((q : State) → AreInState (length lent) lent q → AreInState (length lent) new (step_made late (get_or calls i d) q))
    → AreInState len (take n (new ++ drop (length new) old)) (after_made late (take (i + 1) calls) p)
replay_turn {len} {n} {old} {lent} {new} late calls i d p below whole is stands size turn =
    let before = after_made late (take i calls) p in
    let same : length lent ≡ len = ap length is ∙ stands.size in
    let begun : AreInState (length lent) lent before = subst (λ (m : ℕ). AreInState m lent before) (sym same) (subst (λ (ws : List Word). AreInState len ws before) (sym is) stands) in
    let back : take n (new ++ drop (length new) old) ≡ new = take_at new _ n (omega (arith, ap length is)) in
    subst (λ (ws : List Word). AreInState len ws (after_made late (take (i + 1) calls) p)) (sym back)
    (subst (λ (q : State). AreInState len new q) (sym (made_next late calls i d p below))
    (subst (λ (m : ℕ). AreInState m new (step_made late (get_or calls i d) before)) same (turn _ begun)))
