-- The value of a word after some numbers.
use Rattle.std.proofs.Common.{◌≡◌, ℕ, zero, suc, ◌+◌, ◌*◌, ◌<◌, ◌≤◌, ◌⊎◌, List, refl, ap, ◌∙◌, inl, inr, arith}
use Rattle.std.specs.Prelude.{Option, Some, None}
use mathlib.Core.Logic.{dite}
use native.Mathlib.Decide.{dec_le}
use Rattle.dude_base.specs.Writes.{written}
use Rattle.core_events.specs.Keyed.{or_else}
use Rattle.core_events.specs.Entries.{History, value}
use Rattle.core_events.specs.Ghosts.{Hold, free, taken, writing, word_of}

module _ (opening : List ℕ) where
  -- histories that agree up to n give one value there
  pub value_agree : (hist hist2 : History) (n i : ℕ) → ((m : ℕ) → m ≤ n → hist2 m ≡ hist m) → value opening hist2 n i ≡ value opening hist n i
  value_agree hist hist2 zero i same = refl
  value_agree hist hist2 (suc n) i same =
      let e : hist2 (suc n) ≡ hist (suc n) = same (suc n) (omega arith) in
      let r : value opening hist2 n i ≡ value opening hist n i = value_agree hist hist2 n i (λ m le. same m (omega arith)) in
      rw (e, r) refl

  -- nothing between n and m wrote to the word
  abbrev pub Still : History → ℕ → ℕ → ℕ → Type 0
  Still hist n m i = (k : ℕ) → n < k → k ≤ m → (x : ℕ) → written (hist k) i ≡ Some x → ⊥

  kept_by : (o : Option ℕ) (d : ℕ) → ((x : ℕ) → o ≡ Some x → ⊥) → or_else o d ≡ d
  kept_by None d still = refl
  kept_by (Some x) d still = absurd (still x refl)

  pub value_still : (hist : History) (n m i : ℕ) → n ≤ m → Still hist n m i → value opening hist m i ≡ value opening hist n i
  value_still hist n zero i le still = let e : n ≡ 0 = omega arith in rw e refl
  value_still hist n (suc m) i le still = dite (dec_le (suc m) n)
      (λ h. let e : n ≡ suc m = omega arith in rw e refl)
      (λ h. kept_by (written (hist (suc m)) i) (value opening hist m i) (still (suc m) (omega arith) (omega arith)) ∙ value_still hist n m i (omega arith) (λ k a b. still k a (omega arith)))

  pub value_last : (hist : History) (n m i x : ℕ) → 0 < n → n ≤ m → written (hist n) i ≡ Some x → Still hist n m i → value opening hist m i ≡ x
  value_last hist zero m i x pos le e still = absurd (omega arith)
  value_last hist (suc n) m i x pos le e still = value_still hist (suc n) m i le still ∙ ap (λ o. or_else o (value opening hist n i)) e

-- a lock that shows an even word is free
pub even_version : (thread : ℕ → ℕ) (h : Hold) (u : ℕ) → word_of thread h ≡ 2 * u → h ≡ free u
even_version thread (free w) u e = let s : w ≡ u = omega arith in ap free s
even_version thread (taken j w) u e = absurd (omega arith)
even_version thread (writing j w) u e = absurd (omega arith)

-- and one that shows an odd word has an owner of that thread
pub odd_owner : (thread : ℕ → ℕ) (h : Hold) (t : ℕ) → word_of thread h ≡ 2 * t + 1 → (j : ℕ) × (u : ℕ) × ((h ≡ taken j u) ⊎ (h ≡ writing j u)) × (thread j ≡ t)
odd_owner thread (free w) t e = absurd (omega arith)
odd_owner thread (taken j w) t e = (j, w, inl refl, omega arith)
odd_owner thread (writing j w) t e = (j, w, inr refl, omega arith)

pub value_next : (opening : List ℕ) (hist : History) (n i : ℕ) → value opening hist (n + 1) i ≡ or_else (written (hist (n + 1)) i) (value opening hist n i)
value_next opening hist n i = let e : n + 1 ≡ suc n = omega arith in rw e refl

pub either_way : (o : Option ℕ) → (o ≡ None) ⊎ ((x : ℕ) × (o ≡ Some x))
either_way None = inl refl
either_way (Some x) = inr (x, refl)

-- histories whose writes to the word agree up to n give it one value there
pub value_same : (opening : List ℕ) (hist hist2 : History) (n i : ℕ) → ((m : ℕ) → m ≤ n → written (hist2 m) i ≡ written (hist m) i) → value opening hist2 n i ≡ value opening hist n i
value_same opening hist hist2 zero i same = refl
value_same opening hist hist2 (suc n) i same =
    let e : written (hist2 (suc n)) i ≡ written (hist (suc n)) i = same (suc n) (omega arith) in
    let r : value opening hist2 n i ≡ value opening hist n i = value_same opening hist hist2 n i (λ m le. same m (omega arith)) in
    rw (e, r) refl
