-- Boxes of different threads stand at different places; words that are put to 0.
use Rattle.std.proofs.Common.{◌≡◌, ℕ, zero, suc, ◌+◌, ◌*◌, ◌<◌, ◌≤◌, ◌⊎◌, List, [], ◌∷◌, length, get_or, set, refl, sym, ap, inl, inr, arith, mul-le-mul_right, suc-mul}
use mathlib.Core.Option.{some, some-injective, some-ne-none}
use mathlib.Core.Logic.{dite}
use native.Mathlib.Decide.{dec_lt}
use lib.ListN.{get_elem?}

pub box_same : (n a b x y : ℕ) → x < n → y < n → a * n + x ≡ b * n + y → (a ≡ b) × (x ≡ y)
box_same n a b x y lx ly e = dite (dec_lt a b)
    (λ lt. absurd (let h : suc a * n ≤ b * n = mul-le-mul_right n (omega arith) in let s = suc-mul a n in omega arith))
    (λ ge. dite (dec_lt b a)
    (λ lt. absurd (let h : suc b * n ≤ a * n = mul-le-mul_right n (omega arith) in let s = suc-mul b n in omega arith))
    (λ ge2. let same : a ≡ b = omega arith in let prod : a * n ≡ b * n = ap (λ (w : ℕ). w * n) same in (same, omega arith)))

-- a box of a thread is among the boxes
pub box_inside : (n a m x : ℕ) → a < m → x < n → a * n + x < m * n
box_inside n a m x la lx = let h : suc a * n ≤ m * n = mul-le-mul_right n (omega arith) in let s = suc-mul a n in omega arith

-- a word that was 0 is 0 where another is put to 0
pub zero_stays : (l : List ℕ) (k b : ℕ) → get_or l b 0 ≡ 0 → get_or (set l k 0) b 0 ≡ 0
zero_stays [] k b e = e
zero_stays (x ∷ xs) zero zero e = refl
zero_stays (x ∷ xs) zero (suc b) e = e
zero_stays (x ∷ xs) (suc k) zero e = e
zero_stays (x ∷ xs) (suc k) (suc b) e = zero_stays xs k b e

-- what is there is what is read
pub read_there : (l : List ℕ) (k n : ℕ) → get_elem? l k ≡ some n → get_or l k 0 ≡ n
read_there [] k n e = absurd (some-ne-none n (sym e))
read_there (x ∷ xs) zero n e = some-injective x n e
read_there (x ∷ xs) (suc k) n e = read_there xs k n e

pub there_read : (l : List ℕ) (k : ℕ) → k < length l → get_elem? l k ≡ some (get_or l k 0)
there_read [] k lt = absurd (omega arith)
there_read (x ∷ xs) zero lt = refl
there_read (x ∷ xs) (suc k) lt = there_read xs k (omega arith)

-- a word that isn't 0 is there
pub full_there : (l : List ℕ) (k : ℕ) → 0 < get_or l k 0 → get_elem? l k ≡ some (get_or l k 0)
full_there [] k pos = absurd (omega arith)
full_there (x ∷ xs) zero pos = refl
full_there (x ∷ xs) (suc k) pos = full_there xs k pos

-- a word that is put reads as that, or as 0 where there is none
pub word_put : (l : List ℕ) (k a : ℕ) → (get_or (set l k a) k 0 ≡ a) ⊎ (get_or (set l k a) k 0 ≡ 0)
word_put [] k a = inr refl
word_put (x ∷ xs) zero a = inl refl
word_put (x ∷ xs) (suc k) a = word_put xs k a

-- where one word is put to 0, each reads as 0 or as it was
pub word_cleared : (l : List ℕ) (k b : ℕ) → (get_or (set l k 0) b 0 ≡ 0) ⊎ (get_or (set l k 0) b 0 ≡ get_or l b 0)
word_cleared [] k b = inl refl
word_cleared (x ∷ xs) zero zero = inl refl
word_cleared (x ∷ xs) zero (suc b) = inr refl
word_cleared (x ∷ xs) (suc k) zero = inr refl
word_cleared (x ∷ xs) (suc k) (suc b) = word_cleared xs k b
