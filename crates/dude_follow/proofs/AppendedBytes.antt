-- Bytes that are appended piece by piece.
use Rattle.std.proofs.Common.{◌≡◌, ℕ, zero, suc, ◌+◌, ◌<◌, All, List, [], ◌∷◌, ◌++◌, append_assoc, append-nil, flat_map, get_or, length, take, sym, ap, ◌∙◌, subst, arith}
use Rattle.std.specs.List.{range_with_len}
use Rattle.std.proofs.lemmas.List.{take_more}
use Rattle.std.proofs.lemmas.List.Concat.{flat_map-append}
use Rattle.std.proofs.lemmas.List.Elements.{All-append}

-- one byte more of a list
pub byte_more : (xs : List ℕ) (i x : ℕ) (base old new : List ℕ) → i < length xs → old ≡ base ++ take i xs → new ≡ old ++ x ∷ [] → x ≡ get_or xs i 0 → new ≡ base ++ take (i + 1) xs
byte_more xs i x base old new below old_is new_is is =
    new_is
    ∙ ap (λ (l : List ℕ). l ++ x ∷ []) old_is
    ∙ append_assoc base (take i xs) (x ∷ [])
    ∙ ap (λ (y : ℕ). base ++ (take i xs ++ y ∷ [])) is
    ∙ ap (λ (l : List ℕ). base ++ l) (sym (take_more xs i 0 below))

-- the piece of one more of a list
pub piece_more : (f : ℕ → List ℕ) (xs : List ℕ) (i x : ℕ) (base old new : List ℕ) → i < length xs → old ≡ base ++ flat_map f (take i xs) → new ≡ old ++ f x → x ≡ get_or xs i 0 → new ≡ base ++ flat_map f (take (i + 1) xs)
piece_more f xs i x base old new below old_is new_is is =
    let one : flat_map f (take i xs ++ x ∷ []) ≡ flat_map f (take i xs) ++ (f x ++ []) = flat_map-append f (take i xs) (x ∷ []) in
    let more : take (i + 1) xs ≡ take i xs ++ x ∷ [] = take_more xs i 0 below ∙ ap (λ (y : ℕ). take i xs ++ y ∷ []) (sym is) in
    new_is
    ∙ ap (λ (l : List ℕ). l ++ f x) old_is
    ∙ append_assoc base (flat_map f (take i xs)) (f x)
    ∙ ap (λ (l : List ℕ). base ++ l) (ap (λ (l : List ℕ). flat_map f (take i xs) ++ l) (sym (append-nil (f x))) ∙ sym one ∙ ap (flat_map f) (sym more))

cells_last : (f : ℕ → List ℕ) (a n : ℕ) → flat_map f (range_with_len a (suc n)) ≡ flat_map f (range_with_len a n) ++ f (a + n)
cells_last f a zero = append-nil (f a) ∙ ap f (omega arith)
cells_last f a (suc n) =
    ap (λ (l : List ℕ). f a ++ l) (cells_last f (a + 1) n ∙ ap (λ (m : ℕ). flat_map f (range_with_len (a + 1) n) ++ f m) (omega arith))
    ∙ sym (append_assoc (f a) (flat_map f (range_with_len (a + 1) n)) (f (a + suc n)))

-- the cells so far, and one more
cells_next : (f : ℕ → List ℕ) (k : ℕ) → flat_map f (range_with_len 0 (k + 1)) ≡ flat_map f (range_with_len 0 k) ++ f k
cells_next f k =
    let one : k + 1 ≡ suc k = omega arith in
    let at : 0 + k ≡ k = omega arith in
    ap (λ (n : ℕ). flat_map f (range_with_len 0 n)) one ∙ cells_last f 0 k ∙ ap (λ (i : ℕ). flat_map f (range_with_len 0 k) ++ f i) at

pub cell_more : (g f : ℕ → List ℕ) (k : ℕ) (cell base old new : List ℕ) → old ≡ base ++ flat_map g (flat_map f (range_with_len 0 k)) → new ≡ old ++ flat_map g cell → cell ≡ f k
    → new ≡ base ++ flat_map g (flat_map f (range_with_len 0 (k + 1)))
cell_more g f k cell base old new old_is new_is is =
    new_is
    ∙ ap (λ (l : List ℕ). l ++ flat_map g cell) old_is
    ∙ append_assoc base (flat_map g (flat_map f (range_with_len 0 k))) (flat_map g cell)
    ∙ ap (λ (l : List ℕ). base ++ (flat_map g (flat_map f (range_with_len 0 k)) ++ flat_map g l)) is
    ∙ ap (λ (l : List ℕ). base ++ l) (sym (flat_map-append g (flat_map f (range_with_len 0 k)) (f k)) ∙ ap (flat_map g) (sym (cells_next f k)))

pub words_more : (P : ℕ → Type 0) (f : ℕ → List ℕ) (k : ℕ) (cell : List ℕ) → All P (flat_map f (range_with_len 0 k)) → All P cell → cell ≡ f k → All P (flat_map f (range_with_len 0 (k + 1)))
words_more P f k cell before here is =
    subst (λ (l : List ℕ). All P l) (sym (cells_next f k)) (All-append P (flat_map f (range_with_len 0 k)) (f k) before (subst (λ (l : List ℕ). All P l) is here))
