-- Lists that loops store piece by piece.
use Rattle.std.proofs.Common.{ℕ, ◌≡◌, ◌+◌, ◌-◌, ◌<◌, ◌≤◌, ◌∙◌, List, [], ◌∷◌, ◌++◌, suc, length, take, get_or, map, flat_map, replicate, refl, sym, ap, append_assoc, arith}
use Rattle.std.proofs.lemmas.List.{take_all, take_more, map_more, flat_map_more, replicate_more}
use Rattle.std.proofs.lemmas.Slice.{take-put_mid}
use borrow.Rule.Slice.PartMut.{put_mid}

-- one more piece behind those that were stored
pub stored_more : {X : Type 0} (f : X → List ℕ) (xs : List X) (k : ℕ) (d : X) (start size end : ℕ) (into piece : List ℕ) → k < length xs → start ≤ length into → end ≡ start + length piece → take start into ≡ flat_map f (take k xs) → piece ≡ f (get_or xs k d) → take end (put_mid start size into piece) ≡ flat_map f (take (k + 1) xs)
stored_more f xs k d start size end into piece lt inside end_is stored piece_is =
    take-put_mid start size into piece end end_is inside ∙ rw (stored, piece_is, take_more xs k d lt) (flat_map_more f [] (take k xs) (get_or xs k d))

-- and all pieces, behind the loop
pub stored_all : {X : Type 0} (f : X → List ℕ) (xs : List X) (k end : ℕ) (into : List ℕ) → length xs ≤ k → length into ≤ end → take end into ≡ flat_map f (take k xs) → into ≡ flat_map f xs
stored_all f xs k end into all whole stored = sym (take_all end into whole) ∙ stored ∙ ap (flat_map f) (take_all k xs all)

-- one more number behind those that were appended
pub mapped_more : {X : Type 0} (f : X → ℕ) (xs : List X) (i : ℕ) (d : X) (before so_far after : List ℕ) (x : ℕ) → i < length xs → so_far ≡ before ++ map f (take i xs) → x ≡ f (get_or xs i d) → after ≡ so_far ++ x ∷ [] → after ≡ before ++ map f (take (i + 1) xs)
mapped_more f xs i d before so_far after x lt so_far_is x_is after_is =
    rw (map_more f xs i d lt, after_is, so_far_is, x_is) (append_assoc before (map f (take i xs)) (f (get_or xs i d) ∷ []))

-- and all numbers, behind the loop
pub mapped_all : {X : Type 0} (f : X → ℕ) (xs ys : List X) (i : ℕ) (before after : List ℕ) → length xs ≤ i → xs ≡ ys → after ≡ before ++ map f (take i xs) → after ≡ before ++ map f ys
mapped_all f xs ys i before after all same after_is = after_is ∙ ap (λ (l : List _). before ++ map f l) (take_all i xs all ∙ same)

-- one more number that is 0
pub zeros_more : {X : Type 0} (f : X → ℕ) (xs : List X) (i : ℕ) (d : X) → i < length xs → map f (take i xs) ≡ replicate i 0 → f (get_or xs i d) ≡ 0 → map f (take (i + 1) xs) ≡ replicate (i + 1) 0
zeros_more f xs i d lt before zero = rw (map_more f xs i d lt, before, zero) (replicate_more i 0)

-- one of the zeros behind a list is stored
pub covered_more : (xs ys : List ℕ) (count len more : ℕ) → ys ≡ xs ++ 0 ∷ [] → more ≡ len + 1 → len < count → ys ++ replicate (count - more) 0 ≡ xs ++ replicate (count - len) 0
covered_more xs ys count len more ys_is more_is lt =
    let left : count - len ≡ suc (count - more) = omega arith in
    rw (ys_is, left) (append_assoc xs (0 ∷ []) (replicate (count - more) 0))

-- as many of a list's first items
pub take_same : (n m : ℕ) (xs ys : List ℕ) → ys ≡ take n xs → n ≡ m → ys ≡ take m xs
take_same n m xs ys is same = is ∙ ap (λ (k : ℕ). take k xs) same

-- no word, and no zeros behind
pub no_words : (xs : List ℕ) (n : ℕ) → xs ≡ [] → xs ++ replicate (0 - n) 0 ≡ []
no_words xs n none = let no : 0 - n ≡ 0 = omega arith in rw (none, no) refl
