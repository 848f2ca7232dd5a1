-- The first element of a list that is as said.
use Rattle.std.proofs.Common.{◌≡◌, ℕ, ◌+◌, ◌<◌, ◌≤◌, List, [], ◌∷◌, ◌++◌, length, get_or, take, drop, map, sym, ◌∙◌, ap, subst, arith, add-one, append_assoc}
use Rattle.std.specs.Prelude.{All}
use Rattle.std.specs.List.{AllZip}
use Rattle.std.proofs.Math.Seq.{drop-cons}
use Rattle.std.proofs.lemmas.List.{take-append-drop, length-append, length-take-le, map-append, length-map}
use Rattle.std.proofs.lemmas.List.Elements.{All-append, All-map, All-head, All-tail}
use Rattle.command_edges.specs.Files.{IsFirst}
use Rattle.command_edges.proofs.Zips.{AllZip-back, splits}

split_at : {X : Type 0} (xs : List X) (i : ℕ) (d : X) → i < length xs → xs ≡ take i xs ++ get_or xs i d ∷ drop (i + 1) xs
split_at {X = X} xs i d below =
    sym (take-append-drop i xs) ∙ ap (λ (l : List X). take i xs ++ l) (drop-cons xs i d below ∙ ap (λ (n : ℕ). get_or xs i d ∷ drop n xs) (sym (add-one i)))

-- the element at this place, whose earlier ones are as said
pub IsFirst-at : {X : Type 0} (P Q : X → Type 0) (xs : List X) (i : ℕ) (d : X) → i < length xs → All P (take i xs) → Q (get_or xs i d) → IsFirst P Q xs (i + 1)
IsFirst-at P Q xs i d below earlier is = record {
  earlier = take i xs;
  this = get_or xs i d;
  later = drop (i + 1) xs;
  split = split_at xs i d below;
  counted = let long = length-take-le i xs (omega arith) in omega (arith, long);
  each_earlier = earlier;
  is_this = is;
}

-- what stands behind the element at this place of a mapped list, and how many stand before it
pub place_in_map : {X Y : Type 0} (f : X → Y) (xs : List X) (i : ℕ) (d : X) → i < length xs
    → (later : List Y) × (map f xs ≡ map f (take i xs) ++ f (get_or xs i d) ∷ later) × (i + 1 ≡ length (map f (take i xs)) + 1)
place_in_map f xs i d below = (
  map f (drop (i + 1) xs),
  ap (map f) (split_at xs i d below) ∙ map-append f (take i xs) (get_or xs i d ∷ drop (i + 1) xs),
  let long : length (map f (take i xs)) ≡ i = length-map (take i xs) f ∙ length-take-le i xs (omega arith) in omega (arith, long),
)

-- the same in a mapped list
pub IsFirst-map-at : {X Y : Type 0} (f : X → Y) (P Q : Y → Type 0) (xs : List X) (i : ℕ) (d : X) → i < length xs
    → All P (map f (take i xs)) → Q (f (get_or xs i d)) → IsFirst P Q (map f xs) (i + 1)
IsFirst-map-at f P Q xs i d below earlier is = record {
  earlier = map f (take i xs);
  this = f (get_or xs i d);
  later = (place_in_map f xs i d below).0;
  split = (place_in_map f xs i d below).1;
  counted = (place_in_map f xs i d below).2;
  each_earlier = earlier;
  is_this = is;
}

-- such an element of a list is one of the mapped list
pub IsFirst-mapped : {X Y : Type 0} (f : X → Y) (P Q : Y → Type 0) (xs : List X) (n : ℕ) → IsFirst (λ x. P (f x)) (λ x. Q (f x)) xs n → IsFirst P Q (map f xs) n
IsFirst-mapped f P Q xs n first = record {
  earlier = map f first.earlier;
  this = f first.this;
  later = map f first.later;
  split = ap (map f) first.split ∙ map-append f first.earlier (first.this ∷ first.later);
  counted = let long = length-map first.earlier f in let count = first.counted in omega (arith, long, count);
  each_earlier = All-map P f first.earlier first.each_earlier;
  is_this = first.is_this;
}

-- and it is one behind others that are as said of earlier ones
pub IsFirst-behind : {X : Type 0} (P Q : X → Type 0) (before xs : List X) (n : ℕ) → All P before → IsFirst P Q xs n → IsFirst P Q (before ++ xs) (length before + n)
IsFirst-behind {X = X} P Q before xs n all first = record {
  earlier = before ++ first.earlier;
  this = first.this;
  later = first.later;
  split = ap (λ (l : List X). before ++ l) first.split ∙ sym (append_assoc before first.earlier (first.this ∷ first.later));
  counted = let long = length-append before first.earlier in let count = first.counted in omega (arith, long, count);
  each_earlier = All-append P before first.earlier all first.each_earlier;
  is_this = first.is_this;
}

-- of two related lists the first one has such an element where the second has one
module _ {A B : Type 0} (R : A → B → Type 0) (P Q : B → Type 0) (P' Q' : A → Type 0)
    (p : (x : A) (y : B) → R x y → P y → P' x) (q : (x : A) (y : B) → R x y → Q y → Q' x) where
  pub IsFirst-zip : (xs : List A) (ys : List B) (n : ℕ) → AllZip R xs ys → IsFirst P Q ys n → IsFirst P' Q' xs n
  IsFirst-zip xs ys n both first =
      let parts = splits R xs first.earlier first.this first.later (subst (λ (l : List B). AllZip R xs l) first.split both) in
      record {
        earlier = parts.front;
        this = parts.this;
        later = parts.rest;
        split = parts.parts;
        counted = let long = parts.same_length in let so = first.counted in omega (arith, long, so);
        each_earlier = AllZip-back R P' P parts.front first.earlier p parts.fronts first.each_earlier;
        is_this = q parts.this first.this parts.both first.is_this;
      }

module _ {X : Type 0} where
  at_its_place : (P : X → Type 0) (earlier : List X) (this : X) (later : List X) → All P (earlier ++ this ∷ later) → P this
  at_its_place P [] this later all = All-head P this later all
  at_its_place P (x ∷ earlier) this later all = at_its_place P earlier this later (All-tail P x (earlier ++ this ∷ later) all)

  -- what holds of each element holds of this one
  pub IsFirst-all : (E P Q : X → Type 0) (xs : List X) (n : ℕ) (first : IsFirst P Q xs n) → All E xs → E first.this
  IsFirst-all E P Q xs n first all = at_its_place E first.earlier first.this first.later (subst (All E) first.split all)

  -- its number is one of the list's
  pub IsFirst-number : (P Q : X → Type 0) (xs : List X) (n : ℕ) → IsFirst P Q xs n → (1 ≤ n) × (n ≤ length xs)
  IsFirst-number P Q xs n first =
      let long = ap length first.split ∙ length-append first.earlier (first.this ∷ first.later) in
      let counted = first.counted in
      (omega (arith, counted), omega (arith, counted, long))
