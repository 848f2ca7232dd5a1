-- Lists whose elements are related, place by place.
use Rattle.std.proofs.Common.{◌≡◌, ◌-◌, refl, ap, get_or, drop, take, length, arith, List, [], ◌∷◌, ◌++◌}
use Rattle.std.specs.Prelude.{All, map}
use Rattle.std.specs.List.{AllZip}
use Rattle.std.proofs.lemmas.List.{take_all}
use Rattle.std.proofs.lemmas.List.Elements.{All-nil, All-cons, All-head, All-tail}

module _ {A B : Type 0} (R : A → B → Type 0) where
  pub AllZip-more : (xs : List A) (ys : List B) (x : A) (y : B) → AllZip R xs ys → R x y → AllZip R (xs ++ x ∷ []) (ys ++ y ∷ [])
  AllZip-more [] [] x y none is = (is, tt)
  AllZip-more [] (v ∷ ys) x y none is = absurd none
  AllZip-more (u ∷ xs) [] x y none is = absurd none
  AllZip-more (u ∷ xs) (v ∷ ys) x y both is = (both.0, AllZip-more xs ys x y both.1 is)

  -- what each pair says of its first element
  pub AllZip-firsts : (P : A → Type 0) (xs : List A) (ys : List B) → ((x : A) (y : B) → R x y → P x) → AllZip R xs ys → All P xs
  AllZip-firsts P [] [] f both = All-nil P
  AllZip-firsts P [] (v ∷ ys) f both = absurd both
  AllZip-firsts P (u ∷ xs) [] f both = absurd both
  AllZip-firsts P (u ∷ xs) (v ∷ ys) f both = All-cons P u xs (f u v both.0) (AllZip-firsts P xs ys f both.1)

  -- and of its second one
  pub AllZip-seconds : (P : B → Type 0) (xs : List A) (ys : List B) → ((x : A) (y : B) → R x y → P y) → AllZip R xs ys → All P ys
  AllZip-seconds P [] [] f both = All-nil P
  AllZip-seconds P [] (v ∷ ys) f both = absurd both
  AllZip-seconds P (u ∷ xs) [] f both = absurd both
  AllZip-seconds P (u ∷ xs) (v ∷ ys) f both = All-cons P v ys (f u v both.0) (AllZip-seconds P xs ys f both.1)

  -- what each pair says of its first element, where something is said of the second one
  pub AllZip-back : (P : A → Type 0) (Q : B → Type 0) (xs : List A) (ys : List B) → ((x : A) (y : B) → R x y → Q y → P x) → AllZip R xs ys → All Q ys → All P xs
  AllZip-back P Q [] [] f both all = All-nil P
  AllZip-back P Q [] (v ∷ ys) f both all = absurd both
  AllZip-back P Q (u ∷ xs) [] f both all = absurd both
  AllZip-back P Q (u ∷ xs) (v ∷ ys) f both all = All-cons P u xs (f u v both.0 (All-head Q v ys all)) (AllZip-back P Q xs ys f both.1 (All-tail Q v ys all))

-- Of two related lists one splits as the other.
pub record Splits {A B : Type 0} (R : A → B → Type 0) (xs : List A) (ys : List B) (y : B) : Type 0 where
  pub front : List A
  pub this : A
  pub rest : List A
  pub parts : xs ≡ front ++ this ∷ rest
  pub same_length : length front ≡ length ys
  pub fronts : AllZip R front ys
  pub both : R this y

pub splits : {A B : Type 0} (R : A → B → Type 0) (xs : List A) (ys : List B) (y : B) (zs : List B) → AllZip R xs (ys ++ y ∷ zs) → Splits R xs ys y
splits R [] [] y zs zip = absurd zip
splits R (x ∷ xs) [] y zs zip = record { front = []; this = x; rest = xs; parts = refl; same_length = refl; fronts = tt; both = zip.0 }
splits R [] (z ∷ ys) y zs zip = absurd zip
splits {A = A} R (x ∷ xs) (z ∷ ys) y zs zip =
    let rest = splits R xs ys y zs zip.1 in
    record {
      front = x ∷ rest.front;
      this = rest.this;
      rest = rest.rest;
      parts = ap (λ (l : List A). x ∷ l) rest.parts;
      same_length = let long = rest.same_length in omega (arith, long);
      fronts = (zip.0, rest.fronts);
      both = rest.both;
    }

-- two relations, one behind the other
pub AllZip-then : {A B C : Type 0} (R : A → B → Type 0) (S : B → C → Type 0) (T : A → C → Type 0) (xs : List A) (ys : List B) (zs : List C)
    → ((x : A) (y : B) (z : C) → R x y → S y z → T x z) → AllZip R xs ys → AllZip S ys zs → AllZip T xs zs
AllZip-then R S T [] [] [] f r s = tt
AllZip-then R S T [] [] (z ∷ zs) f r s = absurd s
AllZip-then R S T [] (y ∷ ys) zs f r s = absurd r
AllZip-then R S T (x ∷ xs) [] zs f r s = absurd r
AllZip-then R S T (x ∷ xs) (y ∷ ys) [] f r s = absurd s
AllZip-then R S T (x ∷ xs) (y ∷ ys) (z ∷ zs) f r s = (f x y z r.0 s.0, AllZip-then R S T xs ys zs f r.1 s.1)

-- a relation of a mapped list
pub AllZip-unmapped : {X A B : Type 0} (R : A → B → Type 0) (f : X → A) (xs : List X) (ys : List B) → AllZip R (map f xs) ys → AllZip (λ x y. R (f x) y) xs ys
AllZip-unmapped R f [] [] both = tt
AllZip-unmapped R f [] (v ∷ ys) both = absurd both
AllZip-unmapped R f (u ∷ xs) [] both = absurd both
AllZip-unmapped R f (u ∷ xs) (v ∷ ys) both = (both.0, AllZip-unmapped R f xs ys both.1)

-- the first element's other one, and the pairs behind it
pub AllZip-front : {A B : Type 0} (R : A → B → Type 0) (x : A) (xs : List A) (ys : List B) → AllZip R (x ∷ xs) ys → (y : B) × R x y × ((d : B) → y ≡ get_or ys 0 d)
AllZip-front R x xs [] both = absurd both
AllZip-front R x xs (y ∷ ys) both = (y, both.0, λ d. refl)

pub AllZip-behind : {A B : Type 0} (R : A → B → Type 0) (x : A) (xs : List A) (ys : List B) → AllZip R (x ∷ xs) ys → AllZip R xs (drop 1 ys)
AllZip-behind R x xs [] both = absurd both
AllZip-behind R x xs (y ∷ ys) both = both.1

-- a slice behind the first element is all that is behind it
pub all_behind : {X : Type 0} (xs : List X) → take (length xs - 1) (drop 1 xs) ≡ drop 1 xs
all_behind [] = refl
all_behind (x ∷ xs) = take_all (length (x ∷ xs) - 1) xs (omega arith)
