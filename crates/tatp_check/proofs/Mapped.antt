-- Elements of mapped lists, and lists that rise by a key.
use Rattle.std.proofs.Common.{◌≡◌, ℕ, zero, suc, ◌<◌, List, [], ◌∷◌, length, map, All, AllPairs, Contains, get_or, refl, sym, ap, ◌∙◌, subst, arith}
use Rattle.std.proofs.lemmas.List.{get_or_default, length-map}

pub get_or-map : {X Y : Type 0} (f : X → Y) (xs : List X) (k : ℕ) (d : X) → get_or (map f xs) k (f d) ≡ f (get_or xs k d)
get_or-map f [] k d = refl
get_or-map f (x ∷ xs) zero d = refl
get_or-map f (x ∷ xs) (suc k) d = get_or-map f xs k d

-- what is mapped is an element
pub contains_map : {X Y : Type 0} (f : X → Y) (xs : List X) (x : X) → Contains xs x → Contains (map f xs) (f x)
contains_map f [] x c = absurd (omega (arith, c.1))
contains_map f (y ∷ ys) x (zero, below, is) = (0, omega arith, ap f is)
contains_map f (y ∷ ys) x (suc k, below, is) = let rest = contains_map f ys x (k, omega (arith, below), is) in (suc rest.0, omega (arith, rest.1), rest.2)

-- an element is mapped from one
pub contains_mapped : {X Y : Type 0} (f : X → Y) (xs : List X) (y : Y) → Contains (map f xs) y → (x : X) × Contains xs x × (f x ≡ y)
contains_mapped f [] y c = absurd (omega (arith, c.1))
contains_mapped f (x ∷ xs) y (zero, below, is) = (x, (0, omega arith, refl), is)
contains_mapped f (x ∷ xs) y (suc k, below, is) =
    let rest = contains_mapped f xs y (k, omega (arith, below), is) in (rest.0, (suc rest.1.0, omega (arith, rest.1.1), rest.1.2), rest.2)

-- two maps that agree at each element
pub map_agree : {X Y : Type 0} (f g : X → Y) (xs : List X) → ((x : X) → Contains xs x → f x ≡ g x) → map f xs ≡ map g xs
map_agree f g [] same = refl
map_agree f g (x ∷ xs) same =
    ap (λ v. v ∷ map f xs) (same x (0, omega arith, refl)) ∙ ap (λ l. g x ∷ l) (map_agree f g xs (λ y c. same y (suc c.0, omega (arith, c.1), c.2)))

pub map_map : {X Y Z : Type 0} (g : Y → Z) (f : X → Y) (xs : List X) → map g (map f xs) ≡ map (λ x. g (f x)) xs
map_map g f [] = refl
map_map g f (x ∷ xs) = ap (λ l. g (f x) ∷ l) (map_map g f xs)

pub all_mapped : {X Y : Type 0} (P : Y → Type 0) (f : X → Y) (xs : List X) → ((x : X) → Contains xs x → P (f x)) → All P (map f xs)
all_mapped P f [] holds k d below = absurd (omega (arith, below))
all_mapped P f (x ∷ xs) holds zero d below = holds x (0, omega arith, refl)
all_mapped P f (x ∷ xs) holds (suc k) d below = all_mapped P f xs (λ y c. holds y (suc c.0, omega (arith, c.1), c.2)) k d (omega (arith, below))

pub pairs_mapped : {X Y : Type 0} (R : Y → Y → Type 0) (f : X → Y) (xs : List X) → AllPairs (λ x y. R (f x) (f y)) xs → AllPairs R (map f xs)
pairs_mapped R f [] all i j d less below = absurd (omega (arith, below))
pairs_mapped R f (x ∷ xs) all i j d less below =
    let inside : j < length (x ∷ xs) = omega (arith, below, length-map (x ∷ xs) f) in
    let at_i : get_or (map f (x ∷ xs)) i d ≡ f (get_or (x ∷ xs) i x) = get_or_default (map f (x ∷ xs)) i d (f x) (omega arith) ∙ get_or-map f (x ∷ xs) i x in
    let at_j : get_or (map f (x ∷ xs)) j d ≡ f (get_or (x ∷ xs) j x) = get_or_default (map f (x ∷ xs)) j d (f x) below ∙ get_or-map f (x ∷ xs) j x in
    subst (λ v. R v (get_or (map f (x ∷ xs)) j d)) (sym at_i) (subst (R (f (get_or (x ∷ xs) i x))) (sym at_j) (all i j x less inside))
