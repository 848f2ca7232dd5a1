-- The elements of a list that a function maps.
use Rattle.std.proofs.Common.{◌≡◌, zero, suc, List, [], ◌∷◌, map, refl, ap, arith}
use Rattle.std.specs.List.{Contains}

module _ {X Y : Type 0} (f : X → Y) where
  pub contains_map : (xs : List X) (x : X) → Contains xs x → Contains (map f xs) (f x)
  contains_map [] x c = absurd (omega (arith, c.1))
  contains_map (y ∷ xs) x (zero, within, is) = (0, omega arith, ap f is)
  contains_map (y ∷ xs) x (suc k, within, is) = let r = contains_map xs x (k, omega (arith, within), is) in (suc r.0, (let b = r.1 in omega arith), r.2)

  pub map_contains : (xs : List X) (y : Y) → Contains (map f xs) y → (x : X) × Contains xs x × (f x ≡ y)
  map_contains [] y c = absurd (omega (arith, c.1))
  map_contains (x ∷ xs) y (zero, within, is) = (x, (0, omega arith, refl), is)
  map_contains (x ∷ xs) y (suc k, within, is) = let r = map_contains xs y (k, omega (arith, within), is) in (r.0, (suc r.1.0, (let b = r.1.1 in omega arith), r.1.2), r.2)
