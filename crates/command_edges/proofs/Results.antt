-- What is said of a result's value or of its fault.
use Rattle.std.specs.Prelude.{◌≡◌, Result, Ok, Err, IfOk, IfErr, IsOk, IsErr}
use Rattle.std.proofs.Common.{refl}

module _ {T E : Type 0} where
  pub ok_map : {P Q : T → Type 0} (r : Result T E) → ((v : T) → P v → Q v) → IfOk r P → IfOk r Q
  ok_map (Ok v) f h = f v h
  ok_map (Err e) f h = tt

  pub err_map : {P Q : E → Type 0} (r : Result T E) → ((e : E) → P e → Q e) → IfErr r P → IfErr r Q
  err_map (Ok v) f h = tt
  err_map (Err e) f h = f e h

  pub never_ok : {P : T → Type 0} (r : Result T E) → ((v : T) → P v → ⊥) → IfOk r P → IsErr r
  never_ok (Ok v) f h = absurd (f v h)
  never_ok (Err e) f h = refl

  pub ok_value : (r : Result T E) → IsOk r → (v : T) × (r ≡ Ok v)
  ok_value (Ok v) h = (v, refl)
  ok_value (Err e) h = cc h
