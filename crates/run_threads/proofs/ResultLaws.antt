-- What follows of a result.
use Rattle.std.specs.Prelude.{Result, Ok, Err, OnErr, OnOk}

-- what holds anyhow holds at an Err
pub on_err : {T E P : Type 0} (r : Result T E) → P → OnErr r P
on_err (Ok x) p = tt
on_err (Err e) p = p

-- what follows from two facts at an Ok holds there
pub ok_with : {T E P Q R : Type 0} (r : Result T E) → (P → Q → R) → OnOk r P → OnOk r Q → OnOk r R
ok_with (Ok x) f p q = f p q
ok_with (Err e) f p q = tt
