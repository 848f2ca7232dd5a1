-- The arrays of a run with one more.
use Rattle.std.proofs.Common.{◌≡◌, ℕ, ◌+◌, ◌-◌, ◌≤◌, List, [], ◌∷◌, length-append, arith}
use Rattle.std.proofs.lemmas.List.{get_or_append_left, get_or_at}
use Rattle.dude_base.specs.declared.write.Write.{Write}
use Rattle.dude_base.specs.Writes.{overwritten}
use Rattle.log_numbered.specs.Arrays.{RunArrays, array_at, last_number, with_writes}

pub one_more : (ws : List Write) (a : RunArrays) → last_number (with_writes ws a) ≡ last_number a + 1
one_more ws a = omega (arith, length-append a.others (overwritten ws (array_at a (last_number a)) ∷ []))

-- those before stay
pub array_stays : (ws : List Write) (a : RunArrays) (n : ℕ) → n ≤ last_number a → array_at (with_writes ws a) n ≡ array_at a n
array_stays ws a n le = get_or_append_left (a.opening ∷ a.others) (overwritten ws (array_at a (last_number a)) ∷ []) [] (n - a.first) (omega arith)

-- the new one is the last one overwritten
pub array_added : (ws : List Write) (a : RunArrays) (n : ℕ) → n ≡ last_number a + 1 → array_at (with_writes ws a) n ≡ overwritten ws (array_at a (last_number a))
array_added ws a n is = get_or_at (a.opening ∷ a.others) (overwritten ws (array_at a (last_number a))) [] [] (n - a.first) (omega arith)
