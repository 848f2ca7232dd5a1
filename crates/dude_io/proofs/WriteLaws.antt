-- Writing a list piece by piece.
use Rattle.std.proofs.Common.{ℕ, ◌+◌, List, [], ◌++◌, take, drop, refl, sym, ◌∙◌, ap, arith, append_assoc, append-nil}
use Rattle.std.proofs.Math.Seq.{take-add}
use Rattle.dude_io.specs.Sink.{SinkSight, Took}

pub took_none : {s : SinkSight} → Took [] s s
took_none {s} = record { faults = omega arith; is_visible = refl; taken = λ told. sym (append-nil s.taken) }

-- one list behind another
pub took-then : {xs ys : List ℕ} {s t u : SinkSight} → Took xs s t → Took ys t u → Took (xs ++ ys) s u
took-then {xs} {ys} {s} {t} {u} a b = record {
  faults = omega arith;
  is_visible = b.is_visible ∙ a.is_visible;
  taken = λ told. b.taken (rw a.is_visible told) ∙ ap (λ z. z ++ ys) (a.taken told) ∙ append_assoc s.taken xs ys;
}

-- the prefix that was taken grows by the piece that was taken of the rest
pub took_more : (n m : ℕ) (all : List ℕ) {s t u : SinkSight} → Took (take n all) s t → Took (take m (drop n all)) t u → Took (take (n + m) all) s u
took_more n m all a b = rw (take-add n m all) (took-then a b)
