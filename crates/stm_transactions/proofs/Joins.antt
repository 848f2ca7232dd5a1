-- A pass rests again after another was taken in.
use Rattle.std.proofs.Common.{◌≡◌, ℕ, ◌≤◌, Bool, ◌||◌, List, [], ◌∷◌, ◌++◌, refl, sym, ap, ◌∙◌, arith}
use Rattle.std.specs.Prelude.{Option, max}
use Rattle.atomic_table.specs.declared.shared.Seat.{Seat}
use Rattle.core_events.specs.Setups.{Setup}
use Rattle.core_events.specs.Keyed.{one_if}
use Rattle.core_events.specs.Views.{Entry, View}
use Rattle.core_events.specs.Partings.{both_of}
use Rattle.core_table.specs.Known.{Known}
use Rattle.core_table.specs.Layout.{TableSight}
use Rattle.core_table.specs.Seats.{known_both}
use Rattle.core_table.specs.Steps.{NowKnows}
use Rattle.stm_transactions.specs.declared.pass_numbers.PassNumbers.{PassNumbers}
use Rattle.stm_transactions.specs.Numbers.{both_numbers}
use Rattle.stm_transactions.specs.Passes.{Describes, GivesSeat, IsResting, PassSight, entry_numbers, first_view, greatest, is_given, pass_view}
use Rattle.stm_transactions.specs.Partings.{IsJoined}
use Rattle.stm_transactions.proofs.Rests.{given_rests}

-- the least that the greatest can be
greatest_from : (d : ℕ) (xs : List ℕ) → d ≤ greatest d xs
greatest_from d [] = omega arith
greatest_from d (x ∷ xs) = let rest = greatest_from d xs in omega arith

-- the greatest of two lists is the greater one of theirs
greatest_both : (d : ℕ) (xs ys : List Entry) → greatest d (entry_numbers (xs ++ ys)) ≡ max (greatest d (entry_numbers xs)) (greatest d (entry_numbers ys))
greatest_both d [] ys = let from = greatest_from d (entry_numbers ys) in omega arith
greatest_both d (x ∷ xs) ys = let rest = greatest_both d xs ys in omega arith

module _ (z : Setup) (f g : PassNumbers) (v w : View) (d : Describes z f v) (e : Describes z g w) where
  both_describes : Describes z (both_numbers f g) (both_of v w)
  both_describes = record {
    of = record { live = d.of.live; its = d.of.its };
    next = d.next;
    last = (let b = greatest_both z.first v.entries w.entries in let l = d.last in let m = e.last in omega arith);
    drawn = d.drawn;
    left = (let l = d.left in let m = e.left in omega arith);
    splits = (let l = d.splits in let m = e.splits in let t = ap (λ (o : Option ℕ). one_if o) e.of.its in omega arith);
    durable = (let l = d.durable in let m = e.durable in omega arith);
    met_fault = ap (λ (b : Bool). b || w.turn.met_fault) d.met_fault ∙ ap (λ (b : Bool). f.met_fault || b) e.met_fault;
    few = d.few;
    opening = d.opening;
  }

module _ {S X K : Type 0} (t : TableSight K) (p r p1 r1 : PassSight X) (s o u : Seat S (Known X)) (rests : IsResting t p) (other : IsResting t r) (out : GivesSeat p p1 s) (gone : GivesSeat r r1 o) where
  pub joins : (f : PassNumbers) (q : PassSight X) → NowKnows t s u (known_both s.me.0 o.me.0) → f ≡ both_numbers p.numbers r.numbers → q ≡ is_given u f → IsJoined t p r q
  joins f q known ef eq =
      let is : u.me.0.view ≡ both_of (pass_view p) (pass_view r) = ap (λ m. m.0.view) known.2 ∙ (ap (λ (v : View). both_of v o.me.0.view) (sym (ap first_view out.known)) ∙ ap (both_of (pass_view p)) (sym (ap first_view gone.known))) in
      rw (eq, ef) (record {
        rests = given_rests t u (both_numbers p.numbers r.numbers) (both_of (pass_view p) (pass_view r)) is known.0 (record { no_number = rests.idle.no_number; no_lock = rests.idle.no_lock; no_pin = rests.idle.no_pin }) rests.no_turn (both_describes t.setup p.numbers r.numbers (pass_view p) (pass_view r) rests.numbers other.numbers);
        view = is;
        numbers = refl;
      })
