-- A pass rests again after a look at its box, and after a split.
use Rattle.std.proofs.Common.{◌≡◌, ◌≢◌, ℕ, ◌-◌, ◌<◌, false, refl, sym, ap, ◌∙◌, arith}
use Rattle.atomic_table.specs.declared.shared.Seat.{Seat}
use Rattle.core_events.specs.Setups.{Setup}
use Rattle.core_events.specs.Views.{View}
use Rattle.core_events.specs.Events.{number, see_box, view_after}
use Rattle.core_events.specs.Partings.{left_of, newcomer}
use Rattle.core_events.specs.Conditions.{IsIdle}
use Rattle.core_table.specs.Known.{Known}
use Rattle.core_table.specs.Layout.{TableSight}
use Rattle.core_table.specs.Seats.{known_left}
use Rattle.core_table.specs.Steps.{BelongsTo, NowKnows}
use Rattle.stm_transactions.specs.declared.pass_numbers.PassNumbers.{PassNumbers}
use Rattle.stm_transactions.specs.Numbers.{bit, left_numbers, newcomer_numbers, with_refusals}
use Rattle.stm_transactions.specs.Passes.{Describes, FindsEmpty, GivesSeat, HasSeen, IsRefused, IsResting, PassSight, first_view, is_given, pass_view}
use Rattle.stm_transactions.specs.Partings.{IsSplitOff}

-- ---- the numbers still describe the view
module _ (z : Setup) (f : PassNumbers) (v : View) (d : Describes z f v) where
  pub refused_describes : (k : ℕ) → Describes z (with_refusals k f) v
  refused_describes k = record { of = d.of; next = d.next; last = d.last; drawn = d.drawn; left = d.left; splits = d.splits; durable = d.durable; met_fault = d.met_fault; few = omega arith; opening = d.opening }

  see_describes : (n : ℕ) → Describes z f (view_after z see_box v n)
  see_describes n = record { of = record { live = d.of.live; its = d.of.its }; next = d.next; last = d.last; drawn = d.drawn; left = d.left; splits = d.splits; durable = d.durable; met_fault = d.met_fault; few = d.few; opening = d.opening }

  left_describes : (draws : ℕ) → Describes z (left_numbers draws f) (left_of draws v)
  left_describes draws = record { of = record { live = d.of.live; its = d.of.its }; next = d.next; last = d.last; drawn = d.drawn; left = ap (λ (n : ℕ). n - draws) d.left; splits = ap (λ (n : ℕ). n - 1) d.splits; durable = d.durable; met_fault = d.met_fault; few = d.few; opening = d.opening }

  newcomer_describes : (draws thread : ℕ) → Describes z (newcomer_numbers thread draws f.opening) (view_after z number (newcomer z 0 draws) thread)
  newcomer_describes draws thread = record { of = record { live = refl; its = refl }; next = refl; last = d.opening; drawn = refl; left = refl; splits = refl; durable = sym d.opening; met_fault = refl; few = omega arith; opening = d.opening }

-- a seat whose view is this goes into a pass, with numbers that describe it
pub given_rests : {S X K : Type 0} (t : TableSight K) (u : Seat S (Known X)) (f : PassNumbers) (v : View) → u.me.0.view ≡ v → BelongsTo t u → IsIdle v → v.turn.has_it ≡ false → Describes t.setup f v → IsResting t (is_given u f)
given_rests t u f v is b idle none d = record {
  table = b.table;
  small = b.small;
  seat = (u.me.0, refl);
  idle = rw is idle;
  no_turn = ap (λ (x : View). x.turn.has_it) is ∙ none;
  seated = b.seated;
  numbers = rw is d;
}

module _ {S X K : Type 0} (t : TableSight K) (p q : PassSight X) (s u : Seat S (Known X)) (r : IsResting t p) (out : GivesSeat p q s) (b : BelongsTo t u) where
  view_is : pass_view p ≡ s.me.0.view
  view_is = ap first_view out.known

  module _ (seen : ℕ) (is : u.me.0.view ≡ view_after t.setup see_box s.me.0.view seen) where
    after_is : u.me.0.view ≡ view_after t.setup see_box (pass_view p) seen
    after_is = rw view_is is

    see_rests : (f : PassNumbers) → Describes t.setup f (pass_view p) → HasSeen t seen p (is_given u f)
    see_rests f d = record {
      rests = given_rests t u f (view_after t.setup see_box (pass_view p) seen) after_is b (record { no_number = r.idle.no_number; no_lock = r.idle.no_lock; no_pin = r.idle.no_pin }) r.no_turn (see_describes t.setup f (pass_view p) d seen);
      view = after_is;
    }

    pub see_refused : (f : PassNumbers) (w : PassSight X) → f ≡ with_refusals (bit p.numbers.had_turn) p.numbers → w ≡ is_given u f → seen ≢ 0 → IsRefused t seen p w
    see_refused f w e is2 pos = rw (is2, e) (record { full = omega arith; looked = see_rests _ (refused_describes t.setup p.numbers (pass_view p) r.numbers (bit p.numbers.had_turn)); numbers = refl })

    pub see_empty : (w : PassSight X) → w ≡ is_given u p.numbers → seen ≡ 0 → FindsEmpty t p w
    see_empty w is2 none = rw is2 (record { looked = rw (sym none) (see_rests p.numbers r.numbers); empty = ap (λ (x : View). x.box.is_empty) (rw none at after_is); numbers = refl })

module _ {S X K : Type 0} (t : TableSight K) (p q : PassSight X) (s u w : Seat S (Known X)) (r : IsResting t p) (out : GivesSeat p q s) (draws thread : ℕ) where
  pub split_off : (f g : PassNumbers) (p2 p3 : PassSight X) → 0 < p.numbers.splits → NowKnows t s u (known_left draws s.me.0) → w.me.0.view ≡ view_after t.setup number (newcomer t.setup 0 draws) thread → BelongsTo t w
      → f ≡ left_numbers draws p.numbers → g ≡ newcomer_numbers thread draws p.numbers.opening → p2 ≡ is_given u f → p3 ≡ is_given w g → IsSplitOff t draws p p2 p3
  split_off f g p2 p3 some known new b ef eg e2 e3 =
      let is : u.me.0.view ≡ left_of draws (pass_view p) = ap (λ m. m.0.view) known.2 ∙ ap (left_of draws) (sym (ap first_view out.known)) in
      rw (e2, e3, ef, eg) (record {
        some = some;
        rests = given_rests t u (left_numbers draws p.numbers) (left_of draws (pass_view p)) is known.0 (record { no_number = r.idle.no_number; no_lock = r.idle.no_lock; no_pin = r.idle.no_pin }) r.no_turn (left_describes t.setup p.numbers (pass_view p) r.numbers draws);
        view = is;
        numbers = refl;
        other = given_rests t w (newcomer_numbers thread draws p.numbers.opening) (view_after t.setup number (newcomer t.setup 0 draws) thread) new b (record { no_number = refl; no_lock = refl; no_pin = refl }) refl (newcomer_describes t.setup p.numbers (pass_view p) r.numbers draws thread);
        new_view = new;
        new_numbers = refl;
      })
