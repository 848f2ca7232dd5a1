-- A pass rests again after a turn in which boxes of its thread were emptied.
use Rattle.std.proofs.Common.{◌≡◌, ◌≢◌, ℕ, ◌==◌, ◌||◌, Bool, true, false, refl, sym, ap, ◌∙◌, subst, eq-eqb, ne_eqb}
use Rattle.std.specs.Prelude.{Some}
use Rattle.atomic_table.specs.declared.shared.Seat.{Seat}
use Rattle.core_events.specs.Setups.{Setup, box_of}
use Rattle.core_events.specs.Keyed.{find}
use Rattle.core_events.specs.Views.{View, Part}
use Rattle.core_events.specs.Events.{take_turn, give_turn, see_full, view_after}
use Rattle.core_events.specs.Conditions.{IsIdle}
use Rattle.core_table.specs.Known.{Known}
use Rattle.core_table.specs.Layout.{TableSight}
use Rattle.core_table.specs.Steps.{HasMade}
use Rattle.stm_transactions.specs.declared.pass_numbers.PassNumbers.{PassNumbers}
use Rattle.stm_transactions.specs.Passes.{Describes, GivesSeat, IsResting, PassSight, entry_numbers, first_view, greatest, is_given, pass_view}
use Rattle.stm_transactions.proofs.Rests.{given_rests}
use Rattle.transaction_trial.specs.Turning.{IsTurning}

-- the views differ in what was found, in kept page entries, and in what is kept of a turn alone
record IsLike (v w : View) : Type 0 where
  pub part : w.part ≡ v.part
  pub box : w.box ≡ v.box
  pub entries : w.entries ≡ v.entries
  pub pins : w.paging.pins ≡ v.paging.pins
  pub drawn : w.drawn ≡ v.drawn
  pub draws : w.draws ≡ v.draws
  pub tx : w.tx ≡ v.tx
  pub durable : w.turn.durable ≡ v.turn.durable
  pub met_fault : w.turn.met_fault ≡ v.turn.met_fault

or_false : (b : Bool) → (b || false) ≡ b
or_false true = refl
or_false false = refl

like_idle : (v w : View) → IsLike v w → IsIdle v → IsIdle w
like_idle v w l i = record { no_number = ap (λ x. x.hand.number) l.tx ∙ i.no_number; no_lock = ap (λ x. x.owned) l.tx ∙ i.no_lock; no_pin = l.pins ∙ i.no_pin }

like_describes : (z : Setup) (f : PassNumbers) (v w : View) → IsLike v w → Describes z f v → Describes z f w
like_describes z f v w l d = record {
  of = record { live = ap (λ (p : Part). p.is_spent) l.part ∙ d.of.live; its = ap (λ (p : Part). p.thread) l.part ∙ d.of.its };
  next = ap (λ b. b.next) l.box ∙ d.next;
  last = d.last ∙ sym (ap (λ es. greatest z.first (entry_numbers es)) l.entries);
  drawn = d.drawn ∙ sym (ap (λ ns. greatest 0 ns) l.drawn);
  left = l.draws ∙ d.left;
  splits = ap (λ (p : Part). p.splits) l.part ∙ d.splits;
  durable = l.durable ∙ d.durable;
  met_fault = l.met_fault ∙ d.met_fault;
  few = d.few;
  opening = d.opening;
}

-- ---- the steps of a turn
missed_like : (z : Setup) (v : View) (n : ℕ) → (n == 0) ≡ false → IsLike v (view_after z take_turn v n)
missed_like z v n is = rw is (record { part = refl; box = refl; entries = refl; drawn = refl; draws = refl; tx = refl; pins = refl; durable = refl; met_fault = refl })

given_like : (z : Setup) (v : View) → IsLike v (view_after z (give_turn false) v 0)
given_like z v = record { part = refl; box = refl; entries = refl; drawn = refl; draws = refl; tx = refl; pins = refl; durable = refl; met_fault = or_false v.turn.met_fault }

-- ---- of a seat
module _ {S X K : Type 0} (t : TableSight K) (f : PassNumbers) where
  module _ (p q : PassSight X) (s : Seat S (Known X)) (r : IsResting t p) (same : f ≡ p.numbers) (out : GivesSeat p q s) where
    view_is : pass_view p ≡ s.me.0.view
    view_is = ap first_view out.known

    its_idle : IsIdle s.me.0.view
    its_idle = subst IsIdle view_is r.idle

    its_describes : Describes t.setup f s.me.0.view
    its_describes = rw (sym view_is, same) r.numbers

    pub missed : (u : Seat S (Known X)) (n : ℕ) → HasMade t take_turn s u → u.me.0.view ≡ view_after t.setup take_turn s.me.0.view n → n ≢ 0 → IsResting t (is_given u f)
    missed u n m is some =
        let like : IsLike s.me.0.view u.me.0.view = rw is (missed_like t.setup s.me.0.view n (ne_eqb n 0 some)) in
        given_rests t u f u.me.0.view refl m.belongs (like_idle s.me.0.view u.me.0.view like its_idle) (ap (λ (v : View). v.turn.has_it) is ∙ no_turn_missed n some) (like_describes t.setup f s.me.0.view u.me.0.view like its_describes)
      where
        no_turn_missed : (n : ℕ) → n ≢ 0 → (view_after t.setup take_turn s.me.0.view n).turn.has_it ≡ false
        no_turn_missed n some = rw (ne_eqb n 0 some) (ap (λ (v : View). v.turn.has_it) (sym view_is) ∙ r.no_turn)

  pub given : (s u : Seat S (Known X)) → IsTurning t f s → HasMade t (give_turn false) s u → u.me.0.view ≡ view_after t.setup (give_turn false) s.me.0.view 0 → IsResting t (is_given u f)
  given s u i m is =
      let like : IsLike s.me.0.view u.me.0.view = rw is (given_like t.setup s.me.0.view) in
      given_rests t u f u.me.0.view refl m.belongs (like_idle s.me.0.view u.me.0.view like i.idle) (ap (λ (v : View). v.turn.has_it) is) (like_describes t.setup f s.me.0.view u.me.0.view like i.describes)

-- a box that was just seen full is kept as full
pub kept_full : (z : Setup) (v w : View) (t j n : ℕ) → w ≡ view_after z (see_full t j) v n → n ≢ 0 → find w.turn.full (box_of z t j) ≡ Some n
kept_full z v w t j n is some = rw (is, ne_eqb n 0 some, eq-eqb (box_of z t j) (box_of z t j) refl) refl
