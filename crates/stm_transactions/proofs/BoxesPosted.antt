-- The slot of the next box, between the draw and the post.
use Rattle.std.proofs.Common.{◌≡◌, ℕ, List, [], ◌∷◌, ◌++◌, map, refl, sym, ap, ◌∙◌}
use Rattle.atomic_table.specs.declared.shared.Seat.{Seat}
use Rattle.core_events.specs.Setups.{Setup}
use Rattle.core_events.specs.Views.{View}
use Rattle.core_events.specs.Events.{Event, next_box}
use Rattle.core_table.specs.Known.{Known}
use Rattle.core_table.specs.Layout.{TableSight}
use Rattle.stm_transactions.specs.Boxes.{HasBox, TakesBox, GivesBox, with_box, without_box}
use Rattle.stm_transactions.specs.CommitRule.{GivesBack}
use Rattle.stm_transactions.specs.Seats.{Stays}

without_with : {S : Type 0} (taken : List S) (z : Setup) (v : View) (slots : List (ℕ × S)) → without_box taken (with_box taken z v slots) ≡ slots
without_with [] z v slots = refl
without_with (x ∷ taken) z v slots = without_with taken z v slots

module _ {S X K : Type 0} (taken : List S) (t : TableSight K) where
  -- a seat that took it has it still behind steps that keep the slots
  pub has_still : {e : Event} {n : ℕ} (s m u : Seat S (Known X)) → TakesBox taken t e s m n → Stays t m u → next_box t.setup u.me.0.view ≡ next_box t.setup s.me.0.view → HasBox taken t u
  has_still s m u took stays next =
      let slots : u.me.1 ≡ with_box taken t.setup s.me.0.view s.me.1 = stays.slots ∙ took.slots_are in
      let left : without_box taken u.me.1 ≡ s.me.1 = ap (λ (l : List (ℕ × S)). without_box taken l) slots ∙ without_with taken t.setup s.me.0.view s.me.1 in
      slots ∙ (ap (λ (b : ℕ). map (λ (x : S). (b, x)) taken ++ s.me.1) (sym next) ∙ ap (λ (l : List (ℕ × S)). with_box taken t.setup u.me.0.view l) (sym left))

  -- it is given behind such steps
  pub gives_behind : {e : Event} (s u w : Seat S (Known X)) → Stays t s u → GivesBox taken t e u w → GivesBack taken t s w
  gives_behind s u w stays gave = record {
    belongs = gave.belongs;
    id = gave.id ∙ stays.id;
    beside = gave.beside ∙ stays.beside;
    slots = gave.slots_are ∙ ap (λ (l : List (ℕ × S)). without_box taken l) stays.slots;
  }

  -- what was taken and given leaves the slots as they were
  pub stays_between : {e : Event} {n : ℕ} (s m u w : Seat S (Known X)) → TakesBox taken t e s m n → Stays t m u → GivesBack taken t u w → Stays t s w
  stays_between s m u w took stays gives = record {
    belongs = gives.belongs;
    id = gives.id ∙ (stays.id ∙ took.id);
    beside = gives.beside ∙ (stays.beside ∙ took.beside);
    slots = gives.slots ∙ (ap (λ (l : List (ℕ × S)). without_box taken l) (stays.slots ∙ took.slots_are) ∙ without_with taken t.setup s.me.0.view s.me.1);
  }
