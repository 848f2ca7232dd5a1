-- A pass rests behind a turn, or an attempt at one.
use Rattle.std.proofs.Common.{◌≡◌, ◌≢◌, ℕ, ◌≤◌, Bool, refl, sym, ap, ◌∙◌, subst, ne_eqb, arith}
use Rattle.atomic_table.specs.declared.shared.Seat.{Seat}
use Rattle.core_events.specs.Setups.{Setup}
use Rattle.core_events.specs.Views.{View, the_turn}
use Rattle.core_events.specs.Events.{take_turn, give_turn, noticed, one_more, view_after}
use Rattle.core_events.specs.Conditions.{IsIdle}
use Rattle.core_table.specs.Known.{Known}
use Rattle.core_table.specs.Layout.{TableSight}
use Rattle.core_table.specs.Steps.{BelongsTo, IsAfter}
use Rattle.stm_transactions.specs.declared.pass_numbers.PassNumbers.{PassNumbers}
use Rattle.stm_transactions.specs.Numbers.{with_refusals}
use Rattle.stm_transactions.specs.Passes.{Describes, GivesSeat, IsResting, PassSight, entry_numbers, first_view, greatest, is_given, pass_view}
use Rattle.stm_transactions.proofs.Rests.{given_rests, refused_describes}
use Rattle.tiny_stm.specs.Paging.{turn_view}
use Rattle.tiny_stm.specs.Turned.{KeepsWork}

-- the view that took the turn and gave it
abbrev pub turned : Setup → Bool → View → View
turned z failed v = view_after z (give_turn failed) (view_after z take_turn v 0) 0

-- ---- a turn that was taken and given
module _ (z : Setup) (f : PassNumbers) (v w : View) (d : Describes z f v) (failed : Bool) (is : turn_view w ≡ turn_view (turned z failed v)) where
  -- whatever it left of the durable number and of faults
  pub described : (n : ℕ) (fault had_turn : Bool) → w.turn.durable ≡ n → w.turn.met_fault ≡ fault → Describes z (record f { durable = n; met_fault = fault; had_turn = had_turn }) w
  described n fault had_turn durable met = record {
    of = record { live = ap (λ (x : View). x.part.is_spent) is ∙ d.of.live; its = ap (λ (x : View). x.part.thread) is ∙ d.of.its };
    next = ap (λ (x : View). x.box.next) is ∙ d.next;
    last = d.last ∙ ap (λ (x : View). greatest z.first (entry_numbers x.entries)) (sym is);
    drawn = d.drawn ∙ ap (λ (x : View). greatest 0 x.drawn) (sym is);
    left = ap (λ (x : View). x.draws) is ∙ d.left;
    splits = ap (λ (x : View). x.part.splits) is ∙ d.splits;
    durable = durable;
    met_fault = met;
    few = d.few;
    opening = d.opening;
  }

-- the turn word wasn't 0
held_view : (z : Setup) (v : View) (n : ℕ) → n ≢ 0 → view_after z take_turn v n ≡ noticed the_turn n v
held_view z v n some = rw (ne_eqb n 0 some) refl

-- ---- what is left of the pass
-- what a call leaves that takes the turn, behind which it took so many
pub record Leaves {X K : Type 0} (t : TableSight K) (count : ℕ) (p q : PassSight X) : Type 0 where
  pub rests : IsResting t q
  pub stays : KeepsWork p q
  pub turns : (pass_view q).turn.count ≡ count

module _ {S X K : Type 0} (t : TableSight K) (p q : PassSight X) (s u : Seat S (Known X)) (r : IsResting t p) (out : GivesSeat p q s) (b : BelongsTo t u) where
  view_is : pass_view p ≡ s.me.0.view
  view_is = ap first_view out.known

  pub before : Describes t.setup p.numbers s.me.0.view
  before = subst (Describes t.setup p.numbers) view_is r.numbers

  -- the view of the pass, but for the work, which is that of another
  abbrev work_of : View → View
  work_of w = record (pass_view p) { part = w.part; entries = w.entries; draws = w.draws; drawn = w.drawn; tx = w.tx; box = w.box }

  keeps_work : (r : PassSight X) → work_of (pass_view r) ≡ pass_view p → (pass_view p).turn.durable ≤ (pass_view r).turn.durable → KeepsWork p r
  keeps_work r same rises = record {
    part = ap (λ (x : View). x.part) same;
    entries = ap (λ (x : View). x.entries) same;
    draws = ap (λ (x : View). x.draws) same;
    drawn = ap (λ (x : View). x.drawn) same;
    tx = ap (λ (x : View). x.tx) same;
    box = ap (λ (x : View). x.box) same;
    durable = rises;
  }

  -- a turn was taken and given
  module _ (failed : Bool) (is : turn_view u.me.0.view ≡ turn_view (turned t.setup failed s.me.0.view)) (rises : s.me.0.view.turn.durable ≤ u.me.0.view.turn.durable) where
    from_pass : turn_view u.me.0.view ≡ turn_view (turned t.setup failed (pass_view p))
    from_pass = is ∙ ap (λ (x : View). turn_view (turned t.setup failed x)) (sym view_is)

    idle_still : IsIdle u.me.0.view
    idle_still = record {
      no_number = ap (λ (x : View). x.tx.hand.number) from_pass ∙ r.idle.no_number;
      no_lock = ap (λ (x : View). x.tx.owned) from_pass ∙ r.idle.no_lock;
      no_pin = ap (λ (x : View). x.paging.pins) from_pass ∙ r.idle.no_pin;
    }

    pub turn_leaves : (g : PassNumbers) → Describes t.setup g u.me.0.view → Leaves t (one_more (pass_view p).turn.count) p (is_given u g)
    turn_leaves g d = record {
      rests = given_rests t u g u.me.0.view refl b idle_still (ap (λ (x : View). x.turn.has_it) from_pass) d;
      stays = keeps_work (is_given u g) (ap work_of from_pass) (let same = ap (λ (x : View). x.turn.durable) view_is in omega arith);
      turns = ap (λ (x : View). x.turn.count) from_pass;
    }

  -- it was held by another
  pub held_leaves : (seen : ℕ) → seen ≢ 0 → IsAfter t take_turn s u seen → Leaves t (pass_view p).turn.count p (is_given u (with_refusals 1 p.numbers))
  held_leaves seen some after =
      let is : u.me.0.view ≡ noticed the_turn seen (pass_view p) = after ∙ (held_view t.setup s.me.0.view seen some ∙ ap (noticed the_turn seen) (sym view_is)) in record {
        rests = given_rests t u (with_refusals 1 p.numbers) (noticed the_turn seen (pass_view p)) is b (record { no_number = r.idle.no_number; no_lock = r.idle.no_lock; no_pin = r.idle.no_pin }) r.no_turn (refused_describes t.setup p.numbers (noticed the_turn seen (pass_view p)) (noticed_describes seen) 1);
        stays = keeps_work (is_given u (with_refusals 1 p.numbers)) (ap work_of is) (let same = ap (λ (x : View). x.turn.durable) is in omega arith);
        turns = ap (λ (x : View). x.turn.count) is;
      }
    where
      noticed_describes : (n : ℕ) → Describes t.setup p.numbers (noticed the_turn n (pass_view p))
      noticed_describes n = let d = r.numbers in record { of = record { live = d.of.live; its = d.of.its }; next = d.next; last = d.last; drawn = d.drawn; left = d.left; splits = d.splits; durable = d.durable; met_fault = d.met_fault; few = d.few; opening = d.opening }
