-- What is said of the log outlasts changes of what is beside it.
use Rattle.std.proofs.Common.{◌≡◌, ℕ, zero, suc, ◌+◌, ◌<◌, ◌≤◌, ◌⊎◌, List, refl, sym, ap, ◌∙◌, inl, inr, arith}
use Rattle.std.specs.Prelude.{Some}
use Rattle.std.specs.List.{Contains}
use mathlib.Core.Option.{some}
use mathlib.Core.Logic.{dite}
use native.Mathlib.Decide.{dec_lt}
use lib.ListN.{get_elem?}
use Rattle.dude_base.specs.declared.write.Write.{Write}
use Rattle.dude_base.specs.Records.{first_of, Covers}
use Rattle.dude_base.specs.Writes.{written}
use Rattle.redo_record.specs.LogState.{LogState}
use Rattle.redo_record.specs.Waiting.{Waiting}
use Rattle.core_events.specs.Setups.{Setup}
use Rattle.core_events.specs.Entries.{History, value}
use Rattle.core_events.proofs.Values.{value_agree}
use Rattle.core_medium.specs.KeptLog.{last_write, IsOnMedium, IsPosted, IsOverRing, Drawer, LogStands}

-- a number that is on the medium still is, where the mark rises and no covered number is lost
pub on_medium_more : (l l2 : LogState) (n : ℕ) → l.reproduced ≤ l2.reproduced → ((w : Waiting) → Contains l.waiting w → Covers w.redo n → IsOnMedium l2 n) → IsOnMedium l n → IsOnMedium l2 n
on_medium_more l l2 n up more (inl low) = inl (omega arith)
on_medium_more l l2 n up more (inr w) = more w.0 w.1 w.2

-- histories that agree on some numbers give these one last write
last_agree : (hist hist2 : History) (first more i : ℕ) → ((n : ℕ) → first ≤ n → n ≤ first + more → hist2 n ≡ hist n) → last_write hist2 first more i ≡ last_write hist first more i
last_agree hist hist2 first zero i same = ap (λ (ws : List Write). written ws i) (same first (omega arith) (omega arith))
last_agree hist hist2 first (suc more) i same =
    rw (same (first + suc more) (omega arith) (omega arith), last_agree hist hist2 first more i (λ n low high. same n low (omega arith))) refl

-- of drawers it says only that each is over what waits in its ring
pub stands_drawn : (z : Setup) (hist : History) (boxes left : List ℕ) (old new : List Drawer) (l : LogState) → LogStands z hist boxes left old l
    → ((i t : ℕ) (r : Drawer) → get_elem? new i ≡ some r → r.thread ≡ Some t → 0 < r.number → IsOverRing l t r.number) → LogStands z hist boxes left new l
stands_drawn z hist boxes left old new l k drawn = record { from = k.from; home = k.home; marked = k.marked; waits = k.waits; left_on = k.left_on; boxed = k.boxed; drawn = drawn }

module _ (z : Setup) (hist hist2 : History) (boxes left : List ℕ) (drawers : List Drawer) (l : LogState) (k : LogStands z hist boxes left drawers l)
    (same : (n : ℕ) → (n ≤ z.first) ⊎ IsPosted boxes left n → hist2 n ≡ hist n) where
  -- a number up to the mark
  low_or_posted : (n : ℕ) → n ≤ l.reproduced → (n ≤ z.first) ⊎ IsPosted boxes left n
  low_or_posted n le = dite (dec_lt z.first n) (λ lt. inr (k.marked n lt le)) (λ ge. inl (omega arith))

  -- a value up to the mark stays
  pub value_on : (m i : ℕ) → m ≤ l.reproduced → value z.opening hist2 m i ≡ value z.opening hist m i
  value_on m i le = value_agree z.opening hist hist2 m i (λ n low. same n (low_or_posted n (omega arith)))

  pub stands_hist : LogStands z hist2 boxes left drawers l
  stands_hist = record {
    from = k.from;
    home = λ i lt. k.home i lt ∙ sym (value_on l.reproduced i (omega arith));
    marked = k.marked;
    waits = λ w is. let o = k.waits w is in let over = o.over in record {
      over = o.over;
      posted = o.posted;
      writes = λ i. o.writes i ∙ sym (last_agree hist hist2 (first_of w.redo) w.redo.span i (λ n low high. same n (inr (o.posted n (record { low = low; high = omega arith })))));
    };
    left_on = k.left_on;
    boxed = k.boxed;
    drawn = k.drawn;
  }
