-- A commit is lost before its draw.
use Rattle.std.proofs.Common.{◌≡◌, ℕ, ◌<◌, true, All, List, [], ◌∷◌, ◌++◌, Result, Ok, Err, sym, ap, ◌∙◌, subst, arith}
use Rattle.dude_base.specs.declared.write.Write.{Write}
use Rattle.word_space.specs.declared.stop.Stop.{Stop}
use Rattle.word_space.specs.declared.stop.Stop.TheVariants as stop
use Rattle.core_events.specs.Setups.{Setup}
use Rattle.core_events.specs.Keyed.{has}
use Rattle.core_events.specs.Events.{place_behind}
use Rattle.core_events.specs.Views.{Entry, View}
use Rattle.stm_transactions.specs.CommitEnds.{AsLost, HasMissed, IsLost}
use Rattle.stm_transactions.specs.Pages.{IsPageStop}
use Rattle.stm_transactions.specs.Pairs.{pairs_of}
use Rattle.stm_transactions.specs.Pins.{Paged}
use Rattle.stm_transactions.specs.Running.{IsRunning}
use Rattle.stm_transactions.specs.Seats.{HasRisen}
use Rattle.std.specs.Prelude.{IfErr}
use Rattle.stm_transactions.specs.declared.lost.Lost.{Lost}
use Rattle.stm_transactions.specs.declared.lost.Lost.TheVariants as lost

-- v0 lets its page go, and then pins pages of its writes up to one that it can't pin; w has none of them, and no lock
pub missed : (z : Setup) (thread snapshot : ℕ) (reads : List (ℕ × ℕ)) (ws : List Write) (held pins : List (ℕ × ℕ)) (v0 : View) → IsRunning z thread snapshot reads ws held pins v0 → (v : View) → Paged [] v0 v
    → (frames : List Write) (e : Stop) (v2 w : View) → Paged (pairs_of frames) v v2 → IsPageStop z ws e v2 × (HasRisen v.count v2.count)
    → w ≡ record v2 { tx = record v2.tx { owned = [] }; paging = record v2.paging { pins = [] } } → HasMissed z ws e v0 w
missed z thread snapshot reads ws held pins v0 r v p frames e v2 w q why is = record {
  ended = record {
    part = ap (λ (u : View). u.part) is ∙ (ap (λ (u : View). u.part) q.rest ∙ ap (λ (u : View). u.part) p.rest);
    turn = ap (λ (u : View). u.turn) is ∙ (ap (λ (u : View). u.turn) q.rest ∙ ap (λ (u : View). u.turn) p.rest);
    draws = ap (λ (u : View). u.draws) is ∙ (ap (λ (u : View). u.draws) q.rest ∙ ap (λ (u : View). u.draws) p.rest);
    drawn = ap (λ (u : View). u.drawn) is ∙ (ap (λ (u : View). u.drawn) q.rest ∙ ap (λ (u : View). u.drawn) p.rest);
    entries = ap (λ (u : View). u.entries) is ∙ (ap (λ (u : View). u.entries) q.rest ∙ ap (λ (u : View). u.entries) p.rest);
    box = ap (λ (u : View). u.box) is ∙ (ap (λ (u : View). u.box) q.rest ∙ ap (λ (u : View). u.box) p.rest);
    idle = record {
      no_number = ap (λ (u : View). u.tx.hand.number) is ∙ (ap (λ (u : View). u.tx.hand.number) q.rest ∙ (ap (λ (u : View). u.tx.hand.number) p.rest ∙ r.steady.undrawn.no_number));
      no_lock = ap (λ (u : View). u.tx.owned) is;
      no_pin = ap (λ (u : View). u.paging.pins) is;
    };
    counted = (let a = p.counted in let b = q.counted in let c = ap (λ (u : View). u.count) is in omega arith);
  };
  at = v2;
  why = why.0;
  undone = is;
  counted = (let a = p.counted in let b = why.1 in let c = ap (λ (u : View). u.count) is in omega arith);
}

pub lost_as : (z : Setup) (thread snapshot : ℕ) (reads : List (ℕ × ℕ)) (ws : List Write) (e : Stop) (l : Lost) (v w : View) → AsLost e l → HasMissed z ws e v w → IsLost z thread snapshot reads ws l v w
lost_as z thread snapshot reads ws (stop.Conflict lock seen) l v w same h = absurd same
lost_as z thread snapshot reads ws (stop.Out p) l v w same h = subst (λ (x : Lost). IsLost z thread snapshot reads ws x v w) (sym same) h
lost_as z thread snapshot reads ws (stop.Busy p seen) l v w same h = subst (λ (x : Lost). IsLost z thread snapshot reads ws x v w) (sym same) h
lost_as z thread snapshot reads ws stop.Wide l v w same h = absurd same
lost_as z thread snapshot reads ws stop.NoMemory l v w same h = absurd same

-- what lost it behind pins is what lost it before them
module _ (z : Setup) (thread snapshot : ℕ) (reads : List (ℕ × ℕ)) (ws : List Write) (pins : List (ℕ × ℕ)) (v0 v w : View) (p : Paged pins v0 v) where
  missed_before : (e : Stop) → HasMissed z ws e v w → HasMissed z ws e v0 w
  missed_before e m = record {
    ended = record {
      part = m.ended.part ∙ ap (λ (u : View). u.part) p.rest;
      turn = m.ended.turn ∙ ap (λ (u : View). u.turn) p.rest;
      draws = m.ended.draws ∙ ap (λ (u : View). u.draws) p.rest;
      drawn = m.ended.drawn ∙ ap (λ (u : View). u.drawn) p.rest;
      entries = m.ended.entries ∙ ap (λ (u : View). u.entries) p.rest;
      box = m.ended.box ∙ ap (λ (u : View). u.box) p.rest;
      idle = m.ended.idle;
      counted = (let a = p.counted in let b = m.ended.counted in omega arith);
    };
    at = m.at;
    why = m.why;
    undone = m.undone;
    counted = (let a = p.counted in let b = m.counted in omega arith);
  }

  pub lost_before : (l : Lost) → IsLost z thread snapshot reads ws l v w → IsLost z thread snapshot reads ws l v0 w
  lost_before (lost.Out page) h = missed_before (stop.Out page) h
  lost_before (lost.Busy page seen) h = missed_before (stop.Busy page seen) h
  lost_before (lost.Conflict lock seen n) h = record {
    part = h.part ∙ ap (λ (u : View). u.part) p.rest;
    turn = h.turn ∙ ap (λ (u : View). u.turn) p.rest;
    draws = h.draws ∙ ap (λ (u : View). u.draws) p.rest;
    drawn = h.drawn ∙ ap (λ (u : View). u.drawn ++ n ∷ []) p.rest;
    entries = h.entries ∙ ap (λ (u : View). u.entries) p.rest;
    over = subst (λ (es : List Entry). All (λ e. e.number < n) es) (ap (λ (u : View). u.entries) p.rest) h.over;
    newest = subst (λ (ns : List ℕ). (m : ℕ) → has ns m ≡ true → m < n) (ap (λ (u : View). u.drawn) p.rest) h.newest;
    idle = h.idle;
    next = h.next ∙ ap (λ (u : View). place_behind z u.box.next) p.rest;
    found = h.found;
    counted = (let a = p.counted in let b = h.counted in omega arith);
    of_read = h.of_read;
    bad = h.bad;
  }

-- the same of an answer
pub if_lost : {P Q : Lost → Type 0} (answer : Result ℕ Lost) → ((l : Lost) → P l → Q l) → IfErr answer P → IfErr answer Q
if_lost (Ok n) weaker is = is
if_lost (Err l) weaker is = weaker l is
