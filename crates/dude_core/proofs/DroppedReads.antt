-- What an event drops of the words read.
use Rattle.std.proofs.Common.{◌≡◌, ◌==◌, ℕ, Bool, List, [], sym, ap, subst, ◌∙◌, if◌then◌else◌}
use Rattle.std.specs.Prelude.{slice_index}
use Rattle.core_events.specs.Setups.{Setup, without_pins}
use Rattle.core_events.specs.Views.{View}
use Rattle.core_events.specs.Words.{State}
use Rattle.core_events.specs.Events.{kept_entry, unfilled}
use Rattle.core_medium.specs.Stores.{Store}
use Rattle.dude_core.specs.declared.deed.TurnDeed.{TurnDeed}
use Rattle.dude_core.specs.declared.deed.TurnDeed.TheVariants.{TakeTurn}
use Rattle.dude_core.specs.declared.deed.PageDeed.{PageDeed}
use Rattle.dude_core.specs.declared.deed.PageDeed.TheVariants.{Evict}
use Rattle.dude_core.specs.declared.dropped.Dropped.{Dropped}
use Rattle.dude_core.specs.Named.{of_turn, of_page}
use Rattle.dude_core.specs.DroppedReads.{dropped_from, Drops}

-- a turn that is taken drops all, one that isn't nothing
pub take_drops : (z : Setup) (c s : State) (v : View) (t : TurnDeed) (r : Dropped) → t ≡ TakeTurn → s ≡ c → ((read : List (ℕ × ℕ)) → dropped_from r read ≡ (if s.turn == 0 then [] else read)) → Drops z (of_turn t) c v r
take_drops z c s v t r t_is s_is drops = subst (λ (u : TurnDeed). Drops z (of_turn u) c v r) (sym t_is)
    (λ d. ap (λ (xs : List (ℕ × ℕ)). let e : Store = record d { read = xs } in e) (sym (drops d.read ∙ ap (λ (q : State). if q.turn == 0 then [] else d.read) s_is)))

-- a page that is evicted is dropped, one that isn't isn't
pub evict_drops : (z : Setup) (c : State) (v : View) (t : PageDeed) (p : ℕ) (b : Bool) (r : Dropped) → t ≡ Evict p → b ≡ (slice_index c.entries p == without_pins (kept_entry v p))
    → ((read : List (ℕ × ℕ)) → dropped_from r read ≡ (if b then unfilled p read else read)) → Drops z (of_page t) c v r
evict_drops z c v t p b r t_is b_is drops = subst (λ (u : PageDeed). Drops z (of_page u) c v r) (sym t_is)
    (λ d. ap (λ (xs : List (ℕ × ℕ)). let e : Store = record d { read = xs } in e) (sym (drops d.read ∙ ap (λ (q : Bool). if q then unfilled p d.read else d.read) b_is)))
