-- The steps on pages that leave what is beside the view: a touch is loaded, a word is filled.
use Rattle.std.proofs.Common.{◌≡◌, ℕ, ◌+◌, ◌*◌, ◌<◌, List, ap, ◌∙◌, arith}
use Rattle.std.specs.Prelude.{Some}
use Rattle.dude_base.specs.declared.limits.TheConstants.{PAGE}
use Rattle.pmem_trait.specs.Sights.{Sight}
use Rattle.pmem_trait.specs.declared.medium.Medium.{Ghosts}
use Rattle.atomic_table.specs.declared.shared.Seat.{Seat}
use Rattle.core_events.specs.Setups.{Setup, page_of}
use Rattle.core_events.specs.Keyed.{find}
use Rattle.core_events.specs.Views.{View}
use Rattle.core_events.specs.Events.{fill, load_touch}
use Rattle.core_events.proofs.Lists.{find_head}
use Rattle.core_table.specs.Known.{Known}
use Rattle.core_table.specs.Layout.{TableSight}
use Rattle.core_table.specs.Steps.{HasMade, IsAfter, MayStep}
use Rattle.stm_slots.specs.Beside.{Beside}
use Rattle.stm_slots.specs.Opening.{setup_of}
use Rattle.stm_slots.specs.QuietSteps.{fact_of}
use Rattle.stm_slots.specs.declared.home.Home.{Home as TheHome}
use Rattle.stm_slots.specs.declared.slot.Slot.{Slot}
use Rattle.stm_slots.specs.declared.opening.Opening.{Opening}
use Rattle.stm_slots.proofs.Quiet.{fill_quiet, load_touch_quiet}
use Rattle.tiny_stm.specs.Filling.{MayFill}
use Rattle.tiny_stm.specs.Frames.{MayMakeRoom}
use Rattle.tiny_stm.specs.Paging.{Paged, page_view}
use Rattle.tiny_stm.proofs.Maps.{free_inside}
use Rattle.tiny_stm.proofs.Turning.{quiet_paged, quiet_turn}

module _ {M : Type 0} {ghosts : Ghosts M} (sight : M → Sight) (t : TableSight (Opening M ghosts)) where
  abbrev z : Setup
  z = setup_of sight t.key

  abbrev TurnSeat : Type 0
  TurnSeat = Seat (Slot M ghosts) (Known Beside)

  pub page_inside : (page : ℕ) (seat : TurnSeat) (h : TheHome M ghosts) → MayMakeRoom sight t page seat h → page < z.pages
  page_inside page seat h r = let e = ap (λ (y : Setup). y.pages) r.turn.setup in let m = r.map_is.pages in let a = r.absent.inside in omega arith

  -- ---- the touch
  pub may_touch : (page : ℕ) (seat : TurnSeat) (h : TheHome M ghosts) → MayMakeRoom sight t page seat h → MayStep (fact_of sight) t (load_touch page) seat
  may_touch page seat h r = let i = r.turn in record {
    seat = i.belongs;
    may = record { live = i.holding.live; threaded = i.holding.thread; named = (let m = r.map_is.pages in let a = r.absent.inside in omega arith); can = (i.holding.turn, r.absent.seen) };
    slots = rw i.setup (load_touch_quiet sight t.key page);
  }

  pub touched_room : (page n : ℕ) (old new : TurnSeat) (h : TheHome M ghosts) → MayMakeRoom sight t page old h → HasMade t (load_touch page) old new → IsAfter t (load_touch page) old new n → MayMakeRoom sight t page new h
  touched_room page n old new h r made view = record {
    turn = quiet_turn sight t old new h r.turn made.belongs (ap page_view view) made.beside made.slots;
    map_is = r.map_is;
    absent = record { inside = r.absent.inside; seen = ap (λ (v : View). find v.paging.entries page) view ∙ r.absent.seen; out = r.absent.out };
  }

  pub touched_paged : (page n : ℕ) (old new : TurnSeat) (h : TheHome M ghosts) → MayMakeRoom sight t page old h → HasMade t (load_touch page) old new → IsAfter t (load_touch page) old new n → Paged sight t old new h
  touched_paged page n old new h r made view = quiet_paged sight t old new h r.turn made.belongs made.id (ap page_view view) made.beside made.slots

  pub touch_kept : (page n : ℕ) (old new : TurnSeat) → IsAfter t (load_touch page) old new n → find new.me.0.view.turn.touches page ≡ Some n
  touch_kept page n old new view = ap (λ (v : View). find v.turn.touches page) view ∙ find_head old.me.0.view.turn.touches page n

  -- ---- a word
  module _ (page frame : ℕ) (words : List ℕ) (old : TurnSeat) (h : TheHome M ghosts) (m : MayFill sight t page frame words old h) (k x : ℕ) where
    pub may_fill : k < PAGE → MayStep (fact_of sight) t (fill page frame (page * PAGE + k) x) old
    may_fill small = let i = m.room.turn in record {
      seat = i.belongs;
      may = record {
        live = i.holding.live;
        threaded = i.holding.thread;
        named = (let p = m.room.map_is.pages in let a = m.room.absent.inside in ((omega arith), free_inside t.setup h.pager frame m.room.map_is m.free, (omega arith)));
        can = (i.holding.turn, (let b : page_of (page * PAGE + k) ≡ page = omega arith in b), (m.touch, m.touched));
      };
      slots = rw i.setup (fill_quiet sight t.key page frame (page * PAGE + k) x);
    }

    module _ (new : TurnSeat) (made : HasMade t (fill page frame (page * PAGE + k) x) old new) (view : IsAfter t (fill page frame (page * PAGE + k) x) old new 0) where
      pub filled_on : MayFill sight t page frame words new h
      filled_on = record {
        room = record {
          turn = quiet_turn sight t old new h m.room.turn made.belongs (ap page_view view) made.beside made.slots;
          map_is = m.room.map_is;
          absent = record { inside = m.room.absent.inside; seen = ap (λ (v : View). find v.paging.entries page) view ∙ m.room.absent.seen; out = m.room.absent.out };
        };
        free = m.free;
        number = m.number;
        shown = m.shown;
        touch = m.touch;
        touched = ap (λ (v : View). find v.turn.touches page) view ∙ m.touched;
        reproduced = m.reproduced;
        reached = m.reached;
        values = m.values;
      }

      pub filled_paged : Paged sight t old new h
      filled_paged = quiet_paged sight t old new h m.room.turn made.belongs made.id (ap page_view view) made.beside made.slots
