-- What a step on a page's entry tells the thread with the turn.
use Rattle.std.specs.Prelude.{◌≡◌, ℕ, Some}
use Rattle.pmem_trait.specs.Sights.{Sight}
use Rattle.pmem_trait.specs.declared.medium.Medium.{Ghosts}
use Rattle.back_store.specs.BackView.{state_of}
use Rattle.core_events.specs.Events.{Event, entry, evict, view_after}
use Rattle.core_events.specs.Telling.{IsTold}
use Rattle.stm_slots.specs.KnownLists.{lists}
use Rattle.stm_slots.specs.Beside.{Hands}
use Rattle.stm_slots.specs.Opening.{setup_of}
use Rattle.stm_slots.specs.Turns.{Seated, map_evicted}
use Rattle.stm_slots.specs.declared.home.Home.{Home as TheHome}
use Rattle.stm_slots.specs.declared.opening.Opening.{Opening}
use Rattle.tiny_stm.specs.Paging.{FindsEntry}

module _ {M : Type 0} {ghosts : Ghosts M} (sight : M → Sight) where
  -- The step e was made, and leaves this of the back's slot beside the view
  pub record PagedTo (o : Opening M ghosts) (e : Event) (h : TheHome M ghosts) (m : Seated M ghosts) (n : ℕ) (w : Seated M ghosts) : Type 0 where
    pub told : IsTold (setup_of sight o) e m.0.view n
    pub view : w.0.view ≡ view_after (setup_of sight o) e m.0.view n
    pub beside : (hs : Hands) → m.0.beside.turn ≡ Some hs
        → w.0.beside.turn ≡ Some (record hs { lists = lists (state_of h.back) hs.lists.records; map = h.pager })
    pub slots : w.1 ≡ m.1

  -- the entry of the page was loaded
  abbrev pub SawEntry : Opening M ghosts → ℕ → TheHome M ghosts → Seated M ghosts → ℕ → Seated M ghosts → Type 0
  SawEntry o p h m n w = PagedTo o (entry p) h m n w × FindsEntry (setup_of sight o) h.pager p n

  -- what the back's slot has where the entry n of a page was found by an eviction
  abbrev pub evicted_home : ℕ → TheHome M ghosts → Seated M ghosts → ℕ → TheHome M ghosts
  evicted_home p h m n = record h { pager = map_evicted p m.0.view h.pager n }

  -- the page was evicted, or its entry wasn't the one without pins that was kept
  abbrev pub TriedEvict : Opening M ghosts → ℕ → TheHome M ghosts → Seated M ghosts → ℕ → Seated M ghosts → Type 0
  TriedEvict o p h m n w = PagedTo o (evict p) (evicted_home p h m n) m n w × FindsEntry (setup_of sight o) h.pager p n
