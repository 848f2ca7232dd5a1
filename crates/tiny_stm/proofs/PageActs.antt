-- Steps on page entries, as acts of the thread with the turn.
use Rattle.std.proofs.Common.{◌≡◌, ℕ, ◌<◌, List, get_or, refl, sym, ap, ◌∙◌, subst, []}
use Rattle.std.specs.Prelude.{Some}
use mathlib.Core.Option.{Option as Maybe, some}
use lib.ListN.{get_elem?}
use Rattle.dude_base.specs.Records.{RedoRecord}
use Rattle.pmem_trait.specs.Sights.{Sight}
use Rattle.pmem_trait.specs.declared.medium.Medium.{Ghosts}
use Rattle.back_store.specs.BackView.{state_of}
use Rattle.core_events.specs.Setups.{Setup, without_pins}
use Rattle.core_events.specs.Keyed.{find}
use Rattle.core_events.specs.Words.{State}
use Rattle.core_events.specs.Events.{Event, entry, evict, show, kept_entry}
use Rattle.core_events.specs.Kept.{Kept}
use Rattle.core_events.specs.Telling.{EntryTold}
use Rattle.core_table.specs.Rules.{Acts}
use Rattle.stm_slots.specs.KnownLists.{lists}
use Rattle.shadow_pages.specs.PageMap.{PageMap, IsOneToOne, map_with}
use Rattle.stm_slots.specs.Beside.{Hands, Beside}
use Rattle.stm_slots.specs.Stage.{stage_of}
use Rattle.stm_slots.specs.Opening.{setup_of}
use Rattle.stm_slots.specs.Pages.{IsMapped}
use Rattle.stm_slots.specs.QuietSteps.{fact_of}
use Rattle.stm_slots.specs.Turns.{Seated, MappedTo, map_evicted}
use Rattle.stm_slots.specs.declared.home.Home.{Home as TheHome}
use Rattle.stm_slots.specs.declared.slot.Slot.{Slot}
use Rattle.stm_slots.specs.declared.opening.Opening.{Opening}
use Rattle.stm_slots.proofs.Acting.{kept_by}
use Rattle.stm_slots.proofs.Mapping.{map_turned}
use Rattle.stm_slots.proofs.PageActs.{entry_acts, evict_acts, show_acts}
use Rattle.stm_turns.specs.Holding.{Holding, boxes_held, hands_of}
use Rattle.stm_turns.proofs.Holdings.{told_less, told_with}
use Rattle.tiny_stm.specs.Paging.{FindsEntry}
use Rattle.tiny_stm.specs.Told.{PagedTo, SawEntry, TriedEvict}

module _ {M : Type 0} {ghosts : Ghosts M} (sight : M → Sight) (o : Opening M ghosts) where
  abbrev z : Setup
  z = setup_of sight o

  some_hands : (a b : Hands) → Some a ≡ Some b → a ≡ b
  some_hands a b e = cc

  module _ (me : Seated M ghosts) (h : TheHome M ghosts) (i : Holding sight o me.0 h []) (same : i.stale.records ≡ i.records) where
    abbrev now : Hands
    now = hands_of sight h i.records i.shown (boxes_held z [])

    abbrev old : Hands
    old = record now { lists = i.stale }

    -- what the hands become
    abbrev made_of : Hands → PageMap → Hands
    made_of hs map = record hs { lists = lists (state_of h.back) hs.lists.records; map = map }

    pub went_paged : (e : Event) (map : ℕ → PageMap) (n : ℕ) (w : Seated M ghosts) → MappedTo sight o e now map me n w → PagedTo sight o e (record h { pager = map n }) me n w
    went_paged e map n w s = record {
      told = s.told;
      view = s.view;
      beside = λ hs is.
          ap (λ (b : Beside). b.turn) s.beside
          ∙ (ap (λ (rs : List RedoRecord). Some (record (hands_of sight h rs i.shown (boxes_held z [])) { map = map n })) (sym same)
          ∙ ap (λ (a : Hands). Some (made_of a (map n))) (sym (some_hands hs old (sym is ∙ i.hands))));
      slots = s.slots;
    }

    -- what an entry tells of the map
    finds : (c : State) (xs : List Beside) (homes : List (Maybe (Slot M ghosts))) → Kept z c → (id : ℕ) → get_elem? c.views id ≡ some me.0.view → get_elem? xs id ≡ some me.0.beside → fact_of sight o c xs homes
        → (p : ℕ) (map : PageMap) → map.pages ≡ h.pager.pages → map.frames ≡ h.pager.frames → (IsOneToOne h.pager → IsOneToOne map) → EntryTold z (get_or c.entries p 0) → FindsEntry z map p (get_or c.entries p 0)
    finds c xs homes k id there at f p map pages frames lawful told =
        let kept = kept_by sight o c xs homes k f id me.0.view me.0.beside there at i.turn old i.hands (lists (state_of h.back) i.records) i.follows in
        let mapped : IsMapped z (stage_of c) map = map_turned z (stage_of c) h.pager map kept.pages pages frames lawful in record {
          map_is = record { pages = mapped.pages; frames = mapped.frames; one_to_one = mapped.one_to_one };
          told = told;
          named = λ g holds. mapped.shown p g holds;
        }

    pub entry_acts_on : (id p : ℕ) → p < z.pages → (map : PageMap) → map.pages ≡ h.pager.pages → map.frames ≡ h.pager.frames → (IsOneToOne h.pager → IsOneToOne map) → Acts (fact_of sight o) z (entry p) id me (SawEntry sight o p (record h { pager = map }) me)
    entry_acts_on id p inside map pages frames lawful =
        told_with sight o (entry p) id me (MappedTo sight o (entry p) now (λ n. map) me) (SawEntry sight o p (record h { pager = map }) me)
        (entry_acts sight o id me i.turn old i.hands (lists (state_of h.back) i.records) i.follows p inside map pages frames lawful)
        (λ c xs homes k allowed at f w s. (went_paged (entry p) (λ n. map) (get_or c.entries p 0) w s, finds c xs homes k id allowed.is_there at f p map pages frames lawful s.told.word))

    pub evict_acts_on : (id p q : ℕ) → p < z.pages → q < z.pages → find me.0.view.paging.entries q ≡ Some 0 → 0 < without_pins (kept_entry me.0.view p) → Acts (fact_of sight o) z (evict p) id me (TriedEvict sight o p h me)
    evict_acts_on id p q inside wanted absent some_frame =
        told_with sight o (evict p) id me (MappedTo sight o (evict p) now (map_evicted p me.0.view h.pager) me) (TriedEvict sight o p h me)
        (evict_acts sight o id me i.turn old i.hands (lists (state_of h.back) i.records) i.follows p inside q wanted absent some_frame)
        (λ c xs homes k allowed at f w s. (went_paged (evict p) (map_evicted p me.0.view h.pager) (get_or c.entries p 0) w s, finds c xs homes k id allowed.is_there at f p h.pager refl refl (λ one. one) s.told.word))

    pub show_acts_on : (id p g : ℕ) → p < z.pages → g < z.frames → Acts (fact_of sight o) z (show p g) id me (λ n. PagedTo sight o (show p g) (record h { pager = map_with h.pager g (Some p) }) me 0)
    show_acts_on id p g inside below =
        told_less sight o (show p g) id me (MappedTo sight o (show p g) now (λ n. map_with h.pager g (Some p)) me) (λ n. PagedTo sight o (show p g) (record h { pager = map_with h.pager g (Some p) }) me 0)
        (show_acts sight o id me i.turn old i.hands (lists (state_of h.back) i.records) i.follows p inside g below)
        (λ n w s. subst (λ (k : ℕ). PagedTo sight o (show p g) (record h { pager = map_with h.pager g (Some p) }) me k w) s.told.word (went_paged (show p g) (λ d. map_with h.pager g (Some p)) n w s))
