-- A round of the search for a frame: the entry of the page at the hand is looked at, and the page is evicted unless it is pinned.
use Rattle.std.proofs.Common.{◌≡◌, ◌≢◌, ◌==◌, ℕ, ◌<◌, Bool, true, false, ◌∷◌, refl, sym, ap, ◌∙◌, subst, ne_eqb, arith}
use Rattle.std.specs.Prelude.{Some, if◌then◌else◌}
use mathlib.Core.Logic.{dite}
use native.Mathlib.Decide.{ℕ_discrete}
use Rattle.pmem_trait.specs.Sights.{Sight}
use Rattle.pmem_trait.specs.declared.medium.Medium.{Ghosts}
use Rattle.std.proofs.lemmas.Option.{slice_get_within}
use Rattle.atomic_table.specs.declared.shared.Seat.{Seat}
use Rattle.core_events.specs.Setups.{Setup, frame_in, without_pins}
use Rattle.core_events.specs.Keyed.{find, without}
use Rattle.core_events.specs.Views.{View}
use Rattle.core_events.specs.Events.{entry, evict, kept_entry, view_after}
use Rattle.core_events.proofs.Lists.{find_head, find_tail, find_without}
use Rattle.core_table.specs.Known.{Known}
use Rattle.core_table.specs.Layout.{TableSight}
use Rattle.shadow_pages.specs.PageMap.{PageMap, HasFree, Holds, IsIn, IsVictim, frame_at}
use Rattle.stm_slots.specs.Beside.{Beside}
use Rattle.stm_slots.specs.Turns.{map_evicted}
use Rattle.stm_slots.specs.declared.home.Home.{Home as TheHome}
use Rattle.stm_slots.specs.declared.slot.Slot.{Slot}
use Rattle.stm_slots.specs.declared.opening.Opening.{Opening}
use Rattle.tiny_stm.specs.Frames.{FoundPinned, MadeRoom, MayMakeRoom}
use Rattle.tiny_stm.specs.Paging.{FindsEntry, HasPins, IsMapOf, Paged}
use Rattle.tiny_stm.proofs.Maps.{evicted_map, missed_map, still_out, victim_here}
use Rattle.tiny_stm.proofs.Turning.{same_paged, then_paged}

-- ---- what the view keeps
module _ (z : Setup) (v w : View) (page n : ℕ) where
  pub entry_kept : w ≡ view_after z (entry page) v n → find w.paging.entries page ≡ Some n
  entry_kept is = ap (λ (u : View). find u.paging.entries page) is ∙ find_head v.paging.entries page n

  pub entry_others : w ≡ view_after z (entry page) v n → (p : ℕ) → p ≢ page → find w.paging.entries p ≡ find v.paging.entries p
  entry_others is p other = ap (λ (u : View). find u.paging.entries p) is ∙ find_tail v.paging.entries page n p (λ e. other (sym e))

  abbrev made : Bool
  made = n == without_pins (kept_entry v page)

  pub missed_kept : w ≡ view_after z (evict page) v n → n ≢ without_pins (kept_entry v page) → find w.paging.entries page ≡ Some n
  missed_kept is miss = ap (λ (u : View). find u.paging.entries page) is ∙ (ap (λ (b : Bool). find ((page, if b then 0 else n) ∷ v.paging.entries) page) (ne_eqb n (without_pins (kept_entry v page)) miss) ∙ find_head v.paging.entries page n)

  pub evict_others : w ≡ view_after z (evict page) v n → (p : ℕ) → p ≢ page → find w.paging.entries p ≡ find v.paging.entries p
  evict_others is p other = ap (λ (u : View). find u.paging.entries p) is ∙ find_tail v.paging.entries page (if made then 0 else n) p (λ e. other (sym e))

  by_made : (b : Bool) (p : ℕ) → p ≢ page → find (if b then without v.turn.touches page else v.turn.touches) p ≡ find v.turn.touches p
  by_made true p other = find_without v.turn.touches page p (λ e. other (sym e))
  by_made false p other = refl

  pub evict_touches : w ≡ view_after z (evict page) v n → (p : ℕ) → p ≢ page → find w.turn.touches p ≡ find v.turn.touches p
  evict_touches is p other = ap (λ (u : View). find u.turn.touches p) is ∙ by_made made p other

-- ---- the map
pub turned_holds : (old new : PageMap) → new ≡ record old { hand = frame_at old 1 } → (f p : ℕ) → Holds old f p → Holds new f p
turned_holds old new is f p h = subst (λ (m : PageMap). Holds m f p) (sym is) h

pub turned_out : (old new : PageMap) → new ≡ record old { hand = frame_at old 1 } → (p : ℕ) → ¬ IsIn old p → ¬ IsIn new p
turned_out old new is p = subst (λ (m : PageMap). ¬ IsIn old p → ¬ IsIn m p) (sym is) (λ out within. out (record { frame = within.frame; holds = within.holds }))

pub evicted_out : (v : View) (page n wanted : ℕ) (map : PageMap) → Holds map (frame_in n) page → ¬ IsIn map wanted → ¬ IsIn (map_evicted page v map n) wanted
evicted_out v page n wanted map holds out = dite (ℕ_discrete n (without_pins (kept_entry v page)))
    (λ hit. subst (λ (m : PageMap). ¬ IsIn m wanted) (sym (evicted_map page n v map hit)) (still_out map (frame_in n) wanted (slice_get_within map.frames (frame_in n) (Some page) holds) out))
    (λ miss. subst (λ (m : PageMap). ¬ IsIn m wanted) (sym (missed_map page n v map miss)) out)

pub evicted_pages : (v : View) (page n : ℕ) (map : PageMap) → (map_evicted page v map n).pages ≡ map.pages
evicted_pages v page n map = dite (ℕ_discrete n (without_pins (kept_entry v page)))
    (λ hit. ap (λ (m : PageMap). m.pages) (evicted_map page n v map hit))
    (λ miss. ap (λ (m : PageMap). m.pages) (missed_map page n v map miss))

-- a page in a frame isn't one that is out
pub not_out : (map : PageMap) (f p q : ℕ) → Holds map f p → ¬ IsIn map q → q ≢ p
not_out map f p q holds out e = out (record { frame = f; holds = subst (λ (d : ℕ). Holds map f d) (sym e) holds })

module _ {M : Type 0} {ghosts : Ghosts M} (sight : M → Sight) (t : TableSight (Opening M ghosts)) where
  abbrev TurnSeat : Type 0
  TurnSeat = Seat (Slot M ghosts) (Known Beside)

  pub then_room : (wanted : ℕ) (old mid new : TurnSeat) (h h2 h3 : TheHome M ghosts) → MadeRoom sight t wanted old mid h h2 → MadeRoom sight t wanted mid new h2 h3 → MadeRoom sight t wanted old new h h3
  then_room wanted old mid new h h2 h3 a b = record {
    step = then_paged sight t old mid new h2 h3 a.step b.step;
    back = b.back ∙ a.back;
    map_is = b.map_is;
    absent = b.absent;
    touches = b.touches ∙ a.touches;
  }

  pub same_room : (wanted : ℕ) (old : TurnSeat) (h : TheHome M ghosts) → MayMakeRoom sight t wanted old h → MadeRoom sight t wanted old old h h
  same_room wanted old h r = record { step = same_paged sight t old h r.turn; back = refl; map_is = r.map_is; absent = r.absent; touches = refl }

  pub may_on : (wanted : ℕ) (old new : TurnSeat) (h h2 : TheHome M ghosts) → MadeRoom sight t wanted old new h h2 → MayMakeRoom sight t wanted new h2
  may_on wanted old new h h2 r = record { turn = r.step.turn; map_is = r.map_is; absent = r.absent }

  -- the hand moved, and the entry of the page there was looked at
  pub entry_room : (wanted page n : ℕ) (old new : TurnSeat) (h : TheHome M ghosts) (map : PageMap) → MayMakeRoom sight t wanted old h → map ≡ record h.pager { hand = frame_at h.pager 1 } → wanted ≢ page → Paged sight t old new (record h { pager = map })
      → new.me.0.view ≡ view_after t.setup (entry page) old.me.0.view n → IsMapOf t.setup map → MadeRoom sight t wanted old new h (record h { pager = map })
  entry_room wanted page n old new h map r is other step view m = record {
    step = step;
    back = refl;
    map_is = m;
    absent = record {
      inside = (let e = ap (λ (w : PageMap). w.pages) is in let a = r.absent.inside in omega arith);
      seen = entry_others t.setup old.me.0.view new.me.0.view page n view wanted other ∙ r.absent.seen;
      out = turned_out h.pager map is wanted r.absent.out;
    };
    touches = ap (λ (u : View). find u.turn.touches wanted) view;
  }

  -- the page was tried to be evicted
  pub evict_room : (wanted page n : ℕ) (old new : TurnSeat) (h h2 : TheHome M ghosts) → MayMakeRoom sight t wanted old h → wanted ≢ page → Paged sight t old new h2 → h2.back ≡ h.back
      → new.me.0.view ≡ view_after t.setup (evict page) old.me.0.view n → Holds h.pager (frame_in n) page → h2.pager ≡ map_evicted page old.me.0.view h.pager n → IsMapOf t.setup h2.pager → MadeRoom sight t wanted old new h h2
  evict_room wanted page n old new h h2 r other step back view holds is m = record {
    step = step;
    back = back;
    map_is = m;
    absent = record {
      inside = (let e = ap (λ (w : PageMap). w.pages) is in let f = evicted_pages old.me.0.view page n h.pager in let a = r.absent.inside in omega arith);
      seen = evict_others t.setup old.me.0.view new.me.0.view page n view wanted other ∙ r.absent.seen;
      out = subst (λ (w : PageMap). ¬ IsIn w wanted) (sym is) (evicted_out old.me.0.view page n wanted h.pager holds r.absent.out);
    };
    touches = evict_touches t.setup old.me.0.view new.me.0.view page n view wanted other;
  }

  -- the page at the hand, where no frame is free, after its entry was looked at
  pub record Looked (wanted page n : ℕ) (old new : TurnSeat) (h : TheHome M ghosts) (map : PageMap) : Type 0 where
    pub room : MadeRoom sight t wanted old new h (record h { pager = map })
    pub other : wanted ≢ page
    pub holds : Holds h.pager h.pager.hand page
    pub map_is : map ≡ record h.pager { hand = frame_at h.pager 1 }
    pub some_frame : 0 < n
    pub names : frame_in n ≡ h.pager.hand
    pub holds_now : Holds map (frame_in n) page

  pub looked : (wanted page n : ℕ) (old new : TurnSeat) (h : TheHome M ghosts) (map : PageMap) → MayMakeRoom sight t wanted old h → ¬ HasFree h.pager → IsVictim h.pager map page → Paged sight t old new (record h { pager = map })
      → new.me.0.view ≡ view_after t.setup (entry page) old.me.0.view n → FindsEntry t.setup map page n → Looked wanted page n old new h map
  looked wanted page n old new h map r full victim step view found =
      let at = victim_here h.pager map page victim full r.map_is.one_to_one in
      let other : wanted ≢ page = not_out h.pager h.pager.hand page wanted at.0 r.absent.out in
      let holds : Holds map h.pager.hand page = turned_holds h.pager map at.1 h.pager.hand page at.0 in
      let named = found.named h.pager.hand holds in record {
        room = entry_room wanted page n old new h map r at.1 other step view found.map_is;
        other = other;
        holds = at.0;
        map_is = at.1;
        some_frame = named.0;
        names = named.1;
        holds_now = subst (λ (f : ℕ). Holds map f page) (sym named.1) holds;
      }

  -- and after it was tried to be evicted
  pub tried_room : (wanted page k n : ℕ) (old mid new : TurnSeat) (h : TheHome M ghosts) (map : PageMap) (h2 : TheHome M ghosts) → Looked wanted page k old mid h map → Paged sight t mid new h2 → h2.back ≡ h.back
      → new.me.0.view ≡ view_after t.setup (evict page) mid.me.0.view n → FindsEntry t.setup map page n → h2.pager ≡ map_evicted page mid.me.0.view map n → IsMapOf t.setup h2.pager → MadeRoom sight t wanted old new h h2
  tried_room wanted page k n old mid new h map h2 l step back view found is m =
      let h1 : TheHome M ghosts = record h { pager = map } in let again = found.named (frame_in k) l.holds_now in
      then_room wanted old mid new h h1 h2 l.room
      (evict_room wanted page n mid new h1 h2 (may_on wanted old mid h h1 l.room) l.other step back view (subst (λ (f : ℕ). Holds map f page) (sym again.1) l.holds_now) is m)

-- ---- a pinned page
pub entry_pinned : (z : Setup) (v w : View) (old new : PageMap) (page n : ℕ) → new ≡ record old { hand = frame_at old 1 } → Holds old old.hand page → w ≡ view_after z (entry page) v n → frame_in n ≡ old.hand → HasPins n → FoundPinned old new v w (record { page = page; seen = n })
entry_pinned z v w old new page n is holds view names pins = record { map_is = is; holds = holds; kept = entry_kept z v w page n view; names = names; pins = pins; others = entry_others z v w page n view }

pub evict_pinned : (z : Setup) (v w u : View) (old mid new : PageMap) (page k n : ℕ) → mid ≡ record old { hand = frame_at old 1 } → new ≡ map_evicted page w mid n → Holds old old.hand page → w ≡ view_after z (entry page) v k → u ≡ view_after z (evict page) w n → n ≢ without_pins (kept_entry w page)
    → frame_in n ≡ old.hand → HasPins n → FoundPinned old new v u (record { page = page; seen = n })
evict_pinned z v w u old mid new page k n is evicted holds first second miss names pins = record {
  map_is = evicted ∙ (missed_map page n w mid miss ∙ is);
  holds = holds;
  kept = missed_kept z w u page n second miss;
  names = names;
  pins = pins;
  others = λ p other. evict_others z w u page n second p other ∙ entry_others z v w page k first p other;
}
