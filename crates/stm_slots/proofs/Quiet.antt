-- Steps that leave what the rule of the slots reads: whoever makes them, the rule outlasts them.
use Rattle.std.proofs.Common.{◌≡◌, ℕ, List, map, set, get_or, refl, sym, ap, ◌∙◌, subst}
use Rattle.std.proofs.lemmas.List.{set-get_or}
use mathlib.Core.Option.{Option as Maybe, some}
use lib.ListN.{get_elem?}
use Rattle.pmem_trait.specs.Sights.{Sight}
use Rattle.pmem_trait.specs.declared.medium.Medium.{Ghosts}
use Rattle.core_events.specs.Setups.{Setup}
use Rattle.core_events.specs.Views.{View, About}
use Rattle.core_events.specs.Words.{State, found}
use Rattle.core_events.specs.Events.{Event, begin, extend, look, load, check, finish, take, decide, store, release, restore, entry, touch, load_touch, fill, see_box, next_box, name, view_after, all_checked, looked_word}
use Rattle.core_events.specs.Conditions.{after}
use Rattle.std.proofs.Common.{◌==◌, []}
use Rattle.std.specs.Prelude.{None}
use Rattle.core_events.proofs.TurnKept.{checking_number, taking_number, reaching_number}
use Rattle.core_events.proofs.Lists.{unmoved}
use Rattle.core_table.specs.Rules.{Outlasts}
use Rattle.stm_slots.specs.Beside.{Beside}
use Rattle.stm_slots.specs.Stage.{owner_of, stage_of}
use Rattle.stm_slots.specs.Opening.{setup_of}
use Rattle.stm_slots.specs.Rule.{SlotsKept}
use Rattle.stm_slots.specs.declared.slot.Slot.{Slot}
use Rattle.stm_slots.specs.declared.opening.Opening.{Opening}

module _ {M : Type 0} {ghosts : Ghosts M} (sight : M → Sight) (o : Opening M ghosts) where
  abbrev z : Setup
  z = setup_of sight o

  abbrev fact : State → List Beside → List (Maybe (Slot M ghosts)) → Type 0
  fact c xs homes = SlotsKept sight o (stage_of c) xs homes

  quiet : (e : Event) → ((c : State) (id : ℕ) (v : View) → get_elem? c.views id ≡ some v → stage_of (after z c id v e) ≡ stage_of c) → Outlasts fact z e
  quiet e same c id v xs homes k allowed f = subst (λ s. SlotsKept sight o s xs homes) (sym (same c id v allowed.is_there)) f

  -- only a view changed, in what isn't read
  owners : (c : State) (id : ℕ) (v w : View) → get_elem? c.views id ≡ some v → owner_of w ≡ owner_of v → record (stage_of c) { owners = map owner_of (set c.views id w) } ≡ stage_of c
  owners c id v w at same = ap (λ os. record (stage_of c) { owners = os }) (unmoved owner_of c.views id v w at same)

  pub begin_quiet : Outlasts fact z begin
  begin_quiet = quiet begin (λ c id v at. owners c id v (view_after z begin v c.clock) at refl)

  pub look_quiet : (k : ℕ) → Outlasts fact z (look k)
  look_quiet k = quiet (look k) (λ c id v at. owners c id v (view_after z (look k) v (found c (name z (look k) v))) at refl)

  pub load_quiet : (i : ℕ) → Outlasts fact z (load i)
  load_quiet i = quiet (load i) (λ c id v at. owners c id v (view_after z (load i) v (found c (name z (load i) v))) at refl)

  pub finish_quiet : (a : About) → Outlasts fact z (finish a)
  finish_quiet a = quiet (finish a) (λ c id v at. owners c id v (view_after z (finish a) v c.threads) at refl)

  pub decide_quiet : Outlasts fact z decide
  decide_quiet = quiet decide (λ c id v at. owners c id v (view_after z decide v (found c (name z decide v))) at refl)

  pub store_quiet : (i : ℕ) → Outlasts fact z (store i)
  store_quiet i = quiet (store i) (λ c id v at. owners c id v (view_after z (store i) v (found c (name z (store i) v))) at refl)

  pub release_quiet : (k : ℕ) → Outlasts fact z (release k)
  release_quiet k = quiet (release k) (λ c id v at. owners c id v (view_after z (release k) v (found c (name z (release k) v))) at refl)

  pub restore_quiet : (k : ℕ) → Outlasts fact z (restore k)
  restore_quiet k = quiet (restore k) (λ c id v at. owners c id v (view_after z (restore k) v (found c (name z (restore k) v))) at refl)

  pub touch_quiet : (p : ℕ) → Outlasts fact z (touch p)
  touch_quiet p = quiet (touch p) (λ c id v at. owners c id v (view_after z (touch p) v (found c (name z (touch p) v))) at refl)

  pub load_touch_quiet : (p : ℕ) → Outlasts fact z (load_touch p)
  load_touch_quiet p = quiet (load_touch p) (λ c id v at. owners c id v (view_after z (load_touch p) v (found c (name z (load_touch p) v))) at refl)

  pub fill_quiet : (p f i x : ℕ) → Outlasts fact z (fill p f i x)
  fill_quiet p f i x = quiet (fill p f i x) (λ c id v at. owners c id v (view_after z (fill p f i x) v (found c (name z (fill p f i x) v))) at refl)

  pub entry_quiet : (p : ℕ) → Outlasts fact z (entry p)
  entry_quiet p = quiet (entry p) (λ c id v at. ap (λ es. record (stage_of c) { entries = es; owners = map owner_of (set c.views id (view_after z (entry p) v (get_or c.entries p 0))) }) (set-get_or c.entries p 0)
      ∙ owners c id v (view_after z (entry p) v (get_or c.entries p 0)) at refl)

  pub extend_quiet : Outlasts fact z extend
  extend_quiet = quiet extend (λ c id v at. owners c id v (view_after z extend v c.clock) at (ap (λ n. record (owner_of v) { number = n }) (reaching_number (all_checked z [] v.tx.reads) c.clock (record v.tx { checked = []; loaded = None }))))

  pub check_quiet : (k : ℕ) → Outlasts fact z (check k)
  check_quiet k = quiet (check k) (λ c id v at. let n : ℕ = found c (name z (check k) v) in owners c id v (view_after z (check k) v n) at (ap (λ m. record (owner_of v) { number = m }) (checking_number z v.tx.loaded v.tx.extension v.part.thread k n v.tx)))

  pub take_quiet : (k : ℕ) → Outlasts fact z (take k)
  take_quiet k = quiet (take k) (λ c id v at. let n : ℕ = found c (name z (take k) v) in owners c id v (view_after z (take k) v n) at (ap (λ m. record (owner_of v) { number = m }) (taking_number (n == looked_word v.tx.look) k n v.tx)))

  pub see_box_quiet : Outlasts fact z see_box
  see_box_quiet = quiet see_box (λ c id v at. let n : ℕ = get_or c.boxes (next_box z v) 0 in
      ap (λ bs. record (stage_of c) { boxes = bs; owners = map owner_of (set c.views id (view_after z see_box v n)) }) (set-get_or c.boxes (next_box z v) 0)
      ∙ owners c id v (view_after z see_box v n) at refl)
