-- A step on words, with what it makes of the store as data.
use Rattle.std.proofs.Common.{◌≡◌, ℕ, Result, Ok, Err, OnOk, ◌↔◌, refl, sym, ap, subst, ◌∙◌}
use mathlib.Core.Option.{some-injective}
use Rattle.core_events.specs.Setups.{Setup}
use Rattle.core_events.specs.Views.{View}
use Rattle.core_events.specs.Words.{State}
use Rattle.core_events.specs.Events.{Event}
use Rattle.core_events.specs.Conditions.{IsAllowed, after}
use Rattle.core_events.specs.Partings.{event, parting, joining, Leads}
use Rattle.core_events.specs.Kept.{Kept}
use Rattle.core_medium.specs.Stores.{Store}
use Rattle.core_medium.specs.Machines.{Machine, on_words, MachineLeads, machine_after, store_after}
use Rattle.core_medium.specs.KeptStore.{MachineKept}
use Rattle.core_medium.proofs.Keeps.{met_allowed}
use Rattle.dude_core.specs.declared.core_refusal.CoreRefusal.{CoreRefusal}
use Rattle.dude_core.specs.StoreData.{StoreData}
use Rattle.dude_core.specs.Stands.{store_of, machine_over}
use Rattle.dude_core.specs.StateSteps.{MayMake, IsOffAt, IsOffIn}
use Rattle.dude_core.specs.Views.{OfView}
use Rattle.dude_core.specs.declared.dropped.Dropped.{Dropped}
use Rattle.dude_core.specs.declared.event.Event.{Event as Asked}
use Rattle.dude_core.specs.Steps.{step_of}
use Rattle.dude_core.specs.DroppedReads.{dropped_from, Drops}

-- the kept machine's words are kept
pub words_kept : (z : Setup) (m : Machine) → MachineKept z m → Kept z m.core
words_kept z m k = record { ghost_is = k.ghost_is; layers = k.layers; values = k.values }

module _ (z : Setup) (c : State) (a : StoreData) (who : ℕ) (e : Event) where
  abbrev m : Machine
  m = machine_over z c a

  pub make_allowed : MachineKept z (machine_over z c a) → MayMake z (machine_over z c a) who e → (v : View) × IsAllowed z c who e v
  make_allowed k t = (t.0, met_allowed z m k who e t.0 t.1)

  pub make_leads : (d : State) (a2 : StoreData) (r : Dropped) → MayMake z (machine_over z c a) who e → OfView c.views who (λ v. Drops z e c v r) → Leads z c (event who e) d
      → a2 ≡ record a { read = dropped_from r a.read } → MachineLeads z (machine_over z c a) (on_words (event who e)) (machine_over z d a2)
  make_leads d a2 r t drops h a2_is =
      let same : h.0 ≡ t.0 = some-injective h.0 t.0 (sym h.1.is_there ∙ t.1.is_there) in
      let core_is : d ≡ after z c who t.0 e = h.2 ∙ ap (λ (v : View). after z c who v e) same in
      let store_is : store_of z a2 ≡ store_after z e c t.0 (store_of z a) = ap (store_of z) a2_is ∙ sym (drops t.0 t.1.is_there (store_of z a)) in
      let by_core : State → Machine = λ s. record { core = s; store = store_of z a2 } in
      let by_store : Store → Machine = λ s. record { core = after z c who t.0 e; store = s } in
      (t.0, t.1, ap by_core core_is ∙ ap by_store store_is)

  pub make_off : {P : Type 0} → MayMake z (machine_over z c a) who e → (P → ⊥) → P ↔ IsOffIn z (machine_over z c a) (on_words (event who e))
  make_off t not = ((λ p. absurd (not p)), (λ off. absurd (off (machine_after z m who t.0 e) (t.0, t.1, refl))))

  pub make_none : {P : Type 0} → P → (MayMake z (machine_over z c a) who e → ⊥) → P ↔ IsOffIn z (machine_over z c a) (on_words (event who e))
  make_none p none = ((λ q n l. none (l.0, l.1)), (λ off. p))

-- ---- splits and joins leave the store
module _ (z : Setup) (c : State) (a : StoreData) where
  pub split_ok : (who draws : ℕ) (r : Result (Unit {0}) CoreRefusal) (d : State) → OnOk r (Leads z c (parting who draws) d) → OnOk r (MachineLeads z (machine_over z c a) (on_words (parting who draws)) (machine_over z d a))
  split_ok who draws (Ok x) d h = (h.0, h.1, ap (λ (s : State). machine_over z s a) h.2)
  split_ok who draws (Err x) d h = tt

  pub split_off : {P : Type 0} (who draws : ℕ) → P ↔ IsOffAt z c (parting who draws) → P ↔ IsOffIn z (machine_over z c a) (on_words (parting who draws))
  split_off who draws off = (
    (λ p n l. off.0 p _ (l.0, l.1, refl)),
    (λ none. off.1 (λ d h. none _ (h.0, h.1, refl))),
  )

  pub join_ok : (who other : ℕ) (r : Result (Unit {0}) CoreRefusal) (d : State) → OnOk r (Leads z c (joining who other) d) → OnOk r (MachineLeads z (machine_over z c a) (on_words (joining who other)) (machine_over z d a))
  join_ok who other (Ok x) d h = (h.0, h.1, h.2, ap (λ (s : State). machine_over z s a) h.3)
  join_ok who other (Err x) d h = tt

  pub join_off : {P : Type 0} (who other : ℕ) → P ↔ IsOffAt z c (joining who other) → P ↔ IsOffIn z (machine_over z c a) (on_words (joining who other))
  join_off who other off = (
    (λ p n l. off.0 p _ (l.0, l.1, l.2, refl)),
    (λ none. off.1 (λ d h. none _ (h.0, h.1, h.2, refl))),
  )

-- ---- an event that is asked for, where it is this one
module _ (z : Setup) (c : State) (a : StoreData) (who : ℕ) where
  pub asked_ok : {e f : Asked} (r : Result (Unit {0}) CoreRefusal) (n : Machine) → e ≡ f → OnOk r (MachineLeads z (machine_over z c a) (step_of a.read who f) n) → OnOk r (MachineLeads z (machine_over z c a) (step_of a.read who e) n)
  asked_ok r n is ok = subst (λ (g : Asked). OnOk r (MachineLeads z (machine_over z c a) (step_of a.read who g) n)) (sym is) ok

  pub asked_off : {P : Type 0} {e f : Asked} → e ≡ f → P ↔ IsOffIn z (machine_over z c a) (step_of a.read who f) → P ↔ IsOffIn z (machine_over z c a) (step_of a.read who e)
  asked_off {P} is off = subst (λ (g : Asked). P ↔ IsOffIn z (machine_over z c a) (step_of a.read who g)) (sym is) off
