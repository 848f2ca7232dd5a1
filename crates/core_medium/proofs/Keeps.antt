-- Every step of the machine keeps the kept state.
use Rattle.std.proofs.Common.{◌≡◌, ℕ, ◌≤◌, List, [], ◌∷◌, get_or, sym, ap, ◌∙◌, subst, inl, inr, ⊎_elim, eq-eqb, ne_eqb, arith}
use Rattle.std.specs.Prelude.{Some, None}
use mathlib.Core.Option.{some}
use mathlib.Core.Logic.{dite}
use native.Mathlib.Decide.{ℕ_discrete, dec_lt}
use lib.ListN.{get_elem?}
use Rattle.pmem_trait.specs.declared.call.Call.{Call}
use Rattle.core_events.specs.Setups.{Setup, page_of}
use Rattle.core_events.specs.Keyed.{find}
use Rattle.core_events.specs.Views.{View}
use Rattle.core_events.specs.Words.{State}
use Rattle.core_events.specs.Entries.{value_at, all_entries}
use Rattle.core_events.specs.Events.{Event, empty_box, raise_durable, raise_reproduced, fill}
use Rattle.core_events.specs.Conditions.{IsFilled, May, Fits, IsAllowed}
use Rattle.core_events.specs.Partings.{MaySplit, MayJoin, split, join, event, parting, joining, AllLead}
use Rattle.core_events.specs.Ghosts.{Ghost, ghost_after, ghost_joined}
use Rattle.core_events.specs.KeptPages.{pins_of, pinner_of}
use Rattle.core_events.specs.Kept.{LayersKept}
use Rattle.core_events.proofs.Lists.{at_map, of_map}
use Rattle.core_events.proofs.Values.{value_still}
use Rattle.core_events.proofs.EntriesAll.{value_is}
use Rattle.core_events.proofs.Keeps.{layers_keep, layers_split_keep, layers_join_keep}
use Rattle.core_events.proofs.ValuesKept.{values_keep, values_split_keep, values_join_keep}
use Rattle.core_medium.specs.Stores.{Store}
use Rattle.core_medium.specs.BackCalls.{BackCall}
use Rattle.core_medium.specs.KeptLog.{IsOnMedium}
use Rattle.core_medium.proofs.Posted.{posted_upto}
use Rattle.core_medium.specs.KeptStore.{StoreKept, MachineKept}
use Rattle.core_medium.specs.Machines.{Machine, Meets, IsMet, machine_after, MayDevice, with_device, MachineStep, on_words, device, MachineLeads, AllMachineLead, words_of}
use Rattle.core_medium.proofs.StoreEvents.{store_keep, store_split_keep, store_join_keep}
use Rattle.core_medium.proofs.Devices.{device_keep}

find_in : (xs : List (ℕ × ℕ)) (i x : ℕ) → find xs i ≡ Some x → IsFilled xs i x
find_in [] i x e = absurd (let f : None ≡ Some x = e in cc)
find_in (y ∷ ys) i x e = dite (ℕ_discrete y.0 i)
    (λ hit. inl (hit, (let f : Some y.1 ≡ Some x = rw (eq-eqb y.0 i hit) at e in cc)))
    (λ miss. inr (find_in ys i x (rw (ne_eqb y.0 i miss) at e)))

module _ (z : Setup) (g : Ghost) (c : State) (l : LayersKept z g c) (d : Store) (k : StoreKept z g c d) where
  -- a number whose record is on the medium was drawn
  upto_clock : (x : ℕ) → IsOnMedium d.log x → x ≤ c.clock
  upto_clock x on = dite (dec_lt z.first x)
      (λ lt. posted_upto z g c l x (⊎_elim (λ low. k.stands.marked x lt low) (λ w. (k.stands.waits w.0 w.1).posted x w.2) on))
      (λ ge. let from = l.locks.numbers.from in omega arith)

  module _ (who : ℕ) (v : View) (there : get_elem? c.views who ≡ some v) where
    -- a read word of a page that may be filled is the value at the reproduced word
    fill_value : (p f i x : ℕ) → May z (fill p f i x) v → Meets z (fill p f i x) c d v → x ≡ value_at z.opening (all_entries c.views) c.reproduced i
    fill_value p f i x may m =
        let can = may.can in let pages = (l.pages.each who v there).turn can.0 in
        let touch = pages.touches_with p can.2.0 can.2.1 in
        let old : get_or c.touches p 0 ≤ c.reproduced = (let b = touch.1 in let q = m.1 can.2.0 can.2.1 in omega arith) in
        let read = (k.told.read i x (find_in d.read i x m.2)).1 in
        read.3 ∙ (value_still z.opening g.claims.hist c.reproduced read.0 i read.1
        (λ n lt le w e. ⊎_elim
        (λ b. absurd (let same : get_or c.touches (page_of i) 0 ≡ get_or c.touches p 0 = ap (λ (r : ℕ). get_or c.touches r 0) can.1 in omega arith))
        (λ b. let u = of_map pinner_of c.views b.0 b.1 b.2 in
        let held : find u.0.paging.pins (page_of i) ≡ Some b.4.0 = ap (λ r. find r.pins (page_of i)) u.2 ∙ b.4.1 in
        let some_frame = l.pages.pins.pinned b.0 (page_of i) b.4.0 (pins_of u.0) (at_map pins_of c.views b.0 u.0 u.1) held in
        let f2 : None ≡ Some b.4.0 = sym touch.0 ∙ (ap g.frame (sym can.1) ∙ some_frame) in cc)
        (l.pages.touches.touched n i w e))
        ∙ sym (value_is z g c l.entries c.reproduced i))

    meets_fits : (e : Event) → May z e v → Meets z e c d v → Fits z e c v
    meets_fits (empty_box t j) may m = m.0
    meets_fits (raise_durable x) may m = (m.0, upto_clock x (k.told.told x x m.1 (omega arith)))
    meets_fits (raise_reproduced x) may m = (m.0, upto_clock x (inl (k.told.marks x m.1)))
    meets_fits (fill p f i x) may m = (m.0, m.1, λ told. fill_value p f i x may m)
    meets_fits e may m = tt

module _ (z : Setup) where
  pub met_allowed : (m : Machine) (k : MachineKept z m) (who : ℕ) (e : Event) (v : View) → IsMet z m who e v → IsAllowed z m.core who e v
  met_allowed m k who e v met = record { is_there = met.is_there; may = met.may; fits = meets_fits z k.ghost_is m.core k.layers m.store k.store who v met.is_there e met.may met.meets }

  pub event_keeps : (m : Machine) (who : ℕ) (e : Event) (v : View) → MachineKept z m → IsMet z m who e v → MachineKept z (machine_after z m who v e)
  event_keeps m who e v k met =
      let g = k.ghost_is in let l = k.layers in let c : State = m.core in let a = met_allowed m k who e v met in record {
        ghost_is = ghost_after z g c who v e;
        layers = layers_keep z e c who v g l a;
        values = λ told. values_keep z e c who v g l.threads l.locks l.entries l.numbers l.turn l.pages told a (k.values told);
        store = store_keep z g c l m.store k.store who v e a met.meets;
      }

  pub device_keeps : (m : Machine) (who : ℕ) (v : View) (call : Call) (b : BackCall) (left : List Call) → MachineKept z m → MayDevice z m who v call b left → MachineKept z (with_device z m b call left)
  device_keeps m who v call b left k may = record {
    ghost_is = k.ghost_is;
    layers = k.layers;
    values = k.values;
    store = device_keep z k.ghost_is m.core k.layers m.store k.store b call left may.may may.whole;
  }

  pub split_keeps : (m : Machine) (who draws : ℕ) (v : View) → MachineKept z m → MaySplit m.core who v draws → MachineKept z (record { core = split z m.core who v draws; store = m.store })
  split_keeps m who draws v k may =
      let g = k.ghost_is in let l = k.layers in let c : State = m.core in record {
        ghost_is = g;
        layers = layers_split_keep z c who draws v g l may;
        values = λ told. values_split_keep z c who draws v g (k.values told) may;
        store = store_split_keep z g c m.store k.store who draws v may;
      }

  pub join_keeps : (m : Machine) (who other : ℕ) (v w : View) → MachineKept z m → MayJoin m.core who v other w → MachineKept z (record { core = join z m.core who v other w; store = m.store })
  join_keeps m who other v w k may =
      let g = k.ghost_is in let l = k.layers in let c : State = m.core in record {
        ghost_is = ghost_joined g who other;
        layers = layers_join_keep z c who other v w g l may;
        values = λ told. values_join_keep z c who other v w g l.locks (k.values told) may;
        store = store_join_keep z g c m.store k.store who other v w may;
      }

  pub step_keeps : (m n : Machine) (s : MachineStep) → MachineKept z m → MachineLeads z m s n → MachineKept z n
  step_keeps m n (on_words (event who e)) k h = subst (MachineKept z) (sym h.2) (event_keeps m who e h.0 k h.1)
  step_keeps m n (on_words (parting who draws)) k h = subst (MachineKept z) (sym h.2) (split_keeps m who draws h.0 k h.1)
  step_keeps m n (on_words (joining who other)) k h = subst (MachineKept z) (sym h.3) (join_keeps m who other h.0 h.1 k h.2)
  step_keeps m n (device who call) k h = subst (MachineKept z) (sym h.4) (device_keeps m who h.0 call h.1 h.2 k h.3)

  pub steps_keep : (ss : List MachineStep) (m n : Machine) → MachineKept z m → AllMachineLead z m ss n → MachineKept z n
  steps_keep [] m n k h = subst (MachineKept z) (sym h) k
  steps_keep (s ∷ ss) m n k h = steps_keep ss h.0 n (step_keeps m h.0 s k h.1) h.2

  -- the steps on words are steps of the machine without a medium
  pub projects : (ss : List MachineStep) (m n : Machine) → MachineKept z m → AllMachineLead z m ss n → AllLead z m.core (words_of ss) n.core
  projects [] m n k h = ap (λ (x : Machine). x.core) h
  projects (on_words (event who e) ∷ ss) m n k h = (
    h.0.core,
    (h.1.0, met_allowed m k who e h.1.0 h.1.1, ap (λ (x : Machine). x.core) h.1.2),
    projects ss h.0 n (step_keeps m h.0 (on_words (event who e)) k h.1) h.2,
  )
  projects (on_words (parting who draws) ∷ ss) m n k h = (
    h.0.core,
    (h.1.0, h.1.1, ap (λ (x : Machine). x.core) h.1.2),
    projects ss h.0 n (step_keeps m h.0 (on_words (parting who draws)) k h.1) h.2,
  )
  projects (on_words (joining who other) ∷ ss) m n k h = (
    h.0.core,
    (h.1.0, h.1.1, h.1.2, ap (λ (x : Machine). x.core) h.1.3),
    projects ss h.0 n (step_keeps m h.0 (on_words (joining who other)) k h.1) h.2,
  )
  projects (device who call ∷ ss) m n k h =
      subst (λ (c : State). AllLead z c (words_of ss) n.core) (ap (λ (x : Machine). x.core) h.1.4)
      (projects ss h.0 n (step_keeps m h.0 (device who call) k h.1) h.2)
