-- Where a step settles the mark.
use Rattle.std.proofs.Common.{◌≡◌, ℕ, ◌<◌, ◌⊎◌, inl, inr, List, [], ◌∷◌, All, Contains, refl, sym, ap, ◌∙◌, subst, arith}
use Rattle.std.proofs.lemmas.List.Elements.{All-contains, Contains-append_right}
use Rattle.pmem_trait.specs.declared.call.Call.{Call}
use Rattle.dude_base.specs.Records.{RedoBundle, RedoRecord}
use Rattle.redo_record.specs.LogState.{LogState}
use Rattle.redo_record.specs.Recovery.{AreConsecutive}
use Rattle.redo_record.specs.Waiting.{Lead, Waiting, Waits}
use Rattle.core_events.specs.Setups.{Setup}
use Rattle.core_events.specs.Views.{View}
use Rattle.core_events.specs.Words.{State}
use Rattle.core_events.specs.Events.{Event, take_turn, raise_reproduced, evict, show}
use Rattle.core_events.specs.Partings.{event, parting, joining}
use Rattle.core_medium.specs.Stores.{Store}
use Rattle.core_medium.specs.BackCalls.{BackCall, persisting, announcing, reproducing, reading, MayCall, device_after}
use Rattle.core_medium.specs.Machines.{Machine, on_words, device, store_after}
use Rattle.core_medium.specs.MachineLaws.{LawOfMarks}

-- the mark is where it was, or at the last number of a bundle that waited
abbrev IsMarked : LogState → LogState → Type 0
IsMarked l k = (k.reproduced ≡ l.reproduced) ⊎ ((w : Waiting) × Contains l.waiting w × (w.redo.last ≡ k.reproduced))

-- no event on words changes the log
log_same : (z : Setup) (e : Event) (c : State) (v : View) (d : Store) → (store_after z e c v d).log ≡ d.log
log_same z take_turn c v d = refl
log_same z (raise_reproduced x) c v d = refl
log_same z (evict p) c v d = refl
log_same z (show p f) c v d = refl
log_same z e c v d = refl

-- the last one of bundles that lead to a number
record EndsAt (records : List RedoBundle) (to : ℕ) : Type 0 where
  last : RedoBundle
  there : Contains records last
  ends : last.last ≡ to

last_of : (r : RedoBundle) (rs : List RedoBundle) (to : ℕ) → AreConsecutive r.last rs to → EndsAt (r ∷ rs) to
last_of r [] to leads = record { last = r; there = (0, omega arith, refl); ends = leads }
last_of r (s ∷ rs) to leads =
    let more = last_of s rs to leads.1 in
    record { last = more.last; there = Contains-append_right (r ∷ []) (s ∷ rs) more.last more.there; ends = more.ends }

ends_at : (from to : ℕ) (records : List RedoBundle) → AreConsecutive from records to → from < to → EndsAt records to
ends_at from to [] leads more = absurd (omega (arith, leads, more))
ends_at from to (r ∷ rs) leads more = last_of r rs to leads.1

reproduces_at : (l : LogState) (records : List RedoBundle) (to : ℕ) → Lead l.waiting l.reproduced records to → l.reproduced < to → (w : Waiting) × Contains l.waiting w × (w.redo.last ≡ to)
reproduces_at l records to lead more =
    let end = ends_at l.reproduced to records lead.consecutive more in
    let waits = All-contains (Waits l.waiting) records end.last lead.wait end.there in
    (record { ring = waits.ring; redo = end.last }, waits.is_one, end.ends)

-- a call on the medium settles it where it is the last one of a reproduction
device_at : (z : Setup) (boxes : List ℕ) (records : List RedoRecord) (d : Store) (b : BackCall) (call : Call) (left : List Call) → MayCall z boxes records d.log d.rest.told b → IsMarked d.log (device_after z records b call left d).log
device_at z boxes records d (persisting t j more) call [] may = inl refl
device_at z boxes records d (announcing n) call [] may = inl refl
device_at z boxes records d (reproducing rs ws n) call [] may = inr (reproduces_at d.log rs n may.lead may.some)
device_at z boxes records d (reading p) call [] may = inl refl
device_at z boxes records d b call (x ∷ xs) may = inl refl

pub marks_at : LawOfMarks
marks_at z (on_words (event who e)) m n leads = inl (ap (λ (o : Machine). o.store.log.reproduced) leads.2 ∙ ap (λ (l : LogState). l.reproduced) (log_same z e m.core leads.0 m.store))
marks_at z (on_words (parting who draws)) m n leads = inl (ap (λ (o : Machine). o.store.log.reproduced) leads.2)
marks_at z (on_words (joining who other)) m n leads = inl (ap (λ (o : Machine). o.store.log.reproduced) leads.3)
marks_at z (device who call) m n leads =
    subst (λ (o : Machine). IsMarked m.store.log o.store.log) (sym leads.4) (device_at z m.core.boxes m.core.records m.store leads.1 call leads.2 leads.3.may)
