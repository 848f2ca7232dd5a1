use Rattle.std.proofs.Common.{◌≡◌, ◌∙◌, ◌<◌, ℕ, All, ap, sym, subst}
use Rattle.dude_base.specs.Records.{RedoBundle, HasNumbers, bundle_of}
use Rattle.core_medium.specs.BoxBundles.{boxed}
use Rattle.dude_core.specs.StoreData.{HasOnMedium, ring_at}
use Rattle.dude_core.specs.Gathers.{number_in, Gathers, GathersNo}
use Rattle.dude_core.proofs.NextCalls.{some_by, none_by}
use Rattle.dude_core.proofs.Gathers.{box_read, record_numbers, persist_medium_not, persist_old_not, persists_by, persists_no}
use Rattle.dude_core.proofs.state.State.persist_of.Goals as goal
use Rattle.dude_core.proofs.state.State.persist_of.Goals.{then-is_on_medium-via-then-is_on_medium, then-is_on_medium-via-else-is_on_medium+then-not-is_newest}

pub returns-then-is_on_medium-clause-none : goal.returns-then-is_on_medium-clause-none
returns-then-is_on_medium-clause-none c =
    let number = (box_read c.args.z.now c.args.self.now c.args.store.now c.requires.kept _ c.box_of.result c.args.thread c.in-Some.place c.record_at-record.result c.requires.thread c.in-Some.ensures c.record_at-record.ensures c.self.view_is c.box_of.ensures).1 in
    elim c.then-is_on_medium.branch [
      | then-is_on_medium-via-then-is_on_medium w ↦
          persist_medium_not c.args.z.now c.args.self.now c.args.store.now c.requires.kept c.args.call c.args.thread c.in-Some.place c.in-Some.ensures
          (subst (HasOnMedium c.args.store.now) (c.number.ensures ∙ number) w.if-is_on_medium.ensures)
      | then-is_on_medium-via-else-is_on_medium+then-not-is_newest w ↦
          persist_old_not c.args.z.now c.args.self.now c.args.store.now c.requires.kept c.args.call c.args.thread c.in-Some.place c.in-Some.ensures
          (λ all. w.if-not-is_newest.ensures (subst (λ (n : ℕ). All (λ k. k.last < n) (ring_at c.args.store.now c.args.thread).logged) (sym (w.number-else-is_on_medium.ensures ∙ number)) all))
    ]

pub gather-requires-clause-numbers : goal.gather-requires-clause-numbers
gather-requires-clause-numbers c =
    let number = (box_read c.args.z.now c.args.self.now c.args.store.now c.requires.kept _ c.box_of.result c.args.thread c.in-Some.place c.record_at-record.result c.requires.thread c.in-Some.ensures c.record_at-record.ensures c.self.view_is c.box_of.ensures).1 in
    subst HasNumbers (sym c.one.ensures)
    (record_numbers c.args.z.now c.args.self.now c.args.store.now c.requires.kept c.args.thread c.in-Some.place c.requires.thread c.in-Some.ensures.0 c.in-Some.ensures.1 c.record_at-record.result number)

-- the record that was read is the one in the box, with its number
is_read : (c : goal.After-gather) → (c.record_at-record.result ≡ boxed c.args.z.now c.args.self.now.records c.args.thread c.in-Some.place)
    × (c.record_at-record.result.number ≡ number_in c.args.z.now c.args.self.now c.args.thread c.in-Some.place)
is_read c = box_read c.args.z.now c.args.self.now c.args.store.now c.requires.kept _ c.box_of.result c.args.thread c.in-Some.place c.record_at-record.result c.requires.thread c.in-Some.ensures c.record_at-record.ensures c.self.view_is c.box_of.ensures

-- its number isn't on the medium
not_on_medium : (c : goal.After-gather) → HasOnMedium c.args.store.now (number_in c.args.z.now c.args.self.now c.args.thread c.in-Some.place) → ⊥
not_on_medium c = λ has. c.if-is_on_medium.ensures (subst (HasOnMedium c.args.store.now) (sym (c.number.ensures ∙ (is_read c).1)) has)

pub returns-clause-some : goal.returns-clause-some
returns-clause-some c = some_by c.gather.result
    (λ g on. persists_by c.args.z.now c.args.self.now c.args.store.now c.requires.kept c.args.call c.args.thread c.in-Some.place c.in-Some.ensures c.requires.thread (not_on_medium c) g.bundle g.is_last
    (subst (λ (n : ℕ). All (λ k. k.last < n) (ring_at c.args.store.now c.args.thread).logged) (c.number-else-is_on_medium.ensures ∙ (is_read c).1) c.if-not-is_newest.ensures)
    (subst (λ (b : RedoBundle). Gathers c.args.z.now c.args.self.now c.args.store.now c.args.call c.args.thread b g.bundle g.is_last) (c.one.ensures ∙ ap bundle_of (is_read c).0) on))
    c.gather.ensures.some

pub returns-clause-none : goal.returns-clause-none
returns-clause-none c = none_by c.gather.result
    (λ none_at. persists_no c.args.z.now c.args.self.now c.args.store.now c.requires.kept c.args.call c.args.thread c.in-Some.place c.in-Some.ensures c.requires.thread (not_on_medium c)
    (subst (λ (b : RedoBundle). GathersNo c.args.z.now c.args.self.now c.args.store.now c.args.call c.args.thread b) (c.one.ensures ∙ ap bundle_of (is_read c).0) none_at))
    c.gather.ensures.none
