use Rattle.std.proofs.Common.{◌≡◌, ◌∙◌, ◌+◌, ℕ, get_or, ap, sym, subst, arith}
use Rattle.dude_base.specs.Records.{RedoBundle, with_next}
use Rattle.dude_base.specs.Joins.{CanJoin}
use Rattle.core_events.specs.Words.{State}
use Rattle.core_events.specs.Conditions.{no_record}
use Rattle.dude_core.specs.StoreData.{HasOnMedium}
use Rattle.dude_core.proofs.Gathers.{medium_not, boxes_not, number_bound, longer_by, longer_not, refuses_not}
use Rattle.dude_core.proofs.state.State.longer.Goals as goal

pub returns-then-is_on_medium-clause-none : goal.returns-then-is_on_medium-clause-none
returns-then-is_on_medium-clause-none c =
    medium_not c.args.z.now c.args.self.now c.args.store.now c.requires.kept c.args.bundle.now
    (subst (λ (n : ℕ). HasOnMedium c.args.store.now (n + 1)) c.last-number.ensures c.if-is_on_medium.ensures)

pub returns-in_default-clause-none : goal.returns-in_default-clause-none
returns-in_default-clause-none c =
    boxes_not c.args.z.now c.args.self.now c.args.store.now c.requires.kept c.args.bundle.now
    (λ i lt same. c.in_default.ensures.none i lt (let is = c.last-number.ensures in omega arith))

pub returns-in-Ok-clause-numbers : goal.returns-in-Ok-clause-numbers
returns-in-Ok-clause-numbers c =
    let is = c.last-number.ensures in
    let low = c.requires.numbers.low in
    let last : c.add.new.self.last ≡ c.copy-longer.result.last + 1 = ap (λ (b : RedoBundle). b.last) c.in-Ok.ensures.ok in
    let span : c.add.new.self.span ≡ c.copy-longer.result.span + 1 = ap (λ (b : RedoBundle). b.span) c.in-Ok.ensures.ok in
    let old_last = ap (λ (b : RedoBundle). b.last) c.copy-longer.ensures in
    let old_span = ap (λ (b : RedoBundle). b.span) c.copy-longer.ensures in
    let bound = number_bound c.args.z.now c.args.self.now c.args.store.now c.requires.kept c.in-Some.at c.in-Some.ensures.inside (c.last-number.result + 1) c.in-Some.ensures.some (omega arith) in
    record { low = omega arith; high = omega arith }

pub returns-in-Ok-clause-some : goal.returns-in-Ok-clause-some
returns-in-Ok-clause-some c =
    let records : c.record_at.result ≡ get_or c.args.self.now.records c.in-Some.at no_record = c.record_at.ensures ∙ ap (λ (s : State). get_or s.records c.in-Some.at no_record) c.self.view_is in
    longer_by c.args.z.now c.args.self.now c.args.store.now c.requires.kept c.in-Some.at c.in-Some.ensures.inside c.args.bundle.now c.add.new.self
    (c.in-Some.ensures.some ∙ ap (λ (n : ℕ). n + 1) c.last-number.ensures)
    (λ on. c.if-is_on_medium.ensures (subst (λ (n : ℕ). HasOnMedium c.args.store.now (n + 1)) (sym c.last-number.ensures) on))
    c.record_at.result records
    (subst (λ (b : RedoBundle). CanJoin b c.record_at.result) c.copy-longer.ensures c.in-Ok.ensures.joins)
    (c.in-Ok.ensures.ok ∙ ap (λ (b : RedoBundle). with_next b c.record_at.result) c.copy-longer.ensures)

pub returns-in-Err-clause-none : goal.returns-in-Err-clause-none
returns-in-Err-clause-none c =
    let records : c.record_at.result ≡ get_or c.args.self.now.records c.in-Some.at no_record = c.record_at.ensures ∙ ap (λ (s : State). get_or s.records c.in-Some.at no_record) c.self.view_is in
    longer_not c.args.z.now c.args.self.now c.args.store.now c.requires.kept c.in-Some.at c.in-Some.ensures.inside c.args.bundle.now
    (c.in-Some.ensures.some ∙ ap (λ (n : ℕ). n + 1) c.last-number.ensures)
    (λ on. c.if-is_on_medium.ensures (subst (λ (n : ℕ). HasOnMedium c.args.store.now (n + 1)) (sym c.last-number.ensures) on))
    c.record_at.result records
    (λ can. refuses_not c.in-Err.field-0 c.copy-longer.result c.record_at.result c.in-Err.ensures.why (subst (λ (b : RedoBundle). CanJoin b c.record_at.result) (sym c.copy-longer.ensures) can))
