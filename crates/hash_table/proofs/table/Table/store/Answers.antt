use Rattle.std.proofs.Common.{IfSome, is_some, if◌then◌else◌, sym, subst, ap, ◌∙◌, slice_index, lit≤}
use Rattle.std.proofs.lemmas.Result.{IfOk-from_err}
use Rattle.word_space.specs.Sights.{shown}
use Rattle.word_space.proofs.Runs.{used_until, below_before, shown_same, length_shown, wrote_none, wrote_then, used_handed, used_more, used_then}
use Rattle.word_space.specs.Steps.{Wrote}
use Rattle.record_heap.specs.Pool.{FitsPool, IsPool, IsRecord, Takes, IsFirstFree}
use Rattle.hash_table.specs.Table.{FitsTable, records_in}
use Rattle.hash_table.proofs.Insertions.{inserts_full, inserts_stored}
use Rattle.hash_table.proofs.table.Table.store.Goals as goal

pub returns-in_err-head : goal.returns-in_err-head
returns-in_err-head g c = let r = c.from_residual in record { uses = used_handed r.result r.ensures.1 c.in_err-head.ensures.uses (lit≤ tt) (lit≤ tt); wrote = IfOk-from_err _ _ r.ensures.0; puts = IfOk-from_err _ _ r.ensures.0; «record» = IfOk-from_err _ _ r.ensures.0; inserts = IfOk-from_err _ _ r.ensures.0 }

pub returns-in_err-at : goal.returns-in_err-at
returns-in_err-at g c = let r = c.from_residual-in_err-at in record { uses = used_handed r.result r.ensures.1 (used_until c.in_ok-head.ensures.uses c.in_err-at.ensures.uses) (lit≤ tt) (lit≤ tt); wrote = IfOk-from_err _ _ r.ensures.0; puts = IfOk-from_err _ _ r.ensures.0; «record» = IfOk-from_err _ _ r.ensures.0; inserts = IfOk-from_err _ _ r.ensures.0 }

pub returns-in_default-clause-uses : goal.returns-in_default-clause-uses
returns-in_default-clause-uses g c = used_more (used_then c.in_ok-head.ensures.uses c.in_ok-at.ensures.uses) (lit≤ tt) (lit≤ tt)

pub returns-in_err-push_front : goal.returns-in_err-push_front
returns-in_err-push_front g c = let r = c.from_residual-in_err-push_front in record { uses = used_handed r.result r.ensures.1 (used_until (used_then c.in_ok-head.ensures.uses c.in_ok-at.ensures.uses) c.in_err-push_front.ensures.uses) (lit≤ tt) (lit≤ tt); wrote = IfOk-from_err _ _ r.ensures.0; puts = IfOk-from_err _ _ r.ensures.0; «record» = IfOk-from_err _ _ r.ensures.0; inserts = IfOk-from_err _ _ r.ensures.0 }

pub returns-clause-uses : goal.returns-clause-uses
returns-clause-uses g c = used_then c.in_ok-head.ensures.uses (used_then c.in_ok-at.ensures.uses c.in_ok-push_front.ensures.uses)

pub returns-in_default-clause-inserts : goal.returns-in_default-clause-inserts
returns-in_default-clause-inserts g c = λ array below chains free lawful absent.
    let table = c.args.self.now in
    let new = shown (g.W.Words.sight c.take.new.w) array in
    let records = records_in chains in
    let take_step = c.in_ok-at.ensures in
    let same = shown_same c.in_ok-head.ensures.uses array in
    inserts_full table c.args.key chains free absent
    (subst (λ o. Takes table.pool free records o (shown (g.W.Words.sight c.args.w.now) array) new) c.in_default.is
    (subst (λ old. Takes table.pool free records c.in_ok-at.field-0 old new) same
    (take_step.takes array below free records (subst (λ old. IsPool table.pool old free records) (sym same) lawful.pool))))

pub returns-clause-wrote : goal.returns-clause-wrote
returns-clause-wrote g c =
    let took : Wrote 2 (g.W.Words.sight c.read.new.self) (g.W.Words.sight c.take.new.w) =
    subst (λ o. Wrote (if is_some o then 2 else 0) (g.W.Words.sight c.read.new.self) (g.W.Words.sight c.take.new.w)) c.in-Some.is c.in_ok-at.ensures.wrote in
    wrote_then (wrote_none c.in_ok-head.ensures.uses) (wrote_then took c.in_ok-push_front.ensures.wrote)

pub returns-clause-inserts : goal.returns-clause-inserts
returns-clause-inserts g c = λ array below chains free lawful absent.
    let table = c.args.self.now in
    let words = shown (g.W.Words.sight c.args.w.now) array in
    let middle = shown (g.W.Words.sight c.take.new.w) array in
    let records = records_in chains in
    let below_take = below_before c.in_ok-push_front.ensures.uses below in
    let below_head = below_before c.in_ok-at.ensures.uses below_take in
    let same = shown_same c.in_ok-head.ensures.uses array in
    inserts_stored middle c.requires.fits (length_shown (below_before c.in_ok-head.ensures.uses below_head))
    (subst (λ o. IfSome o (IsRecord table.pool)) c.in-Some.is c.in_ok-at.ensures.record)
    (c.in_ok-head.ensures.value array below_head ∙ ap (λ i. slice_index words i) c.link_of.ensures)
    (c.in_ok-push_front.ensures.shown array)
    chains free lawful absent
    (subst (λ o. Takes table.pool free records o words middle) c.in-Some.is
    (subst (λ old. Takes table.pool free records c.in_ok-at.field-0 old middle) same
    (c.in_ok-at.ensures.takes array below_take free records (subst (λ old. IsPool table.pool old free records) (sym same) lawful.pool))))

pub take-requires : goal.take-requires
take-requires g c = record { fits = subst (FitsPool c.args.self.now.pool) (sym c.in_ok-head.ensures.uses.count) c.requires.fits.pool }

pub push_front-requires-clause-fits : goal.push_front-requires-clause-fits
push_front-requires-clause-fits g c = subst (FitsTable c.args.self.now) (sym (c.in_ok-at.ensures.uses.count ∙ c.in_ok-head.ensures.uses.count)) c.requires.fits

pub returns-in_default-clause-puts : goal.returns-in_default-clause-puts
returns-in_default-clause-puts g c = λ array below.
    subst (λ o. IsFirstFree c.args.self.now.pool (shown (g.W.Words.sight c.args.w.now) array) o) c.in_default.is
    (subst (λ x. IsFirstFree c.args.self.now.pool x c.in_ok-at.field-0) (shown_same c.in_ok-head.ensures.uses array) (c.in_ok-at.ensures.first array below))

pub returns-clause-puts : goal.returns-clause-puts
returns-clause-puts g c = λ array below.
    subst (λ o. IsFirstFree c.args.self.now.pool (shown (g.W.Words.sight c.args.w.now) array) o) c.in-Some.is
    (subst (λ x. IsFirstFree c.args.self.now.pool x c.in_ok-at.field-0) (shown_same c.in_ok-head.ensures.uses array) (c.in_ok-at.ensures.first array (below_before c.in_ok-push_front.ensures.uses below)))

pub returns-clause-record : goal.returns-clause-record
returns-clause-record g c = subst (λ o. IfSome o (IsRecord c.args.self.now.pool)) c.in-Some.is c.in_ok-at.ensures.record

pub push_front-requires-clause-record : goal.push_front-requires-clause-record
push_front-requires-clause-record g c = subst (λ o. IfSome o (IsRecord c.args.self.now.pool)) c.in-Some.is c.in_ok-at.ensures.record

pub returns-in_default-clause-wrote : goal.returns-in_default-clause-wrote
returns-in_default-clause-wrote g c =
    let took : Wrote 0 (g.W.Words.sight c.read.new.self) (g.W.Words.sight c.take.new.w) =
    subst (λ o. Wrote (if is_some o then 2 else 0) (g.W.Words.sight c.read.new.self) (g.W.Words.sight c.take.new.w)) c.in_default.is c.in_ok-at.ensures.wrote in
    wrote_then (wrote_none c.in_ok-head.ensures.uses) took
