use Rattle.std.proofs.Common.{◌<◌, IfSome, arith, subst, sym, lit≤}
use Rattle.std.proofs.lemmas.Result.{IfOk-from_err}
use Rattle.record_heap.specs.Pool.{IsRecord}
use Rattle.hash_table.specs.Table.{FitsTable}
use Rattle.hash_table.specs.declared.table.ChainPosition.{ChainPosition}
use Rattle.word_space.proofs.Runs.{used_until, below_before, shown_same, wrote_none, wrote_then, used_handed, used_more, used_then}
use Rattle.hash_table.proofs.Insertions.{found_first}
use Rattle.hash_table.proofs.Removals.{drops_there}
use Rattle.hash_table.proofs.Walks.{finds_none, finds_some}
use Rattle.hash_table.proofs.table.Table.remove.Goals as goal

pub returns-in_err-position : goal.returns-in_err-position
returns-in_err-position g c = let r = c.from_residual in record { uses = used_handed r.result r.ensures.1 c.in_err-position.ensures.uses (omega arith) (lit≤ tt); wrote = IfOk-from_err _ _ r.ensures.0; finds = IfOk-from_err _ _ r.ensures.0; removes = IfOk-from_err _ _ r.ensures.0 }

pub returns-in_default-clause-uses : goal.returns-in_default-clause-uses
returns-in_default-clause-uses g c = used_more c.in_ok-position.ensures.uses (omega arith) (lit≤ tt)

pub returns-in_err-unlink : goal.returns-in_err-unlink
returns-in_err-unlink g c = let r = c.from_residual-in_err-unlink in record { uses = used_handed r.result r.ensures.1 (used_until c.in_ok-position.ensures.uses c.in_err-unlink.ensures.uses) (omega arith) (lit≤ tt); wrote = IfOk-from_err _ _ r.ensures.0; finds = IfOk-from_err _ _ r.ensures.0; removes = IfOk-from_err _ _ r.ensures.0 }

pub returns-clause-uses : goal.returns-clause-uses
returns-clause-uses g c = used_then c.in_ok-position.ensures.uses c.in_ok-unlink.ensures.uses

pub returns-in_default-clause-finds : goal.returns-in_default-clause-finds
returns-in_default-clause-finds g c = λ array below. finds_none c.in_ok-position.field-0 c.in_default.is (c.in_ok-position.ensures.seeks array below)

pub returns-in_default-clause-removes : goal.returns-in_default-clause-removes
returns-in_default-clause-removes g c = λ array below chains free lawful. (
  sym (found_first chains free c.requires.fits lawful (finds_none c.in_ok-position.field-0 c.in_default.is (c.in_ok-position.ensures.seeks array below))),
  shown_same c.in_ok-position.ensures.uses array,
)

pub returns-clause-finds : goal.returns-clause-finds
returns-clause-finds g c = λ array below.
    (c.in-Some.position.record, finds_some c.in_ok-position.field-0 c.in-Some.position c.in-Some.is (c.in_ok-position.ensures.seeks array (below_before c.in_ok-unlink.ensures.uses below)))

pub returns-clause-removes : goal.returns-clause-removes
returns-clause-removes g c = λ array below chains free lawful.
    let seek_step = c.in_ok-position.ensures in
    let unlink_step = c.in_ok-unlink.ensures in
    drops_there chains free c.requires.fits lawful c.in_ok-position.field-0 c.in-Some.position c.in-Some.is
    (seek_step.seeks array (below_before unlink_step.uses below))
    (shown_same seek_step.uses array)
    (λ amid there. unlink_step.drops array below chains free c.args.key there amid)

pub unlink-requires : goal.unlink-requires
unlink-requires g c = record {
  fits = subst (FitsTable c.args.self.now) (sym c.in_ok-position.ensures.uses.count) c.requires.fits;
  «record» = subst (λ o. IfSome o (λ (p : ChainPosition). IsRecord c.args.self.now.pool p.record)) c.in-Some.is c.in_ok-position.ensures.record;
  link = omega (arith, subst (λ o. IfSome o (λ (p : ChainPosition). p.link < (g.W.Words.sight c.args.w.now).count)) c.in-Some.is c.in_ok-position.ensures.link, c.in_ok-position.ensures.uses.count);
}

pub returns-in_default-clause-wrote : goal.returns-in_default-clause-wrote
returns-in_default-clause-wrote g c = wrote_none c.in_ok-position.ensures.uses

pub returns-clause-wrote : goal.returns-clause-wrote
returns-clause-wrote g c = wrote_then (wrote_none c.in_ok-position.ensures.uses) c.in_ok-unlink.ensures.wrote
