use Rattle.std.proofs.Common.{subst, sym, arith, lit≤}
use Rattle.std.proofs.lemmas.Result.{IfOk-from_err, IfOk-weaker}
use Rattle.word_space.specs.Sights.{shown}
use Rattle.word_space.proofs.Runs.{used_behind, below_behind, shown_same, used_handed, used_more}
use Rattle.hash_table.specs.Table.{FitsTable}
use Rattle.hash_table.proofs.Insertions.{found_first, inserts_absent, puts_absent}
use Rattle.hash_table.proofs.Walks.{finds_none, finds_some}
use Rattle.hash_table.proofs.table.Table.insert.Goals as goal

pub returns-in_err-position : goal.returns-in_err-position
returns-in_err-position g c = let r = c.from_residual in record { uses = used_handed r.result r.ensures.1 c.in_err-position.ensures.uses (omega arith) (lit≤ tt); wrote = IfOk-from_err _ _ r.ensures.0; puts = IfOk-from_err _ _ r.ensures.0; «record» = IfOk-from_err _ _ r.ensures.0; inserts = IfOk-from_err _ _ r.ensures.0 }

pub returns-in-Some-clause-uses : goal.returns-in-Some-clause-uses
returns-in-Some-clause-uses g c = used_more c.in_ok-position.ensures.uses (omega arith) (lit≤ tt)

pub returns-in-None-clause-uses : goal.returns-in-None-clause-uses
returns-in-None-clause-uses g c = used_behind c.in_ok-position.ensures.uses c.store.ensures.uses

pub returns-in-Some-clause-puts : goal.returns-in-Some-clause-puts
returns-in-Some-clause-puts g c = λ array below. finds_some c.in_ok-position.field-0 c.in-Some.position c.in-Some.is (c.in_ok-position.ensures.seeks array below)

pub returns-in-Some-clause-inserts : goal.returns-in-Some-clause-inserts
returns-in-Some-clause-inserts g c = λ array below chains free lawful. (
  sym (found_first chains free c.requires.fits lawful (finds_some c.in_ok-position.field-0 c.in-Some.position c.in-Some.is (c.in_ok-position.ensures.seeks array below))),
  shown_same c.in_ok-position.ensures.uses array,
)

pub returns-in-None-clause-puts : goal.returns-in-None-clause-puts
returns-in-None-clause-puts g c = IfOk-weaker c.store.result _ _ (λ put puts array below.
    let seek_step = c.in_ok-position.ensures in
    let below_seek = below_behind c.store.ensures.uses below in
    puts_absent put (shown_same seek_step.uses array) (puts array below)
    (finds_none c.in_ok-position.field-0 c.in-None.is (seek_step.seeks array below_seek))) c.store.ensures.puts

pub returns-in-None-clause-inserts : goal.returns-in-None-clause-inserts
returns-in-None-clause-inserts g c = IfOk-weaker c.store.result _ _ (λ put inserts array below chains free lawful.
    let seek_step = c.in_ok-position.ensures in
    let below_seek = below_behind c.store.ensures.uses below in
    inserts_absent c.args.key (shown (g.W.Words.sight c.store.new.w) array) put chains free (shown_same seek_step.uses array) lawful
    (sym (found_first chains free c.requires.fits lawful (finds_none c.in_ok-position.field-0 c.in-None.is (seek_step.seeks array below_seek))))
    (inserts array below chains free)) c.store.ensures.inserts

pub store-requires : goal.store-requires
store-requires g c = record { fits = subst (FitsTable c.args.self.now) (sym c.in_ok-position.ensures.uses.count) c.requires.fits }
