use Rattle.std.proofs.Common.{ap, arith, subst, ◌∙◌, IfSome, lit≤, lit<}
use Rattle.hash_table.specs.Walk.{walk_reads}
use Rattle.word_space.specs.Sights.{shown}
use Rattle.word_space.specs.Steps.{Wrote}
use Rattle.word_space.proofs.Runs.{below_before, shown_same, used_then, used_until, wrote_none, wrote_then}
use Rattle.hash_table.specs.Table.{put_record, write_count}
use Rattle.tatp_model.specs.Ranges.{IsId}
use Rattle.tatp_model.specs.declared.reply.Reply.TheVariants.{Duplicate, FullTable, Missing, NoFacility}
use Rattle.tatp_model.specs.Request.{IsInRange}
use Rattle.tatp_layout.proofs.Seen.{fits_still, record_at}
use Rattle.tatp_core.proofs.Answered.{finds_at, fits_at, inserts_at}
use Rattle.tatp_core.proofs.Inserting.{serves_for_none, serves_full, serves_inserted, serves_nowhere, serves_twice}
use Rattle.tatp_core.proofs.Phones.{known, unknown}
use Rattle.tatp_core.proofs.Serving.{serves_changed, serves_stopped, serves_unchanged, wrote_more}
use Rattle.tatp_core.proofs.insert.write_insert.Goals as goal

pub kind_key-requires-clause-id : goal.kind_key-requires-clause-id
kind_key-requires-clause-id g c = subst (λ o. IfSome o IsId) c.in-Some.is c.in_ok-s_id.ensures.range

pub kind_key-requires-clause-kind : goal.kind_key-requires-clause-kind
kind_key-requires-clause-kind g c = (subst IsInRange c.in-InsertCall.is c.requires.can.in_range).1

pub find-requires : goal.find-requires
find-requires g c = record { fits = fits_still (c.in_ok-s_id.ensures.uses.count ∙ c.requires.can.size) c.facilities.ensures.fits }

pub key-requires : goal.key-requires
key-requires g c =
    let range = subst IsInRange c.in-InsertCall.is c.requires.can.in_range in
    record { s_id = subst (λ o. IfSome o IsId) c.in-Some.is c.in_ok-s_id.ensures.range; sf_type = range.1; start_time = range.2; end_time = range.3; numberx = range.4 }

pub insert-requires : goal.insert-requires
insert-requires g c = record { fits = fits_still (c.in_ok-find.ensures.uses.count ∙ c.in_ok-s_id.ensures.uses.count ∙ c.requires.can.size) c.calls.ensures.fits }

pub put_call-requires-clause-size : goal.put_call-requires-clause-size
put_call-requires-clause-size g c = c.in_ok-insert.ensures.uses.count ∙ c.in_ok-find.ensures.uses.count ∙ c.in_ok-s_id.ensures.uses.count ∙ c.requires.can.size

pub put_call-requires-clause-record : goal.put_call-requires-clause-record
put_call-requires-clause-record g c = record_at c.calls.ensures.table (ap put_record c.in-Stored.is) c.in_ok-insert.ensures.«record»

pub put_call-requires-clause-range : goal.put_call-requires-clause-range
put_call-requires-clause-range g c =
    let range = subst IsInRange c.in-InsertCall.is c.requires.can.in_range in
    record { s_id = subst (λ o. IfSome o IsId) c.in-Some.is c.in_ok-s_id.ensures.range; sf_type = range.1; start_time = range.2; end_time = range.3; numberx = range.4 }

pub returns-in_err-s_id : goal.returns-in_err-s_id
returns-in_err-s_id g c = serves_stopped c.args.lay.now c.in-InsertCall.is c.from_residual.result c.from_residual.ensures.1 c.requires.can c.in_err-s_id.ensures.uses (omega arith) (lit≤ tt)

pub returns-in_default-2 : goal.returns-in_default-2
returns-in_default-2 g c = serves_unchanged c.args.lay.now c.in-InsertCall.is g.met.W.Words.well_formed Missing c.requires.can c.in_ok-s_id.ensures.uses (omega arith) (lit≤ tt) (wrote_none c.in_ok-s_id.ensures.uses) (λ same. cc)
    (λ range array below db stands. serves_for_none c.in-InsertCall.sub_nbr c.in-InsertCall.sf_type c.in-InsertCall.start_time c.in-InsertCall.end_time c.in-InsertCall.numberx range stands (unknown c.in-InsertCall.sub_nbr stands c.in_default-2.is (c.in_ok-s_id.ensures.id array below)) (shown_same c.in_ok-s_id.ensures.uses array))

pub returns-in_err-find : goal.returns-in_err-find
returns-in_err-find g c = serves_stopped c.args.lay.now c.in-InsertCall.is c.from_residual-in_err-find.result c.from_residual-in_err-find.ensures.1 c.requires.can (used_until c.in_ok-s_id.ensures.uses c.in_err-find.ensures.uses) (omega (arith, ap walk_reads c.facilities.ensures.table)) (lit≤ tt)

pub returns-in_default-3 : goal.returns-in_default-3
returns-in_default-3 g c = serves_unchanged c.args.lay.now c.in-InsertCall.is g.met.W.Words.well_formed NoFacility c.requires.can (used_then c.in_ok-s_id.ensures.uses c.in_ok-find.ensures.uses) (omega (arith, ap walk_reads c.facilities.ensures.table)) (lit≤ tt) (wrote_none (used_then c.in_ok-s_id.ensures.uses c.in_ok-find.ensures.uses)) (λ same. cc)
    (λ range array below db stands. serves_nowhere c.in-InsertCall.sub_nbr c.in-InsertCall.sf_type c.in-InsertCall.start_time c.in-InsertCall.end_time c.in-InsertCall.numberx range stands c.in-Some.s_id
    (known c.in-InsertCall.sub_nbr stands c.in-Some.is (c.in_ok-s_id.ensures.id array (below_before c.in_ok-find.ensures.uses below)))
    (finds_at c.facilities.ensures.table (shown_same c.in_ok-s_id.ensures.uses array) c.kind_key.ensures c.in_default-3.is (c.in_ok-find.ensures.found array below))
    (shown_same (used_then c.in_ok-s_id.ensures.uses c.in_ok-find.ensures.uses) array))

pub returns-in_err-insert : goal.returns-in_err-insert
returns-in_err-insert g c = serves_stopped c.args.lay.now c.in-InsertCall.is c.from_residual-in_err-insert.result c.from_residual-in_err-insert.ensures.1 c.requires.can (used_until (used_then c.in_ok-s_id.ensures.uses c.in_ok-find.ensures.uses) c.in_err-insert.ensures.uses) (omega (arith, ap walk_reads c.facilities.ensures.table, ap walk_reads c.calls.ensures.table)) (lit≤ tt)

pub returns-in-There : goal.returns-in-There
returns-in-There g c = serves_unchanged c.args.lay.now c.in-InsertCall.is g.met.W.Words.well_formed Duplicate c.requires.can (used_then c.in_ok-s_id.ensures.uses (used_then c.in_ok-find.ensures.uses c.in_ok-insert.ensures.uses)) (omega (arith, ap walk_reads c.facilities.ensures.table, ap walk_reads c.calls.ensures.table)) (lit≤ tt) (wrote_then (wrote_none (used_then c.in_ok-s_id.ensures.uses c.in_ok-find.ensures.uses)) (subst (λ p. Wrote (write_count p) (g.W.Words.sight c.find.new.w) (g.W.Words.sight c.insert.new.w)) c.in-There.is c.in_ok-insert.ensures.wrote)) (λ same. cc)
    (λ range array below db stands. serves_twice c.in-InsertCall.sub_nbr c.in-InsertCall.sf_type c.in-InsertCall.start_time c.in-InsertCall.end_time c.in-InsertCall.numberx range stands c.in-Some.s_id (known c.in-InsertCall.sub_nbr stands c.in-Some.is (c.in_ok-s_id.ensures.id array (below_before c.in_ok-find.ensures.uses (below_before c.in_ok-insert.ensures.uses below))))
    (finds_at c.facilities.ensures.table (shown_same c.in_ok-s_id.ensures.uses array) c.kind_key.ensures c.in-Some-2.is (c.in_ok-find.ensures.found array (below_before c.in_ok-insert.ensures.uses below)))
    (inserts_at (shown (g.W.Words.sight c.insert.new.w) array) c.calls.ensures.table (shown_same (used_then c.in_ok-s_id.ensures.uses c.in_ok-find.ensures.uses) array) c.key.ensures c.in-There.is (c.in_ok-insert.ensures.inserts array below)))

pub returns-in-Full : goal.returns-in-Full
returns-in-Full g c = serves_unchanged c.args.lay.now c.in-InsertCall.is g.met.W.Words.well_formed FullTable c.requires.can (used_then c.in_ok-s_id.ensures.uses (used_then c.in_ok-find.ensures.uses c.in_ok-insert.ensures.uses)) (omega (arith, ap walk_reads c.facilities.ensures.table, ap walk_reads c.calls.ensures.table)) (lit≤ tt) (wrote_then (wrote_none (used_then c.in_ok-s_id.ensures.uses c.in_ok-find.ensures.uses)) (subst (λ p. Wrote (write_count p) (g.W.Words.sight c.find.new.w) (g.W.Words.sight c.insert.new.w)) c.in-Full.is c.in_ok-insert.ensures.wrote)) (λ same. cc)
    (λ range array below db stands. serves_full c.in-InsertCall.sub_nbr c.in-InsertCall.sf_type c.in-InsertCall.start_time c.in-InsertCall.end_time c.in-InsertCall.numberx range stands c.in-Some.s_id (known c.in-InsertCall.sub_nbr stands c.in-Some.is (c.in_ok-s_id.ensures.id array (below_before c.in_ok-find.ensures.uses (below_before c.in_ok-insert.ensures.uses below))))
    (finds_at c.facilities.ensures.table (shown_same c.in_ok-s_id.ensures.uses array) c.kind_key.ensures c.in-Some-2.is (c.in_ok-find.ensures.found array (below_before c.in_ok-insert.ensures.uses below)))
    (inserts_at (shown (g.W.Words.sight c.insert.new.w) array) c.calls.ensures.table (shown_same (used_then c.in_ok-s_id.ensures.uses c.in_ok-find.ensures.uses) array) c.key.ensures c.in-Full.is (c.in_ok-insert.ensures.inserts array below)))

pub returns-in_err-put_call-in-Stored : goal.returns-in_err-put_call-in-Stored
returns-in_err-put_call-in-Stored g c = serves_stopped c.args.lay.now c.in-InsertCall.is c.from_residual-in_err-put_call-in-Stored.result c.from_residual-in_err-put_call-in-Stored.ensures.1 c.requires.can (used_until (used_then c.in_ok-s_id.ensures.uses (used_then c.in_ok-find.ensures.uses c.in_ok-insert.ensures.uses)) c.in_err-put_call-in-Stored.ensures.uses) (omega (arith, ap walk_reads c.facilities.ensures.table, ap walk_reads c.calls.ensures.table)) (lit≤ tt)

pub returns-in_ok-put_call-in-Stored : goal.returns-in_ok-put_call-in-Stored
returns-in_ok-put_call-in-Stored g c = serves_changed c.args.lay.now c.in-InsertCall.is g.met.W.Words.well_formed c.requires.can (used_then c.in_ok-s_id.ensures.uses (used_then c.in_ok-find.ensures.uses (used_then c.in_ok-insert.ensures.uses c.in_ok-put_call-in-Stored.ensures.uses))) (omega (arith, ap walk_reads c.facilities.ensures.table, ap walk_reads c.calls.ensures.table)) (lit≤ tt) (wrote_more (wrote_then (wrote_none (used_then c.in_ok-s_id.ensures.uses c.in_ok-find.ensures.uses)) (wrote_then (subst (λ p. Wrote (write_count p) (g.W.Words.sight c.find.new.w) (g.W.Words.sight c.insert.new.w)) c.in-Stored.is c.in_ok-insert.ensures.wrote) c.in_ok-put_call-in-Stored.ensures.wrote)) (lit< tt))
    (λ range array below db stands.
    let q = c.in-InsertCall in
    let id = c.in_ok-s_id.ensures in
    let find = c.in_ok-find.ensures in
    let insert = c.in_ok-insert.ensures in
    let put = c.in_ok-put_call-in-Stored.ensures in
    let below_insert = below_before put.uses below in
    let below_find = below_before insert.uses below_insert in
    (serves_inserted q.sub_nbr q.sf_type q.start_time q.end_time q.numberx range stands c.in-Some.s_id
    (known q.sub_nbr stands c.in-Some.is (id.id array (below_before find.uses below_find)))
    (finds_at c.facilities.ensures.table (shown_same id.uses array) c.kind_key.ensures c.in-Some-2.is (find.found array below_find))
    c.in-Stored.at (fits_at c.calls.ensures.table c.calls.ensures.fits)
    (inserts_at (shown (g.W.Words.sight c.insert.new.w) array) c.calls.ensures.table (shown_same (used_then id.uses find.uses) array) c.key.ensures c.in-Stored.is (insert.inserts array below_insert))
    (put.shown array) (put.holds array below)))
