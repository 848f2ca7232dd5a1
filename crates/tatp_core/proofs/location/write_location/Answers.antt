use Rattle.std.proofs.Common.{ap, arith, subst, refl, ◌∙◌}
use Rattle.hash_table.specs.Walk.{walk_reads}
use Rattle.word_space.specs.Sights.{shown}
use Rattle.word_space.proofs.Runs.{below_before, shown_same, used_then, used_until, wrote_none}
use Rattle.tatp_model.specs.declared.reply.Reply.TheVariants.{Missing}
use Rattle.tatp_model.specs.Request.{IsInRange}
use Rattle.tatp_layout.specs.RecordCalls.{MovesLocation}
use Rattle.tatp_layout.proofs.Seen.{fits_still, record_at}
use Rattle.tatp_core.proofs.Answered.{finds_at, fits_at}
use Rattle.tatp_core.proofs.Locations.{serves_location, serves_no_number, subscriber_is_there}
use Rattle.tatp_core.proofs.Phones.{known, unknown}
use Rattle.tatp_core.proofs.Serving.{serves_changed, serves_stopped, serves_unchanged}
use Rattle.tatp_core.proofs.location.write_location.Goals as goal

pub find-requires : goal.find-requires
find-requires g c = record { fits = fits_still (c.in_ok-s_id.ensures.uses.count ∙ c.requires.can.size) c.subscribers.ensures.fits }

pub put_vlr-requires-clause-size : goal.put_vlr-requires-clause-size
put_vlr-requires-clause-size g c = c.in_ok-at.ensures.uses.count ∙ c.in_ok-s_id.ensures.uses.count ∙ c.requires.can.size

pub put_vlr-requires-clause-record : goal.put_vlr-requires-clause-record
put_vlr-requires-clause-record g c = record_at c.subscribers.ensures.table c.in-Some-2.is c.in_ok-at.ensures.«record»

pub put_vlr-requires-clause-range : goal.put_vlr-requires-clause-range
put_vlr-requires-clause-range g c = (subst IsInRange c.in-UpdateLocation.is c.requires.can.in_range).1

pub returns-in_err-s_id : goal.returns-in_err-s_id
returns-in_err-s_id g c = serves_stopped c.args.lay.now c.in-UpdateLocation.is c.from_residual.result c.from_residual.ensures.1 c.requires.can c.in_err-s_id.ensures.uses (omega arith) (omega arith)

pub returns-in_default-2 : goal.returns-in_default-2
returns-in_default-2 g c = serves_unchanged c.args.lay.now c.in-UpdateLocation.is g.met.W.Words.well_formed Missing c.requires.can c.in_ok-s_id.ensures.uses (omega arith) (omega arith) (wrote_none c.in_ok-s_id.ensures.uses) (λ same. cc)
    (λ range array below db stands. serves_no_number c.in-UpdateLocation.sub_nbr c.in-UpdateLocation.vlr range stands (unknown c.in-UpdateLocation.sub_nbr stands c.in_default-2.is (c.in_ok-s_id.ensures.id array below)) (shown_same c.in_ok-s_id.ensures.uses array))

pub returns-in_err-at : goal.returns-in_err-at
returns-in_err-at g c = serves_stopped c.args.lay.now c.in-UpdateLocation.is c.from_residual-in_err-at.result c.from_residual-in_err-at.ensures.1 c.requires.can (used_until c.in_ok-s_id.ensures.uses c.in_err-at.ensures.uses) (omega (arith, ap walk_reads c.subscribers.ensures.table)) (omega arith)

pub returns-in_default-3 : goal.returns-in_default-3
returns-in_default-3 g c = serves_unchanged c.args.lay.now c.in-UpdateLocation.is g.met.W.Words.well_formed Missing c.requires.can (used_then c.in_ok-s_id.ensures.uses c.in_ok-at.ensures.uses) (omega (arith, ap walk_reads c.subscribers.ensures.table)) (omega arith) (wrote_none (used_then c.in_ok-s_id.ensures.uses c.in_ok-at.ensures.uses)) (λ same. cc)
    (λ range array below db stands. absurd (subscriber_is_there c.in-UpdateLocation.sub_nbr c.in-UpdateLocation.vlr range stands c.in-Some.s_id
    (known c.in-UpdateLocation.sub_nbr stands c.in-Some.is (c.in_ok-s_id.ensures.id array (below_before c.in_ok-at.ensures.uses below)))
    (finds_at c.subscribers.ensures.table (shown_same c.in_ok-s_id.ensures.uses array) refl c.in_default-3.is (c.in_ok-at.ensures.found array below))))

pub returns-in_err-put_vlr : goal.returns-in_err-put_vlr
returns-in_err-put_vlr g c = serves_stopped c.args.lay.now c.in-UpdateLocation.is c.from_residual-in_err-put_vlr.result c.from_residual-in_err-put_vlr.ensures.1 c.requires.can (used_until (used_then c.in_ok-s_id.ensures.uses c.in_ok-at.ensures.uses) c.in_err-put_vlr.ensures.uses) (omega (arith, ap walk_reads c.subscribers.ensures.table)) (omega arith)

pub returns : goal.returns
returns g c = serves_changed c.args.lay.now c.in-UpdateLocation.is g.met.W.Words.well_formed c.requires.can (used_then c.in_ok-s_id.ensures.uses (used_then c.in_ok-at.ensures.uses c.in_ok-put_vlr.ensures.uses)) (omega (arith, ap walk_reads c.subscribers.ensures.table)) (omega arith) c.in_ok-put_vlr.ensures.wrote
    (λ range array below db stands.
    let q = c.in-UpdateLocation in
    let id = c.in_ok-s_id.ensures in
    let find = c.in_ok-at.ensures in
    let put = c.in_ok-put_vlr.ensures in
    let below_find = below_before put.uses below in
    let same = shown_same (used_then id.uses find.uses) array in
    let new = shown (g.W.Words.sight c.put_vlr.new.w) array in
    (serves_location q.sub_nbr q.vlr range stands c.in-Some.s_id
    (known q.sub_nbr stands c.in-Some.is (id.id array (below_before find.uses below_find)))
    c.in-Some-2.at (fits_at c.subscribers.ensures.table c.subscribers.ensures.fits)
    (finds_at c.subscribers.ensures.table (shown_same id.uses array) refl c.in-Some-2.is (find.found array below_find))
    (subst (λ l. MovesLocation c.args.lay.now c.in-Some-2.at q.vlr l new tt) same (put.moves array below))))
