use Rattle.std.proofs.Common.{◌+◌, [], ◌∷◌, sym, subst, arith}
use Rattle.redo_record.specs.Waiting.{Lead}
use Rattle.redo_record.proofs.WaitingRecords.{waiting_law}
use Rattle.back_store.specs.Lanes.{waiting_of}
use Rattle.back_store.proofs.Merging.{front_is, front_of, no_record, taken_last, taken_leads, no_further}
use Rattle.back_store.proofs.merge.next_end.Goals as goal

pub unreachable-requires : goal.unreachable-requires
unreachable-requires c =
    let some = c.requires.some in
    let le = no_further c.args.lanes.now c.args.from c.args.to c.args.from c.requires.lanes.distinct c.requires.led (record { records = []; lead = waiting_law.here (waiting_of c.args.lanes.now) c.args.from }) c.in_default.ensures.none in
    omega arith

pub returns-clause-led : goal.returns-clause-led
returns-clause-led c =
    let on = taken_leads c.args.lanes.now c.requires.lanes.distinct c.fronts_at-fronts.result c.args.from c.args.from c.in-Some.k c.index-lanes-k.result (front_of c.index-lanes-k.result c.fronts_at-fronts.result c.in-Some.k) [] c.in-Some.ensures.some c.index-lanes-k.is (front_is c.args.lanes.now c.fronts_at-fronts.result (c.args.from + 1) c.in-Some.k c.index-lanes-k.result c.in-Some.ensures.some c.index-lanes-k.is) (waiting_law.here (waiting_of c.args.lanes.now) c.args.from) in
    record { records = (front_of c.index-lanes-k.result c.fronts_at-fronts.result c.in-Some.k) ∷ []; lead = subst (Lead (waiting_of c.args.lanes.now) c.args.from ((front_of c.index-lanes-k.result c.fronts_at-fronts.result c.in-Some.k) ∷ [])) (sym (c.last.ensures no_record)) on.0 }

pub returns-clause-over : goal.returns-clause-over
returns-clause-over c =
    let both = taken_last c.args.place.now c.sizes-sizes.ensures.accepted c.args.lanes.now c.requires.lanes c.fronts_at-fronts.result c.args.from c.in-Some.k c.index-lanes-k.result (front_of c.index-lanes-k.result c.fronts_at-fronts.result c.in-Some.k) c.in-Some.ensures.some c.index-lanes-k.is (front_is c.args.lanes.now c.fronts_at-fronts.result (c.args.from + 1) c.in-Some.k c.index-lanes-k.result c.in-Some.ensures.some c.index-lanes-k.is) in
    let low = both.1 in
    let last = (c.last.ensures no_record) in
    omega arith

pub returns-clause-least : goal.returns-clause-least
returns-clause-least c n is further =
    let on = taken_leads c.args.lanes.now c.requires.lanes.distinct c.fronts_at-fronts.result c.args.from c.args.from c.in-Some.k c.index-lanes-k.result (front_of c.index-lanes-k.result c.fronts_at-fronts.result c.in-Some.k) [] c.in-Some.ensures.some c.index-lanes-k.is (front_is c.args.lanes.now c.fronts_at-fronts.result (c.args.from + 1) c.in-Some.k c.index-lanes-k.result c.in-Some.ensures.some c.index-lanes-k.is) (waiting_law.here (waiting_of c.args.lanes.now) c.args.from) in
    let last = (c.last.ensures no_record) in
    let upto = on.1 n is.records is.lead further in
    omega arith
