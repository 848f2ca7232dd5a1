use Rattle.std.proofs.Common.{sym, ◌∙◌, false}
use Rattle.std.proofs.lemmas.List.{get_or_read}
use Rattle.tatp_check.proofs.Marking.{mark_inside, met_before, met_now, fewer_unmarked}
use Rattle.tatp_check.proofs.marks.Marks.meet.Goals as goal

pub returns-then-index-clause-meets : goal.returns-then-index-clause-meets
returns-then-index-clause-meets c = λ met marked.
    let there = c.has.ensures.0 c.if-not-has.false in
    let marks = c.args.self.now.marks.items in
    met_before c.args.pool.now c.requires.size c.args.at there marks met marked
    (sym (get_or_read marks _ c.index.result.now (mark_inside c.args.pool.now c.requires.size c.args.at there marks c.requires.count) c.index.ensures false) ∙ c.if-index.true)

pub returns-clause-meets : goal.returns-clause-meets
returns-clause-meets c = λ met marked.
    let there = c.has.ensures.0 c.if-not-has.false in
    let marks = c.args.self.now.marks.items in
    met_now c.args.pool.now c.requires.size c.args.at there marks met marked
    (sym (get_or_read marks _ c.index.result.now (mark_inside c.args.pool.now c.requires.size c.args.at there marks c.requires.count) c.index.ensures false) ∙ c.if-index.false)

pub returns-clause-fewer : goal.returns-clause-fewer
returns-clause-fewer c =
    let there = c.has.ensures.0 c.if-not-has.false in
    let marks = c.args.self.now.marks.items in
    let inside = mark_inside c.args.pool.now c.requires.size c.args.at there marks c.requires.count in
    fewer_unmarked marks _ inside (sym (get_or_read marks _ c.index.result.now inside c.index.ensures false) ∙ c.if-index.false)
