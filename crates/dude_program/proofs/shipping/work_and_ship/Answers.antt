use Rattle.std.proofs.Common.{◌∙◌, sym}
use Rattle.dude_program.proofs.Works.{ran_over_plain, whole_end}
use Rattle.dude_program.proofs.shipping.work_and_ship.Goals as goal

pub returns-clause-ran : goal.returns-clause-ran
returns-clause-ran g c opening own =
    let s = c.shipped-shipped in
    let runs = s.ensures.runs in
    let worked = c.from_ran.ensures in
    rw (worked.done, worked.medium, worked.last, worked.fault) (ran_over_plain c.args.opened c.requires.opened c.args.files.now s.result.ran.done.items s.result.ran.end s.result.ran.last (g.M.Medium.sight s.result.ran.medium)
    opening own (runs.replies opening own) runs.syncs (runs.moments opening own) runs.end)

pub returns-clause-ships : goal.returns-clause-ships
returns-clause-ships g c opening own = rw c.from_ran.ensures.done (c.shipped-shipped.ensures.packets opening own)

pub returns-clause-whole : goal.returns-clause-whole
returns-clause-whole g c none =
    rw c.from_ran.ensures.last (c.shipped-shipped.ensures.whole (whole_end c.shipped-shipped.result.ran.end (sym c.from_ran.ensures.fault ∙ none)))
