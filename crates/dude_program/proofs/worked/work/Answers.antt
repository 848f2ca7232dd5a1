use Rattle.dude_program.proofs.Works.{ran_over_plain}
use Rattle.dude_program.proofs.worked.work.Goals as goal

pub returns : goal.returns
returns g c opening own =
    let ran = c.plain in
    let worked = c.from_ran.ensures in
    rw (worked.done, worked.medium, worked.last, worked.fault) (ran_over_plain c.args.opened c.requires.opened c.args.files.now ran.result.done.items ran.result.end ran.result.last (g.M.Medium.sight ran.result.medium)
    opening own (ran.ensures.replies opening own) ran.ensures.syncs (ran.ensures.moments opening own) ran.ensures.end)
