use Rattle.std.proofs.Common.{◌∙◌}
use Rattle.run_threads.proofs.Homes.{takes_more}
use Rattle.run_threads.proofs.home.read_pages.Goals as goal

pub returns-in_err-read_into-clause-known : goal.returns-in_err-read_into-clause-known
returns-in_err-read_into-clause-known g c = λ b rs known. c.read_into.ensures.known b rs (c.loop-page.invariant.stays b rs known)

pub loop-page-preserved : goal.loop-page-preserved
loop-page-preserved g c =
    let i = c.loop-page.invariant in let e = c.in_ok-read_into.ensures in record {
      stays = λ b rs known. e.known b rs (i.stays b rs known);
      same = e.ok ∙ i.same;
      takes = takes_more c.args.back.now c.loop-page.back c.loop-page.page c.loop-page.words c.read_into.new.words i.stays i.same c.requires.alive e.takes i.takes;
    }
