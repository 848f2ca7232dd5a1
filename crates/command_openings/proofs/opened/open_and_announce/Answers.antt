use Rattle.pmem_trait.proofs.Runs.{made_later, ran_on}
use Rattle.command_openings.proofs.ImageOpened.{announced_opens_all, announced_fault, announced_prefix, announced_opens, partly_opened, open_fault, recovered_same}
use Rattle.command_openings.proofs.Results.{err_of, if_err, if_ok, match_err, match_ok, ok_of}
use Rattle.command_openings.proofs.OneOpening.{opening_with}
use Rattle.command_openings.proofs.opened.open_and_announce.Goals as goal

pub returns-in-Ok-clause-is_open : goal.returns-in-Ok-clause-is_open
returns-in-Ok-clause-is_open g c = if_ok c.announce.result (λ x is.
    let is_announced = ok_of _ is c.announce.ensures.announced in
    announced_opens_all c.in-Ok.opened _ _ _ c.in-Ok.ensures.opened c.in-Ok.ensures.opens.recovered c.in-Ok.ensures.opens.calls c.in-Ok.ensures.opens.holds c.in-Ok.ensures.opens.moments
    (λ opening before own held. match_ok _ _ is (c.announce.ensures.moments opening before own held)) x
    (ok_of _ is c.announce.ensures.same) c.in-Ok.ensures.opens.made (match_ok _ _ is c.announce.ensures.ran) is_announced.told is_announced.holds)

pub returns-in-Ok-clause-recovered : goal.returns-in-Ok-clause-recovered
returns-in-Ok-clause-recovered g c = if_ok c.announce.result (λ x is.
    recovered_same c.in-Ok.opened x (g.M.Medium.sight c.args.medium) (ok_of _ is c.announce.ensures.same) c.in-Ok.ensures.opens.recovered)

pub returns-in-Ok-clause-prefix : goal.returns-in-Ok-clause-prefix
returns-in-Ok-clause-prefix g c = if_err c.announce.result (λ r is.
    let failed = err_of _ is c.announce.ensures.failed in
    announced_prefix c.in-Ok.opened _ _ _ c.in-Ok.ensures.opened c.in-Ok.ensures.opens.recovered c.in-Ok.ensures.opens.calls c.in-Ok.ensures.opens.holds c.in-Ok.ensures.opens.moments
    (λ opening before own held. match_err _ _ is (c.announce.ensures.moments opening before own held))
    (made_later (ran_on c.in-Ok.ensures.opens.calls (match_err _ _ is c.announce.ensures.ran)).1) failed.at_most)

pub returns-in-Ok-clause-fault : goal.returns-in-Ok-clause-fault
returns-in-Ok-clause-fault g c = if_err c.announce.result (λ r is.
    let failed = err_of _ is c.announce.ensures.failed in
    announced_fault c.in-Ok.opened _ _ _ c.in-Ok.ensures.opened c.in-Ok.ensures.opens.recovered c.in-Ok.ensures.opens.calls c.in-Ok.ensures.opens.holds c.in-Ok.ensures.opens.moments
    (λ opening before own held. match_err _ _ is (c.announce.ensures.moments opening before own held))
    r.0 failed.fault c.in-Ok.ensures.opens.found c.in-Ok.ensures.opens.made (err_of _ is c.announce.ensures.cause) (match_err _ _ is c.announce.ensures.ran))

pub returns-in-Ok-clause-only_read : goal.returns-in-Ok-clause-only_read
returns-in-Ok-clause-only_read g c none = if_err c.announce.result (λ r is. absurd (
    announced_opens c.in-Ok.opened _ _ _ c.in-Ok.ensures.opened c.in-Ok.ensures.opens.recovered c.in-Ok.ensures.opens.calls c.in-Ok.ensures.opens.holds c.in-Ok.ensures.opens.moments
    (λ opening before own held. match_err _ _ is (c.announce.ensures.moments opening before own held)) none))

pub returns-in-Err-clause-prefix : goal.returns-in-Err-clause-prefix
returns-in-Err-clause-prefix g c opening on = partly_opened opening _ _ (c.in-Err.ensures.refused.moments opening.number opening.sizes opening.database on)

pub returns-in-Err-clause-fault : goal.returns-in-Err-clause-fault
returns-in-Err-clause-fault g c =
    rw c.fault_of.ensures (open_fault c.in-Err.fault _ _ c.in-Err.ensures.refused.calls c.in-Err.ensures.refused.content c.in-Err.ensures.refused.cause)

pub returns-in-Err-clause-only_read : goal.returns-in-Err-clause-only_read
returns-in-Err-clause-only_read g c none = c.in-Err.ensures.refused.only_read (λ number sizes db on. none (opening_with number sizes db) on)
