use Rattle.redo_record.specs.BackCalls.{read_page_calls}
use Rattle.back_store.specs.BackView.{medium_of, state_of}
use Rattle.back_store.proofs.Operations.{one_reads}
use Rattle.back_store.proofs.NoTells.{page_tells_nothing}
use Rattle.stm_slots.proofs.Goes.{read_known}
use Rattle.stm_slots.proofs.known_back.read_page.Goals as goal

pub returns-clause-known : goal.returns-clause-known
returns-clause-known g c =
    let e = c.read_page.ensures in
    let old = c.args.back.now in
    let new = c.read_page.new.self in
    λ b rs known. read_known b (state_of old) rs (g.M.Medium.sight (medium_of old)) (g.M.Medium.sight (medium_of new)) known (state_of new) c.read_page.result
    (read_page_calls (state_of old).log.sizes c.args.page) (one_reads (state_of old) c.args.page c.requires) (page_tells_nothing (state_of old).log.sizes c.args.page) e.reads.made e.cause.dead e.crash.moments e.crash.keeps e.home_stays e.state
