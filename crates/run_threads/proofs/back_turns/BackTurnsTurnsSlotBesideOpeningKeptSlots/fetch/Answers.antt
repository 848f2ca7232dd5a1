use Rattle.stm_transactions.specs.Passes.{pass_view}
use Rattle.run_threads.proofs.TurnRests.{brought_in, fetch_turn}
use Rattle.run_threads.proofs.back_turns.BackTurnsTurnsSlotBesideOpeningKeptSlots.fetch.Goals as goal

pub returns-clause-ok : goal.returns-clause-ok
returns-clause-ok g c =
    let t = c.args.stm.now.events in let p = c.args.p.now in let x = c.fetch_on in let q = x.new.p in
    fetch_turn t c.args.page (pass_view q).turn.durable p q c.requires.rests x.ensures.rests x.ensures.stays x.result c.fetched.result (brought_in g.M.Medium.sight t c.args.page p q x.result x.ensures.ok) x.ensures.numbers c.fetched.ensures
