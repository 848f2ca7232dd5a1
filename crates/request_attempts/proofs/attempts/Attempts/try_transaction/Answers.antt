use Rattle.std.proofs.Common.{◌∙◌, sym, subst}
use Rattle.word_space.specs.declared.stop.Stop.{Stop}
use Rattle.request_attempts.specs.Tries.{AfterStop}
use Rattle.request_attempts.proofs.TriesMade.{full_try, stop_try, lost_out, lost_try, done_try}
use Rattle.request_attempts.proofs.attempts.Attempts.try_transaction.Goals as goal

pub returns-in-Done : goal.returns-in-Done
returns-in-Done g c = done_try c.args.self.now.stm.now.events c.args.self.now.lay.now c.args.file c.args.index c.args.q.now c.in-Done.done c.args.p.now c.run_once.new.p c.requires.no_sync c.requires.may.draws c.in-Done.ensures

pub returns-in-Full : goal.returns-in-Full
returns-in-Full g c = full_try c.args.self.now.stm.now.events c.in-Full.field-0 c.args.p.now c.run_once.new.p c.requires.may.rests.numbers.few c.in-Full.ensures c.args.self.now.lay.now c.args.file c.args.index c.args.q.now c.after_full.result c.after_full.new.p c.after_full.ensures

pub returns-in-Stopped : goal.returns-in-Stopped
returns-in-Stopped g c = stop_try c.args.self.now.stm.now.events c.in-Stopped.stop c.args.p.now c.run_once.new.p c.requires.may.rests.numbers.few c.in-Stopped.ensures c.args.self.now.lay.now c.args.file c.args.index c.args.q.now c.after_stop.result c.after_stop.new.p c.after_stop.ensures

pub after_stop-requires-in-Lost-clause-inside : goal.after_stop-requires-in-Lost-clause-inside
after_stop-requires-in-Lost-clause-inside g c = λ page out. c.in-Lost.ensures.inside page (lost_out c.in-Lost.lost page (sym c.stop_of.ensures ∙ out))

pub returns-in-Lost : goal.returns-in-Lost
returns-in-Lost g c =
    let t = c.args.self.now.stm.now.events in let x = c.after_stop-in-Lost in
    lost_try t c.args.p.now c.run_once.new.p c.requires.may.rests.numbers.few c.requires.may.draws c.in-Lost.lost c.args.self.now.lay.now c.args.file c.args.index c.args.q.now x.result x.new.p c.in-Lost.ensures
    (subst (λ (e : Stop). AfterStop t e x.result c.run_once.new.p x.new.p) c.stop_of.ensures x.ensures)
