use Rattle.std.proofs.Common.{◌≡◌, ℕ, ◌*◌, sym, ap, ◌∙◌, subst, arith}
use Rattle.dude_base.specs.declared.limits.TheConstants.{PAGE}
use Rattle.stm_transactions.specs.Passes.{PassSight}
use Rattle.stm_transactions.specs.declared.pass_numbers.PassNumbers.{PassNumbers}
use Rattle.stm_transactions.specs.Transactions.{turns_begin}
use Rattle.stm_transactions.specs.Ends.{HasAborted, HasCommitted, HasLostCommit}
use Rattle.tatp_core.proofs.Serving.{max_writes_few}
use Rattle.request_attempts.proofs.Onces.{numbers, stopped_as, lost_as, served_as}
use Rattle.request_attempts.proofs.attempts.Attempts.run_once.Goals as goal

pub run_request-requires-clause-size : goal.run_request-requires-clause-size
run_request-requires-clause-size g c = ap (λ t. t.setup.pages * PAGE) c.in-Ok.ensures.begun.table ∙ ap (λ (n : ℕ). n * PAGE) (sym c.requires.may.home)

pub commit-requires : goal.commit-requires
commit-requires g c =
    let turns = c.run_request.ensures.uses.turns c.in-Ok.tx (turns_begin c.in-Ok.tx) in
    let same = numbers c.args.self.now.stm.now.events c.args.p.now c.args.p.now c.in-Ok.tx c.run_request.new.w c.in-Ok.ensures.begun turns in
    let left = ap (λ (f : PassNumbers). f.left) same in
    let draws = c.requires.may.draws in
    record { draws = λ _. omega arith }

pub returns-in-Err-run_request : goal.returns-in-Err-run_request
returns-in-Err-run_request g c =
    let turns = c.run_request.ensures.uses.turns c.in-Ok.tx (turns_begin c.in-Ok.tx) in
    let tie : c.p-in-Err-run_request-1.given.0 ≡ c.drop-tx.new.self.0 = c.p-in-Err-run_request-1.given.1 (sym (turns.same_pass ∙ c.in-Ok.ensures.same)) in
    stopped_as c.args.self.now.stm.now.events c.args.p.now c.p-in-Err-run_request-1.given.0 c.in-Ok.tx c.run_request.new.w c.in-Ok.ensures.begun turns c.in-Err-run_request.stop c.in-Err-run_request.ensures.uses.last.0
    (λ wide. let full = c.in-Err-run_request.ensures.uses.last.1 wide in let few = c.run_request.ensures.few in let most = max_writes_few c.args.self.now.lay.now in absurd (omega arith))
    (subst (λ (x : PassSight _). HasAborted c.run_request.new.w x) (sym tie) c.drop-tx.ensures)

pub returns-in-Ok-commit : goal.returns-in-Ok-commit
returns-in-Ok-commit g c =
    let turns = c.run_request.ensures.uses.turns c.in-Ok.tx (turns_begin c.in-Ok.tx) in
    let tie : c.p-in-Ok-run_request-1.given.0 ≡ c.commit.new.self.0 = c.p-in-Ok-run_request-1.given.1 (sym (turns.same_pass ∙ c.in-Ok.ensures.same)) in
    served_as c.args.self.now.stm.now.events c.args.p.now c.p-in-Ok-run_request-1.given.0 c.in-Ok.tx c.run_request.new.w c.in-Ok.ensures.begun turns c.args.self.now.lay.now c.args.file c.args.index c.args.q.now c.in-Ok-run_request.reply c.in-Ok-commit.done
    c.requires.no_sync c.in-Ok-run_request.ensures.answers
    (subst (λ (x : PassSight _). HasCommitted c.args.file c.args.index c.args.q.now c.in-Ok-run_request.reply c.run_request.new.w x c.in-Ok-commit.done) (sym tie) c.in-Ok-commit.ensures.ok)

pub returns-in-Err-commit : goal.returns-in-Err-commit
returns-in-Err-commit g c =
    let turns = c.run_request.ensures.uses.turns c.in-Ok.tx (turns_begin c.in-Ok.tx) in
    let tie : c.p-in-Ok-run_request-1.given.0 ≡ c.commit.new.self.0 = c.p-in-Ok-run_request-1.given.1 (sym (turns.same_pass ∙ c.in-Ok.ensures.same)) in
    lost_as c.args.self.now.stm.now.events c.args.p.now c.p-in-Ok-run_request-1.given.0 c.in-Ok.tx c.run_request.new.w c.in-Ok.ensures.begun turns c.in-Err-commit.lost
    (subst (λ (x : PassSight _). HasLostCommit c.run_request.new.w x c.in-Err-commit.lost) (sym tie) c.in-Err-commit.ensures.err)
