use Rattle.std.proofs.Common.{◌≡◌, sym, ap, ◌∙◌, subst, arith}
use Rattle.core_table.specs.Layout.{TableSight}
use Rattle.stm_transactions.specs.Passes.{PassSight}
use Rattle.stm_transactions.specs.declared.pass_numbers.PassNumbers.{PassNumbers}
use Rattle.stm_transactions.specs.Transactions.{turns_begin}
use Rattle.stm_transactions.specs.Ends.{HasAborted, HasCommitted, HasLostCommit}
use Rattle.stm_runs.specs.Kept.{StaysWith}
use Rattle.stm_runs.proofs.Transactions.{aborted, committed, lost, numbers}
use Rattle.stm_runs.proofs.transacting.transact.Goals as goal

pub commit-requires : goal.commit-requires
commit-requires c =
    let turns = c.access_all.ensures c.in-Ok.tx (turns_begin c.in-Ok.tx) in
    let left = ap (λ (f : PassNumbers). f.left) (numbers c.steps.result.now.events c.args.p.now c.args.p.now c.in-Ok.tx c.access_all.new.w c.in-Ok.ensures.begun turns) in
    let was = c.left.ensures in
    let some = c.if-left-eq0.false in
    record { draws = λ _. omega arith }

pub returns-in-Err-access_all : goal.returns-in-Err-access_all
returns-in-Err-access_all c =
    let turns = c.access_all.ensures c.in-Ok.tx (turns_begin c.in-Ok.tx) in
    let tie : c.p-in-Err-access_all-1.given.0 ≡ c.drop-tx.new.self.0 = c.p-in-Err-access_all-1.given.1 (sym (turns.same_pass ∙ c.in-Ok.ensures.same)) in
    subst (λ (t : TableSight _). StaysWith t c.args.p.now c.p-in-Err-access_all-1.given.0) c.steps.ensures
    (aborted c.steps.result.now.events c.args.p.now c.p-in-Err-access_all-1.given.0 c.in-Ok.tx c.access_all.new.w c.in-Ok.ensures.begun turns
    (subst (λ (x : PassSight _). HasAborted c.access_all.new.w x) (sym tie) c.drop-tx.ensures))

pub returns-in-Ok-commit : goal.returns-in-Ok-commit
returns-in-Ok-commit c =
    let turns = c.access_all.ensures c.in-Ok.tx (turns_begin c.in-Ok.tx) in
    let tie : c.p-in-Ok-access_all-1.given.0 ≡ c.commit.new.self.0 = c.p-in-Ok-access_all-1.given.1 (sym (turns.same_pass ∙ c.in-Ok.ensures.same)) in
    subst (λ (t : TableSight _). StaysWith t c.args.p.now c.p-in-Ok-access_all-1.given.0) c.steps.ensures
    (committed c.steps.result.now.events c.args.p.now c.p-in-Ok-access_all-1.given.0 c.in-Ok.tx c.access_all.new.w c.in-Ok.ensures.begun turns 0 0 _ _ c.in-Ok-commit.done
    (subst (λ (x : PassSight _). HasCommitted 0 0 _ _ c.access_all.new.w x c.in-Ok-commit.done) (sym tie) c.in-Ok-commit.ensures.ok))

pub returns-in-Err-commit : goal.returns-in-Err-commit
returns-in-Err-commit c =
    let turns = c.access_all.ensures c.in-Ok.tx (turns_begin c.in-Ok.tx) in
    let tie : c.p-in-Ok-access_all-1.given.0 ≡ c.commit.new.self.0 = c.p-in-Ok-access_all-1.given.1 (sym (turns.same_pass ∙ c.in-Ok.ensures.same)) in
    subst (λ (t : TableSight _). StaysWith t c.args.p.now c.p-in-Ok-access_all-1.given.0) c.steps.ensures
    (lost c.steps.result.now.events c.args.p.now c.p-in-Ok-access_all-1.given.0 c.in-Ok.tx c.access_all.new.w c.in-Ok.ensures.begun turns c.in-Err-commit.lost
    (subst (λ (x : PassSight _). HasLostCommit c.access_all.new.w x c.in-Err-commit.lost) (sym tie) c.in-Err-commit.ensures.err))
