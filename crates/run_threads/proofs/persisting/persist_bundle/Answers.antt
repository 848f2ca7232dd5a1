use Rattle.std.proofs.Common.{Bool, subst}
use Rattle.run_threads.specs.Handing.{HandsIf}
use Rattle.run_threads.proofs.ResultLaws.{on_err}
use Rattle.run_threads.proofs.Retrying.{died_catching, dies_again, full_known, hands_again, has_room, may_again}
use Rattle.run_threads.proofs.persisting.persist_bundle.Goals as goal

pub catch_up-requires : goal.catch_up-requires
catch_up-requires g c =
    let o = c.args.taken.now in let old = c.args.back.now in let mid = c.persist.new.back in
    let full = subst (λ (b : Bool). HandsIf b o old mid) c.if-branch.false c.in_ok-persist.ensures.hands in
    record { known = full_known o old mid full c.requires.may }

pub returns-in_err-catch_up-clause-err : goal.returns-in_err-catch_up-clause-err
returns-in_err-catch_up-clause-err g c =
    let o = c.args.taken.now in let old = c.args.back.now in let mid = c.persist.new.back in let new = c.catch_up.new.back in
    let full = subst (λ (b : Bool). HandsIf b o old mid) c.if-branch.false c.in_ok-persist.ensures.hands in let k = c.catch_up.ensures in
    on_err c.from_residual-in_err-catch_up.result (died_catching o old mid full c.requires.may c.persist.ensures.sizes new k.known k.goes c.in_err-catch_up.ensures.err)

pub persist-requires-2 : goal.persist-requires-2
persist-requires-2 g c =
    let o = c.args.taken.now in let old = c.args.back.now in let mid = c.persist.new.back in let new = c.catch_up.new.back in
    let full = subst (λ (b : Bool). HandsIf b o old mid) c.if-branch.false c.in_ok-persist.ensures.hands in let k = c.catch_up.ensures in
    record { may = may_again o old mid full c.requires.may c.persist.ensures.sizes new k.known k.goes c.in_ok-catch_up.ensures.ok }

pub returns-in_err-persist-2-clause-err : goal.returns-in_err-persist-2-clause-err
returns-in_err-persist-2-clause-err g c =
    let o = c.args.taken.now in let old = c.args.back.now in let mid = c.persist.new.back in let new = c.catch_up.new.back in
    let full = subst (λ (b : Bool). HandsIf b o old mid) c.if-branch.false c.in_ok-persist.ensures.hands in let k = c.catch_up.ensures in
    on_err c.from_residual-in_err-persist-2.result
    (dies_again o old mid full c.requires.may c.persist.ensures.sizes new k.known k.goes c.in_ok-catch_up.ensures.ok c.persist-2.new.back c.in_err-persist-2.ensures.err)

pub unreachable-requires : goal.unreachable-requires
unreachable-requires g c =
    let o = c.args.taken.now in let old = c.args.back.now in let mid = c.persist.new.back in let new = c.catch_up.new.back in
    let full = subst (λ (b : Bool). HandsIf b o old mid) c.if-branch.false c.in_ok-persist.ensures.hands in let k = c.catch_up.ensures in
    let again = subst (λ (b : Bool). HandsIf b o new c.persist-2.new.back) c.if-branch-2.false c.in_ok-persist-2.ensures.hands in
    has_room o old mid full c.requires.may c.persist.ensures.sizes new k.known k.goes c.in_ok-catch_up.ensures.ok c.persist-2.new.back again

pub returns-clause-ok : goal.returns-clause-ok
returns-clause-ok g c =
    let o = c.args.taken.now in let old = c.args.back.now in let mid = c.persist.new.back in let new = c.catch_up.new.back in
    let full = subst (λ (b : Bool). HandsIf b o old mid) c.if-branch.false c.in_ok-persist.ensures.hands in let k = c.catch_up.ensures in
    let hands = subst (λ (b : Bool). HandsIf b o new c.persist-2.new.back) c.if-branch-2.true c.in_ok-persist-2.ensures.hands in
    hands_again o old mid full c.requires.may c.persist.ensures.sizes new k.known k.goes c.in_ok-catch_up.ensures.ok c.persist-2.new.back hands
