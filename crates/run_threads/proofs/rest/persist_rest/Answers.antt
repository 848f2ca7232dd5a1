use Rattle.std.proofs.Common.{◌≡◌, List, false, true, length, sym, subst, ◌∙◌}
use Rattle.back_store.specs.BackView.{medium_of, state_of}
use Rattle.run_threads.specs.Ending.{IsUnderWay, since}
use Rattle.run_threads.proofs.CatchingUp.{died_on}
use Rattle.run_threads.proofs.Keeping.{cut_by, cut_off, ending, ends, starts}
use Rattle.std.proofs.lemmas.Result.{on_ok_weaker, on_err_weaker}
use Rattle.run_threads.proofs.ResultLaws.{ok_with, on_err}
use Rattle.run_threads.proofs.Retrying.{known_somehow}
use Rattle.run_threads.proofs.Tellings.{told_behind}
use Rattle.run_threads.proofs.rest.persist_rest.Goals as goal
use Rattle.tiny_stm.specs.declared.posted.Posted.{Posted}

pub persist_all-requires : goal.persist_all-requires
persist_all-requires g c =
    let sight = g.M.Medium.sight in let old = c.args.closed.now in let h = c.requires.closed in let slice = c.as_slice.result.now in
    let alive : (state_of old.back).dead ≡ false = sym c.is_dead.ensures ∙ c.if-is_dead.false in
    let e = ending sight h.opening h.view old.number (state_of old.back).log.sizes in
    record {
      may = record {
        ending = e;
        under = subst (λ (xs : List Posted). IsUnderWay e xs 0 (state_of old.back) (sight (medium_of old.back))) (sym c.as_slice.ensures.value) (starts sight h.opening h.view old h.closed alive);
      };
    }

pub returns-in_err-persist_all-clause-err : goal.returns-in_err-persist_all-clause-err
returns-in_err-persist_all-clause-err g c =
    let sight = g.M.Medium.sight in let old = c.args.closed.now in let mid = c.persist_all.new.back in
    let alive : (state_of old.back).dead ≡ false = sym c.is_dead.ensures ∙ c.if-is_dead.false in
    on_err c.from_residual.result (λ o v h.
    let e = ending sight o v old.number (state_of old.back).log.sizes in
    cut_off sight o v old h alive mid (c.in_err-persist_all.ensures.err e
    (subst (λ (xs : List Posted). IsUnderWay e xs 0 (state_of old.back) (sight (medium_of old.back))) (sym c.as_slice.ensures.value) (starts sight o v old h alive))))

pub catch_up-requires : goal.catch_up-requires
catch_up-requires g c =
    let sight = g.M.Medium.sight in let old = c.args.closed.now in let mid = c.persist_all.new.back in let h = c.requires.closed in let slice = c.as_slice.result.now in
    let alive : (state_of old.back).dead ≡ false = sym c.is_dead.ensures ∙ c.if-is_dead.false in
    let e = ending sight h.opening h.view old.number (state_of old.back).log.sizes in
    record {
      known = known_somehow slice (length slice) mid (record {
        ending = e;
        under = c.in_ok-persist_all.ensures.ok e (subst (λ (xs : List Posted). IsUnderWay e xs 0 (state_of old.back) (sight (medium_of old.back))) (sym c.as_slice.ensures.value) (starts sight h.opening h.view old h.closed alive));
      });
    }

pub returns-clause-ok : goal.returns-clause-ok
returns-clause-ok g c =
    let sight = g.M.Medium.sight in let old = c.args.closed.now in let mid = c.persist_all.new.back in let new = c.catch_up.new.back in
    let alive : (state_of old.back).dead ≡ false = sym c.is_dead.ensures ∙ c.if-is_dead.false in
    on_ok_weaker c.catch_up.result (λ up o v h.
    let e = ending sight o v old.number (state_of old.back).log.sizes in
    let first = subst (λ (xs : List Posted). IsUnderWay e xs 0 (state_of old.back) (sight (medium_of old.back))) (sym c.as_slice.ensures.value) (starts sight o v old h alive) in
    let under = subst (λ (xs : List Posted). IsUnderWay e xs (length xs) (state_of mid) (sight (medium_of mid))) c.as_slice.ensures.value (c.in_ok-persist_all.ensures.ok e first) in
    ends sight o v old h alive mid new under c.catch_up.ensures.goes up c.catch_up.ensures.known) c.catch_up.ensures.ok

pub returns-clause-err : goal.returns-clause-err
returns-clause-err g c =
    let sight = g.M.Medium.sight in let old = c.args.closed.now in let mid = c.persist_all.new.back in let new = c.catch_up.new.back in let slice = c.as_slice.result.now in
    let alive : (state_of old.back).dead ≡ false = sym c.is_dead.ensures ∙ c.if-is_dead.false in
    on_err_weaker c.catch_up.result (λ dead o v h.
    let e = ending sight o v old.number (state_of old.back).log.sizes in
    let first = subst (λ (xs : List Posted). IsUnderWay e xs 0 (state_of old.back) (sight (medium_of old.back))) (sym c.as_slice.ensures.value) (starts sight o v old h alive) in
    let under = c.in_ok-persist_all.ensures.ok e first in
    cut_off sight o v old h alive new
    (died_on e slice (length slice) (state_of mid) (state_of new) (sight (medium_of mid)) (sight (medium_of new)) under c.catch_up.ensures.goes dead (c.catch_up.ensures.known (since e) under.records under.known.known))) c.catch_up.ensures.err

pub returns-then-is_dead-clause-err : goal.returns-then-is_dead-clause-err
returns-then-is_dead-clause-err g c =
    let old = c.args.closed.now in let dead : (state_of old.back).dead ≡ true = sym c.is_dead.ensures ∙ c.if-is_dead.true in
    λ o v h. cut_by g.M.Medium.sight o v old.number old.back h.back dead

pub returns-clause-told : goal.returns-clause-told
returns-clause-told g c =
    let sight = g.M.Medium.sight in let old = c.args.closed.now in let mid = c.persist_all.new.back in let new = c.catch_up.new.back in
    let alive : (state_of old.back).dead ≡ false = sym c.is_dead.ensures ∙ c.if-is_dead.false in
    ok_with c.catch_up.result (λ up told o v h seen.
    let e = ending sight o v old.number (state_of old.back).log.sizes in
    let first = subst (λ (xs : List Posted). IsUnderWay e xs 0 (state_of old.back) (sight (medium_of old.back))) (sym c.as_slice.ensures.value) (starts sight o v old h alive) in
    let under = subst (λ (xs : List Posted). IsUnderWay e xs (length xs) (state_of mid) (sight (medium_of mid))) c.as_slice.ensures.value (c.in_ok-persist_all.ensures.ok e first) in
    let ended = ends sight o v old h alive mid new under c.catch_up.ensures.goes up c.catch_up.ensures.known in
    told_behind (sight (medium_of new)) (state_of new).log.durable old.number under.known.known.is.ran seen (told (under.known.known.is.moments.later.is_visible ∙ seen)) ended.durable) c.catch_up.ensures.ok c.catch_up.ensures.told
