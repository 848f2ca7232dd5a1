use Rattle.std.proofs.Common.{◌≡◌, ℕ, List, length, subst, sym, ap, ◌∙◌, arith}
use Rattle.std.proofs.lemmas.List.{with_items_is}
use Rattle.run_threads.specs.Home.{AreHomeWords}
use Rattle.run_threads.proofs.Homes.{cut_reading, ended_still, home_read}
use Rattle.std.proofs.lemmas.Result.{on_err_weaker}
use Rattle.run_threads.proofs.ResultLaws.{ok_with}
use Rattle.run_threads.proofs.home.read_home.Goals as goal

pub returns-clause-ok : goal.returns-clause-ok
returns-clause-ok g c =
    let sight = g.M.Medium.sight in let old = c.args.closed.now in let new = c.read_pages.new.back in let r = c.read_pages in let size = c.requires.may.size in
    let long : length r.new.words ≡ length old.words.items = (let a = r.auto.words in let b = ap (λ (xs : List ℕ). length xs) c.as_mut_slice.ensures.value in omega arith) in
    let items = with_items_is old.words r.new.words (long ∙ sym old.words.ok.0) in
    ok_with r.result (λ same takes o v h. record {
      ended = ended_still sight o v old.number old.back new h.ended r.ensures.known r.ensures.log same;
      words = subst (AreHomeWords sight o v.entries old.number) (sym items) (home_read sight o v c.args.frames old h size (λ all. let long = c.len.ensures in absurd (c.if-frames-len.false (omega arith))) r.new.words long takes);
    }) r.ensures.ok r.ensures.takes

pub returns-clause-err : goal.returns-clause-err
returns-clause-err g c =
    let sight = g.M.Medium.sight in let old = c.args.closed.now in let new = c.read_pages.new.back in let r = c.read_pages in
    on_err_weaker r.result (λ dead o v h. cut_reading sight o v old.number old.back new h.ended r.ensures.known r.ensures.log dead) r.ensures.err
