use Rattle.std.proofs.Common.{◌≡◌, ◌<◌, ◌+◌, ℕ, length, sym, subst, ap, ◌∙◌, arith}
use Rattle.std.proofs.lemmas.List.{get_or_default}
use Rattle.std.proofs.lemmas.List.Elements.{All-get_or}
use Rattle.dude_base.specs.Writes.{IsWriteList}
use Rattle.run_threads.specs.Bundled.{BeginsWith, TakesNext}
use Rattle.run_threads.specs.Rest.{at, no_posted}
use Rattle.run_threads.proofs.Bundling.{bundled_next, bundled_one}
use Rattle.run_threads.proofs.open_bundle.OpenBundle.from.Goals as goal
use Rattle.tiny_stm.specs.declared.posted.Posted.{Posted}

pub loop-next-init : goal.loop-next-init
loop-next-init c =
    let rest = c.args.rest.now in let from = c.args.from in let taken = c.begin-taken.result in let x = c.index-rest-from in
    let is : x.result ≡ at rest from = x.is ∙ get_or_default rest from x.result no_posted c.requires.some in record {
      is = bundled_one c.args.cells rest from taken c.requires.some (All-get_or (λ (q : Posted). IsWriteList q.redo.writes) rest from no_posted c.requires.some c.requires.lists) c.requires.cells
          (subst (λ (q : Posted). BeginsWith q from taken) is c.begin-taken.ensures);
      end = c.begin-taken.ensures.end;
    }

pub loop-next-preserved : goal.loop-next-preserved
loop-next-preserved c =
    let rest = c.args.rest.now in let cells = c.args.cells in let o = c.loop-next.taken in let p = c.join.new.self in let i = c.loop-next.invariant in let next = c.loop-next.next in
    let inside : o.end < length rest = (let e = i.end in let lt = c.loop-next-test.true in omega arith) in
    let took = subst (λ (q : Posted). TakesNext q.redo cells o p) (get_or_default rest next c.index-rest-next.result no_posted c.loop-next-test.true) (c.join.ensures.taken c.if-not-join.false) in
    let here = subst (λ (n : ℕ). TakesNext (at rest n).redo cells o p) (sym i.end) took in record {
      is = bundled_next cells rest c.args.from o p i.is inside (All-get_or (λ (q : Posted). IsWriteList q.redo.writes) rest o.end no_posted inside c.requires.lists) here;
      end = here.end ∙ ap (λ (n : ℕ). n + 1) i.end;
    }
