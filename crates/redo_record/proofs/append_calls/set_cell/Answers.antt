use Rattle.std.proofs.Common.{◌≡◌, ◌∙◌, ◌+◌, ◌*◌, ◌++◌, take, subst, arith}
use Rattle.std.specs.List.{enumerate_from}
use Rattle.std.proofs.lemmas.List.{length-set}
use Rattle.redo_record.proofs.RecordPairs.{pair_more, pair_all}
use Rattle.redo_record.proofs.append_calls.set_cell.Goals as goal

pub loop-j-preserved : goal.loop-j-preserved
loop-j-preserved c =
    let cell = c.requires.cell in
    record {
      size = length-set c.loop-j.pairs _ _ ∙ c.loop-j.invariant.size;
      before = pair_more c.args.pairs.now c.loop-j.pairs c.args.words.now (8 * c.args.cell) c.args.start c.loop-j.j (omega arith) (omega arith) c.loop-j.invariant.before;
    }

pub returns-clause-pairs : goal.returns-clause-pairs
returns-clause-pairs c =
    let last : c.loop-j.j ≡ 8 = omega arith in
    subst (λ n. take n c.loop-j.pairs ≡ take (8 * c.args.cell) c.args.pairs.now ++ enumerate_from c.args.start c.args.words.now) (let e : 8 * c.args.cell + c.loop-j.j ≡ 8 * (c.args.cell + 1) = omega arith in e)
    (pair_all c.args.pairs.now c.loop-j.pairs c.args.words.now (8 * c.args.cell) c.args.start c.loop-j.j (omega arith) c.loop-j.invariant.before)
