use Rattle.std.proofs.Common.{◌*◌, ◌∙◌, ℕ, List, None, take, arith, subst, lit≤}
use Rattle.std.proofs.lemmas.Result.{IfOk-from_err}
use Rattle.dude_base.specs.declared.limits.TheConstants.{PAGE}
use Rattle.word_space.specs.Sights.{IsBelow, shown}
use Rattle.word_space.proofs.Runs.{used_handed, used_more}
use Rattle.hash_table.specs.Table.{FitsTable}
use Rattle.tatp_layout.specs.RecordWords.{AreOfRecord}
use Rattle.tatp_layout.proofs.record_row.get_row.Goals as goal

pub read_record-requires-clause-inside : goal.read_record-requires-clause-inside
read_record-requires-clause-inside g c =
    let n = c.args.lay.now.pages * PAGE in
    let fits : FitsTable (g.R.RecordRow.place c.args.lay.now) n = subst (λ t. FitsTable t n) c.table-table.ensures.table c.table-table.ensures.fits in
    omega (arith, fits.pool.inside c.args.at c.requires.«record», g.met.R.RecordRow.sized c.args.lay.now, c.size-size.ensures, c.requires.size)

pub returns-in_err-words : goal.returns-in_err-words
returns-in_err-words g c = let r = c.from_residual in record { uses = used_handed r.result r.ensures.1 c.in_err-words.ensures.uses (omega (arith, c.size-size.ensures)) (lit≤ tt); exact = IfOk-from_err _ _ r.ensures.0; row = IfOk-from_err _ _ r.ensures.0 }

pub returns : goal.returns
returns g c =
    let row = g.met.R.RecordRow in
    let words = take c.size-size.result c.in_ok-words.words in
    let are : (array : List ℕ) → IsBelow (g.W.Words.sight c.read_record.new.w) array → AreOfRecord g.R.RecordRow.size (shown (g.W.Words.sight c.args.w.now) array) c.args.at words =
    λ array below. subst (λ n. AreOfRecord n (shown (g.W.Words.sight c.args.w.now) array) c.args.at words) c.size-size.ensures (c.in_ok-words.ensures.words array below) in
    record {
      uses = used_more {stop = None} c.in_ok-words.ensures.uses (omega (arith, c.size-size.ensures)) (lit≤ tt);
      exact = λ array below. c.of.ensures ∙ row.apart _ words c.args.at (are array below);
      row = λ array below r range held. c.of.ensures ∙ row.apart _ words c.args.at (are array below) ∙ row.back _ c.args.at r range held;
    }
