use Rattle.std.proofs.Common.{◌≡◌, ◌*◌, ◌-◌, is_ok, true, false, refl, ap, arith, rules}
use Rattle.dude_base.specs.declared.sizes.Sizes.{Sizes}
use Rattle.pmem_trait.specs.Sights.{CallsMade.none}
use Rattle.pmem_trait.proofs.Runs.{made_cut, made_whole}
use Rattle.dude_recover.specs.FormatCalls.{empty_cells}
use Rattle.dude_recover.proofs.Loops.{clear_turn, length-puts}
use Rattle.dude_recover.proofs.Writes.{length-empty_cells}
use Rattle.dude_recover.proofs.image_writing.clear_cells.Goals as goal

-- how many cells there are
count_same : {s t : Sizes} → s ≡ t → s.rings * s.cells ≡ t.rings * t.cells
count_same is = ap (λ (s : Sizes). s.rings * s.cells) is

pub loop-word-init : goal.loop-word-init
loop-word-init g c = record { len = refl; made = none }

pub returns-in_err-put-clause-made : goal.returns-in_err-put-clause-made
returns-in_err-put-clause-made g c =
    let count = count_same c.sizes-sizes.ensures.sizes in
    let err : is_ok c.from_residual.result ≡ false = search rules in
    rw err (made_cut _ _ (clear_turn c.args.place.now c.loop-word.word {ok = false} (omega arith) (omega arith) c.loop-word.invariant.made c.in_err-put.ensures))

pub loop-word-preserved : goal.loop-word-preserved
loop-word-preserved g c =
    let count = count_same c.sizes-sizes.ensures.sizes in
    record {
      len = omega arith;
      made = clear_turn c.args.place.now c.loop-word.word {ok = true} (omega arith) (omega arith) c.loop-word.invariant.made c.in_ok-put.ensures;
    }

pub returns-clause-made : goal.returns-clause-made
returns-clause-made g c =
    let count = count_same c.sizes-sizes.ensures.sizes in
    made_whole _ (c.loop-word.word - 16) (omega (arith, length-puts 16 (empty_cells c.args.place.now), length-empty_cells c.args.place.now)) c.loop-word.invariant.made
