use Rattle.std.proofs.Common.{◌≡◌, ◌<◌, ◌*◌, ◌/◌, is_ok, true, false, arith, rules, refl, ap, ◌∙◌}
use Rattle.std.proofs.lemmas.List.FromFn.{length-range_with_len}
use Rattle.dude_base.specs.declared.sizes.Sizes.{Sizes}
use Rattle.dude_base.specs.Image.{home_word}
use Rattle.pmem_trait.specs.Sights.{CallsMade.none}
use Rattle.pmem_trait.proofs.Runs.{made_cut, made_whole}
use Rattle.pmem_trait.proofs.GroupLists.{length-flush_lines, flushes_next}
use Rattle.dude_recover.specs.OpeningCalls.{home_lines}
use Rattle.dude_recover.proofs.OpeningRuns.{home_line_at}
use Rattle.dude_recover.proofs.home.flush_home.Goals as goal

pub loop-i-init : goal.loop-i-init
loop-i-init g c = record { len = refl; made = none }

pub returns-in_err-flush-clause-made : goal.returns-in_err-flush-clause-made
returns-in_err-flush-clause-made g c =
    let err : is_ok c.from_residual.result ≡ false = search rules in
    let pages : c.sizes.result.pages ≡ c.args.place.now.pages = ap (λ (s : Sizes). s.pages) c.sizes.ensures.sizes in
    let below : c.loop-i.i < c.args.place.now.pages * 8 = omega (arith, c.loop-i-test.true) in
    rw err (made_cut _ _ (flushes_next (home_lines c.args.place.now) c.loop-i.i 0 _ {ok = false} (omega (arith, length-range_with_len (home_word c.args.place.now 0 / 8) (c.args.place.now.pages * 8)))
    (home_line_at c.args.place.now c.loop-i.i c.home.result below c.home.ensures.place) c.loop-i.invariant.made c.in_err-flush.ensures))

pub loop-i-preserved : goal.loop-i-preserved
loop-i-preserved g c =
    let pages : c.sizes.result.pages ≡ c.args.place.now.pages = ap (λ (s : Sizes). s.pages) c.sizes.ensures.sizes in
    let below : c.loop-i.i < c.args.place.now.pages * 8 = omega (arith, c.loop-i-test.true) in
    record {
      len = omega arith;
      made = flushes_next (home_lines c.args.place.now) c.loop-i.i 0 _ {ok = true} (omega (arith, length-range_with_len (home_word c.args.place.now 0 / 8) (c.args.place.now.pages * 8)))
          (home_line_at c.args.place.now c.loop-i.i c.home.result below c.home.ensures.place) c.loop-i.invariant.made c.in_ok-flush.ensures;
    }

pub returns-clause-made : goal.returns-clause-made
returns-clause-made g c =
    let pages : c.sizes.result.pages ≡ c.args.place.now.pages = ap (λ (s : Sizes). s.pages) c.sizes.ensures.sizes in
    made_whole _ c.loop-i.i (omega (arith, length-flush_lines (home_lines c.args.place.now), length-range_with_len (home_word c.args.place.now 0 / 8) (c.args.place.now.pages * 8), c.loop-i-test.false)) c.loop-i.invariant.made

pub returns-in_err-flush-clause-len : goal.returns-in_err-flush-clause-len
returns-in_err-flush-clause-len g c = c.in_err-flush.ensures.later.len ∙ c.loop-i.invariant.len

pub returns-clause-len : goal.returns-clause-len
returns-clause-len g c = c.loop-i.invariant.len
