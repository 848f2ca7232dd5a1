use Rattle.std.proofs.Common.{◌≡◌, List, length, get_or, subst, ◌∙◌, arith}
use Rattle.std.proofs.lemmas.List.{get_or_default}
use Rattle.group_combine.specs.declared.numbered.Numbered.{Numbered}
use Rattle.group_combine.specs.Numbered.{IsKept}
use Rattle.group_combine.proofs.KeptRows.{kept_more, kept_same}
use Rattle.group_combine.proofs.numbered.keep_last.Goals.{then-ends_word, else-ends_word}
use Rattle.group_combine.proofs.numbered.keep_last.Goals as goal

pub loop-k-preserved : goal.loop-k-preserved
loop-k-preserved c =
    let row : List Numbered = c.args.row.now in
    let e : Numbered = get_or row c.loop-k.k record { at = 0; order = 0; value = 0 } in
    let is : (d : Numbered) → get_or row c.loop-k.k d ≡ e = λ d. get_or_default row c.loop-k.k d record { at = 0; order = 0; value = 0 } c.loop-k-test.true in
    elim c.if-ends_word.branch [
      | then-ends_word w ↦ record {
        kept = rw (w.writes-is, w.push_reserved.ensures.items) (kept_more row c.loop-k.k e c.requires.in_order c.loop-k-test.true is c.loop-k.writes.items c.loop-k.invariant.kept w.if-ends_word.ensures);
        capacity = rw w.writes-is (w.push_reserved.ensures.capacity ∙ c.loop-k.invariant.capacity);
      }
      | else-ends_word w ↦ record {
        kept = rw w.writes-is (kept_same row c.loop-k.k e c.requires.in_order c.loop-k-test.true is c.loop-k.writes.items c.loop-k.invariant.kept w.if-ends_word.ensures);
        capacity = rw w.writes-is c.loop-k.invariant.capacity;
      }
    ]

pub returns-clause-kept : goal.returns-clause-kept
returns-clause-kept c =
    let end : c.loop-k.k ≡ length c.args.row.now = omega arith in
    subst (λ k. IsKept c.args.row.now c.loop-k.writes.items k) end c.loop-k.invariant.kept

pub returns-clause-capacity : goal.returns-clause-capacity
returns-clause-capacity c = c.loop-k.invariant.capacity ∙ c.clear.ensures.capacity
