use Rattle.std.proofs.Common.{◌≡◌, ◌/◌, ◌<◌, ℕ, List, length, inl, inr, sym, ap, ◌∙◌, arith, rules}
use Rattle.std.proofs.lemmas.List.{get_or-map, length-map}
use Rattle.dude_base.specs.declared.write.Write.{Write}
use Rattle.dude_base.specs.Image.{home_word}
use Rattle.redo_record.specs.BackCalls.{home_writes}
use Rattle.redo_record.proofs.TouchedLines.{line_at, touched_new, touched_same}
use Rattle.redo_record.proofs.reproduce_calls.touched.Goals.{then-k-eq0, then-k-eq0-via-then-k-eq0, then-k-eq0-via-else-k-eq0+then-line-before, then-count-wanted, else-count-wanted, else-k-eq0+else-line-before}
use Rattle.redo_record.proofs.reproduce_calls.touched.Goals as goal

-- the line of a write
line_is : (c : goal.Joined-k-eq0) (d : ℕ × ℕ) → c.home-line.result / 8 ≡ line_at (home_writes c.args.place.now c.args.writes.now) c.loop-k.k d
line_is c d =
    ap (λ x. x / 8) c.home-line.ensures.place
    ∙ ap (λ (p : ℕ × ℕ). p.0 / 8) (sym (get_or-map (λ (w : Write). (home_word c.args.place.now w.at, w.value)) c.args.writes.now c.loop-k.k (record { at = 0; value = 0 }) d c.loop-k-test.true))

pub loop-k-preserved : goal.loop-k-preserved
loop-k-preserved c =
    let puts : List (ℕ × ℕ) = home_writes c.args.place.now c.args.writes.now in
    let long : length puts ≡ length c.args.writes.now = length-map c.args.writes.now (λ (w : Write). (home_word c.args.place.now w.at, w.value)) in
    let inside : c.loop-k.k < length puts = (let lt = c.loop-k-test.true in omega arith) in
    let so_far = c.loop-k.invariant.so_far in
    elim c.if-k-eq0.branch [
      | then-k-eq0 w ↦ record {
        so_far = rw w.count-is (touched_new puts c.loop-k.k c.args.wanted c.loop-k.count c.loop-k.found c.loop-k.before (c.home-line.result / 8) inside so_far (line_is c) c.if-k-eq0.found
            (elim w.then-k-eq0.branch [
              | then-k-eq0-via-then-k-eq0 u ↦ inl u.if-k-eq0.true
              | then-k-eq0-via-else-k-eq0+then-line-before u ↦ inr u.if-line-before.true
            ])
            (λ at. elim w.if-count-wanted.branch [ then-count-wanted u ↦ w.found-is ∙ u.found-is | else-count-wanted u ↦ absurd (u.if-count-wanted.false at) ])
            (λ other. elim w.if-count-wanted.branch [ then-count-wanted u ↦ absurd (other u.if-count-wanted.true) | else-count-wanted u ↦ w.found-is ∙ u.found-is ]));
        few = (let few = c.loop-k.invariant.few in let more = w.count-is in omega arith);
      }
      | else-k-eq0+else-line-before w ↦ record {
        so_far = rw (w.count-is, w.found-is) (touched_same puts c.loop-k.k c.args.wanted c.loop-k.count c.loop-k.found c.loop-k.before (c.home-line.result / 8) inside so_far (line_is c)
            (let some = w.if-k-eq0.false in omega arith) (search rules));
        few = (let few = c.loop-k.invariant.few in let still = w.count-is in omega arith);
      }
    ]
