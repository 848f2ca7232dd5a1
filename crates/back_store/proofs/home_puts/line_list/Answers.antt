use Rattle.std.proofs.Common.{◌≡◌, ℕ, ◌/◌, ◌++◌, [], ◌∷◌, ◌∙◌, List, length, get_or, sym, ap, arith}
use Rattle.std.proofs.lemmas.List.{length-map, take_all}
use Rattle.dude_base.specs.declared.write.Write.{Write}
use Rattle.dude_base.specs.Image.{home_word}
use Rattle.redo_record.specs.BackCalls.{home_writes, lines_touched}
use Rattle.back_store.proofs.home_puts.line_list.Goals.{then-starts_line, else-starts_line}
use Rattle.back_store.proofs.home_puts.line_list.Goals as goal

pub loop-k-preserved : goal.loop-k-preserved
loop-k-preserved c = elim c.if-starts_line.branch [
  | then-starts_line w ↦ record {
    lines = rw w.lines-is (w.push_reserved.ensures.items ∙ ap (λ n. c.loop-k.lines.items ++ n ∷ []) (w.line_at.ensures (0, 0))
        ∙ ap (λ l. l ++ ((get_or (home_writes c.args.place.now c.args.group.now.writes) c.loop-k.k (0, 0)).0 / 8) ∷ []) c.loop-k.invariant.lines ∙ sym (w.if-starts_line.ensures (0, 0)));
    few = rw w.lines-is (omega (arith, w.push_reserved.ensures.len, c.loop-k.invariant.few));
    capacity = rw w.lines-is (w.push_reserved.ensures.capacity ∙ c.loop-k.invariant.capacity);
  }
  | else-starts_line w ↦ record {
    lines = rw w.lines-is (c.loop-k.invariant.lines ∙ sym w.if-starts_line.ensures);
    few = rw w.lines-is (omega (arith, c.loop-k.invariant.few));
    capacity = rw w.lines-is c.loop-k.invariant.capacity;
  }
]

pub returns-clause-lines : goal.returns-clause-lines
returns-clause-lines c =
    let puts : List (ℕ × ℕ) = home_writes c.args.place.now c.args.group.now.writes in
    let long : length puts ≡ length c.args.group.now.writes = length-map c.args.group.now.writes (λ (w : Write). (home_word c.args.place.now w.at, w.value)) in
    c.loop-k.invariant.lines ∙ ap lines_touched (take_all c.loop-k.k puts (omega (arith, long, c.len-k-end.ensures)))
