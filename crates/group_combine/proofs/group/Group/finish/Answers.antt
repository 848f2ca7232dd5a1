use Rattle.std.proofs.Common.{◌≡◌, ◌∙◌, List, length, map, ap, sym, subst, refl, arith}
use Rattle.std.specs.List.Sorted.{IsPermutation}
use Rattle.std.proofs.lemmas.List.{take_all, length-map}
use Rattle.dude_base.specs.declared.write.Write.{Write}
use Rattle.group_combine.specs.Group.{GroupState}
use Rattle.group_combine.specs.declared.numbered.Numbered.{Numbered}
use Rattle.group_combine.specs.Numbered.{numbered_from, write_of, last_of, AreInOrder}
use Rattle.group_combine.proofs.LastWrites.{last_of-sorted}
use Rattle.group_combine.proofs.group.Group.finish.Goals as goal

pub invariant_of-self : goal.invariant_of-self
invariant_of-self c = record {
  room = c.clear.ensures.capacity ∙ c.sort_by_word.ensures.capacity ∙ c.self.invariant.room ∙ sym c.keep_last.ensures.capacity;
  numbered = rw c.clear.ensures.items refl;
}

pub returns-clause-last : goal.returns-clause-last
returns-clause-last c i =
    let row : List Numbered = c.deref.result.now in
    let ws : List Write = map write_of c.self.inside.row.items in
    let same : row ≡ c.sort_by_word.new.row.items = c.deref.ensures.value in
    let sorted : IsPermutation (numbered_from 0 ws) c.sort_by_word.new.row.items = subst (λ (l : List Numbered). IsPermutation l c.sort_by_word.new.row.items) c.self.invariant.numbered c.sort_by_word.ensures.same in
    c.keep_last.ensures.kept.last i (λ d lt. absurd (omega arith))
    ∙ ap (λ (l : List Numbered). last_of (map write_of l) i) (take_all (length row) row (omega arith) ∙ same)
    ∙ last_of-sorted ws c.sort_by_word.new.row.items i sorted c.sort_by_word.ensures.in_order
    ∙ ap (λ (s : GroupState). last_of s.taken i) c.self.view_is

pub keep_last-requires-clause-in_order : goal.keep_last-requires-clause-in_order
keep_last-requires-clause-in_order c = subst AreInOrder (sym c.deref.ensures.value) c.sort_by_word.ensures.in_order

pub keep_last-requires-clause-room : goal.keep_last-requires-clause-room
keep_last-requires-clause-room c = omega arith

pub returns-clause-rising : goal.returns-clause-rising
returns-clause-rising c = c.keep_last.ensures.kept.rising

pub returns-clause-few : goal.returns-clause-few
returns-clause-few c =
    let long : length (map write_of c.self.inside.row.items) ≡ length c.args.self.now.taken = ap (λ (s : GroupState). length s.taken) c.self.view_is in
    let kept = c.keep_last.ensures.kept.few in
    omega (arith, length-map c.self.inside.row.items write_of)

pub returns-clause-taken : goal.returns-clause-taken
returns-clause-taken c = ap (map write_of) c.clear.ensures.items

pub returns-clause-room : goal.returns-clause-room
returns-clause-room c = c.keep_last.ensures.capacity ∙ ap (λ (s : GroupState). s.room) c.self.view_is
