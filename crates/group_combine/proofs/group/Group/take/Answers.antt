use Rattle.std.proofs.Common.{◌≡◌, ◌+◌, ◌++◌, [], ◌∷◌, List, length, map, ap, sym, ◌∙◌, arith}
use Rattle.std.proofs.lemmas.List.{length-map, map_push}
use Rattle.dude_base.specs.declared.write.Write.{Write}
use Rattle.group_combine.specs.declared.numbered.Numbered.{Numbered}
use Rattle.group_combine.specs.Numbered.{numbered_from, write_of}
use Rattle.std.specs.Vec.{vec_capacity}
use Rattle.group_combine.specs.Group.{GroupState}
use Rattle.group_combine.proofs.LastWrites.{numbered_from-push}
use Rattle.group_combine.proofs.group.Group.take.Goals as goal

pub invariant_of-self : goal.invariant_of-self
invariant_of-self c =
    let row : List Numbered = c.self.inside.row.items in
    let ws : List Write = map write_of row in
    let added : Numbered = record { at = c.args.w.at; order = c.len-order.result; value = c.args.w.value } in
    let count : c.len-order.result ≡ 0 + length ws = omega (arith, c.len-order.ensures, length-map row write_of, c.self.inside.row.ok) in
    let items : c.push_reserved.new.self.items ≡ row ++ added ∷ [] = c.push_reserved.ensures.items in
    record {
      room = c.push_reserved.ensures.capacity ∙ c.self.invariant.room;
      numbered = items ∙ numbered_from-push [] 0 ws c.args.w c.len-order.result count c.self.invariant.numbered
          ∙ ap (numbered_from 0) (sym (map_push write_of row added)) ∙ ap (λ (l : List Numbered). numbered_from 0 (map write_of l)) (sym items);
    }

pub returns : goal.returns
returns c =
    let inside = c.self.inside in
    let added : Numbered = record { at = c.args.w.at; order = c.len-order.result; value = c.args.w.value } in
    let taken : map write_of c.push_reserved.new.self.items ≡ map write_of inside.row.items ++ c.args.w ∷ [] = ap (map write_of) c.push_reserved.ensures.items ∙ map_push write_of inside.row.items added in
    ap (λ (l : List Write). record { writes = inside.writes.items; taken = l; room = vec_capacity inside.writes }) taken
    ∙ ap (λ (s : GroupState). record { writes = s.writes; taken = s.taken ++ c.args.w ∷ []; room = s.room }) c.self.view_is
