use Rattle.std.proofs.Common.{◌≡◌, ◌+◌, ◌<◌, ◌++◌, [], ◌∷◌, ℕ, List, ap, sym, ◌∙◌, append_assoc, arith, take, length, get_or, length-append, length-take-le}
use Rattle.std.proofs.lemmas.List.{get_or_default, take_all, take_more}
use Rattle.dude_base.specs.declared.write.Write.{Write}
use Rattle.dude_base.specs.Records.{RedoBundle}
use Rattle.group_combine.specs.Group.{GroupState}
use Rattle.back_store.proofs.Merging.{no_record}
use Rattle.back_store.proofs.merge.take_writes.Goals as goal

pub write_at-requires-clause-few : goal.write_at-requires-clause-few
write_at-requires-clause-few c d = let count = c.writes-i-end.ensures.count d in omega arith

pub take-requires : goal.take-requires
take-requires c =
    let inv = c.loop-i.invariant in
    let r : RedoBundle = get_or c.args.lane.now.waiting c.args.k no_record in
    let room = c.requires.room no_record in
    let count = c.writes-i-end.ensures.count no_record in
    let long : length c.loop-i.group.taken ≡ length c.args.group.now.taken + c.loop-i.i =
    ap (λ (l : List Write). length l) inv.taken ∙ length-append c.args.group.now.taken (take c.loop-i.i r.writes) ∙ ap (λ n. length c.args.group.now.taken + n) (length-take-le c.loop-i.i r.writes (omega arith)) in
    omega (arith, inv.room)

pub loop-i-preserved : goal.loop-i-preserved
loop-i-preserved c =
    let ws : List Write = (get_or c.args.lane.now.waiting c.args.k no_record).writes in
    let w : Write = c.write_at.result in
    let k : ℕ = c.loop-i.i in
    let old : List Write = c.args.group.now.taken in
    let lt : k < length ws = (let count = c.writes-i-end.ensures.count no_record in omega arith) in
    let next : take (k + 1) ws ≡ take k ws ++ w ∷ [] = take_more ws k w lt ∙ ap (λ v. take k ws ++ v ∷ []) (c.write_at.ensures no_record w) in
    record {
      taken = ap (λ (s : GroupState). s.taken) c.take.ensures ∙ ap (λ (l : List Write). l ++ w ∷ []) c.loop-i.invariant.taken ∙ append_assoc old (take k ws) (w ∷ []) ∙ ap (λ (l : List Write). old ++ l) (sym next);
      room = ap (λ (s : GroupState). s.room) c.take.ensures ∙ c.loop-i.invariant.room;
    }

pub returns-clause-taken : goal.returns-clause-taken
returns-clause-taken c d =
    let r : RedoBundle = get_or c.args.lane.now.waiting c.args.k no_record in
    let count = c.writes-i-end.ensures.count no_record in
    c.loop-i.invariant.taken ∙ ap (λ (l : List Write). c.args.group.now.taken ++ l) (take_all c.loop-i.i r.writes (omega arith))
    ∙ ap (λ (b : RedoBundle). c.args.group.now.taken ++ b.writes) (get_or_default c.args.lane.now.waiting c.args.k no_record d c.requires.within)

pub returns-clause-distinct : goal.returns-clause-distinct
returns-clause-distinct c d = (c.writes-i-end.ensures.bundle d).writes_are.distinct
