use Rattle.std.proofs.Common.{◌≡◌, ◌+◌, ◌<◌, ◌++◌, [], ◌∷◌, ℕ, List, ap, sym, ◌∙◌, append_assoc, arith, take, length, length-append, length-take-le}
use Rattle.std.proofs.lemmas.List.{take_all, take_more}
use Rattle.std.proofs.lemmas.Option.{get_or_from_slice_get}
use Rattle.dude_base.specs.declared.write.Write.{Write}
use Rattle.group_combine.specs.Group.{GroupState}
use Rattle.group_combine.proofs.group.take_bundle.Goals as goal

pub take-requires : goal.take-requires
take-requires c =
    let inv = c.loop-k.invariant in
    let long : length c.loop-k.out.taken ≡ length c.args.out.now.taken + c.loop-k.k =
    ap (λ (l : List Write). length l) inv.taken ∙ length-append c.args.out.now.taken (take c.loop-k.k c.args.bundle.now.writes) ∙ ap (λ n. length c.args.out.now.taken + n) (length-take-le c.loop-k.k c.args.bundle.now.writes (omega arith)) in
    omega (arith, inv.room, c.requires)

pub loop-k-preserved : goal.loop-k-preserved
loop-k-preserved c =
    let ws : List Write = c.args.bundle.now.writes in
    let w : Write = c.write_at.result in
    let k : ℕ = c.loop-k.k in
    let old : List Write = c.args.out.now.taken in
    let lt : k < length ws = omega arith in
    let next : take (k + 1) ws ≡ take k ws ++ w ∷ [] = take_more ws k w lt ∙ ap (λ v. take k ws ++ v ∷ []) (get_or_from_slice_get ws k w w c.write_at.ensures) in
    record {
      taken = ap (λ (s : GroupState). s.taken) c.take.ensures ∙ ap (λ (l : List Write). l ++ w ∷ []) c.loop-k.invariant.taken ∙ append_assoc old (take k ws) (w ∷ []) ∙ ap (λ (l : List Write). old ++ l) (sym next);
      room = ap (λ (s : GroupState). s.room) c.take.ensures ∙ c.loop-k.invariant.room;
    }

pub returns-clause-taken : goal.returns-clause-taken
returns-clause-taken c = c.loop-k.invariant.taken ∙ ap (λ (l : List Write). c.args.out.now.taken ++ l) (take_all c.loop-k.k c.args.bundle.now.writes (omega arith))
