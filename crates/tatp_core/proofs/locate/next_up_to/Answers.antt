use Rattle.std.proofs.Common.{◌<◌, ◌≤◌, ◌⊎◌, inl, inr, subst, arith}
use Rattle.std.proofs.lemmas.List.Elements.{All-weaker}
use Rattle.tree_index.specs.Shape.{keys_in}
use Rattle.tree_index.specs.Tree.{IsNext}
use Rattle.tatp_core.proofs.locate.next_up_to.Goals as goal

pub returns-in_default-clause-next : goal.returns-in_default-clause-next
returns-in_default-clause-next g c = λ array below shape free_leaves free_inner tree.
    All-weaker (λ key. key < c.args.from) (λ key. (key < c.args.from) ⊎ (c.args.last < key)) (λ key less. inl less) (keys_in shape)
    (subst (λ r. IsNext (keys_in shape) c.args.from r) c.in_default.is (c.in_ok-key.ensures.next array below shape free_leaves free_inner tree))

pub returns-then-key-from-clause-next : goal.returns-then-key-from-clause-next
returns-then-key-from-clause-next g c = λ array below shape free_leaves free_inner tree.
    let next = subst (λ r. IsNext (keys_in shape) c.args.from r) c.in-Some.is (c.in_ok-key.ensures.next array below shape free_leaves free_inner tree) in
    let over : c.args.last < c.in-Some.key = elim c.then-key-from.either [ inl under ↦ absurd (omega (arith, under, next.1)) | inr above ↦ above.1 ] in
    All-weaker (λ key. (key < c.args.from) ⊎ (c.in-Some.key ≤ key)) (λ key. (key < c.args.from) ⊎ (c.args.last < key)) (λ key out. elim out [ inl less ↦ inl less | inr more ↦ inr (omega (arith, more, over)) ]) (keys_in shape) next.2

pub returns-clause-next : goal.returns-clause-next
returns-clause-next g c = λ array below shape free_leaves free_inner tree.
    subst (λ r. IsNext (keys_in shape) c.args.from r) c.in-Some.is (c.in_ok-key.ensures.next array below shape free_leaves free_inner tree)
