use Rattle.std.proofs.Common.{◌≡◌, ℕ, zero, suc, ◌*◌, ◌≤◌, Option, IfSome, sym, ap, subst, arith}
use Rattle.dude_base.specs.declared.limits.TheConstants.{PAGE}
use Rattle.dude_base.specs.declared.sizes.Sizes.{Sizes}
use Rattle.tree_index.specs.declared.tree.Tree.{Tree}
use Rattle.tree_index.specs.Tree.{FitsTree}
use Rattle.tatp_layout.specs.declared.layout.Layout.TheInside.{Inside}
use Rattle.tatp_layout.specs.Layout.{tree_where}
use Rattle.tatp_layout.proofs.Places.{index_fits}
use Rattle.tatp_layout.proofs.layout.Layout.index.Goals as goal

-- where there is an index, its tree may be used
where_fits : (index : ℕ) {tree : Tree} {n : ℕ} → index ≤ 1 → (index ≡ 1 → FitsTree tree n) → IfSome (tree_where index tree) (λ t. FitsTree t n)
where_fits zero few fits = tt
where_fits (suc more) few fits = fits (omega arith)

pub returns-clause-fits : goal.returns-clause-fits
returns-clause-fits c =
    let inside = c.self.inside in
    let accepted = c.self.invariant.accepted in
    let there = where_fits inside.sizes.index (omega (arith, accepted.index.high)) (index_fits accepted) in
    let P : Option Tree → Type 0 = λ o. IfSome o (λ t. FitsTree t (inside.sizes.pages * PAGE)) in
    let here = subst P (sym (ap (λ (l : Inside). l.index) c.self.invariant.is)) there in
    subst (λ (s : Sizes). IfSome inside.index (λ t. FitsTree t (s.pages * PAGE))) c.self.view_is here
