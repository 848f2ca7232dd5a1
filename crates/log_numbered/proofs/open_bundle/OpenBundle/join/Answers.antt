use Rattle.std.proofs.Common.{◌≤◌, ℕ, ap, ◌∙◌, subst, arith}
use Rattle.dude_base.specs.Records.{RedoBundle}
use Rattle.redo_record.specs.Record.{cells_for}
use Rattle.log_numbered.proofs.Joining.{refused_by}
use Rattle.log_numbered.proofs.open_bundle.OpenBundle.join.Goals as goal

pub returns-then-cells-cells_for-clause-refused : goal.returns-then-cells-cells_for-clause-refused
returns-then-cells-cells_for-clause-refused c _ joins =
    let short = joins.short in
    let is = c.cells_for.ensures.cells ∙ ap cells_for c.places_with.ensures in
    let over = c.if-cells-cells_for.true in
    omega arith

pub returns-in-Ok-clause-joined : goal.returns-in-Ok-clause-joined
returns-in-Ok-clause-joined c _ = record {
  can = c.in-Ok.ensures.joins;
  short = subst (λ (n : ℕ). n ≤ c.args.cells) (c.cells_for.ensures.cells ∙ ap cells_for c.places_with.ensures) (let within = c.if-cells-cells_for.false in omega arith);
}

pub returns-in-Ok-clause-new : goal.returns-in-Ok-clause-new
returns-in-Ok-clause-new c _ = ap (λ (b : RedoBundle). record c.args.self.now { bundle = b }) c.in-Ok.ensures.ok

pub returns-in-Err-clause-refused : goal.returns-in-Err-clause-refused
returns-in-Err-clause-refused c _ joins = refused_by c.in-Err.field-0 c.args.self.now.bundle c.args.r.now c.in-Err.ensures.why joins.can

pub returns-in-Err-clause-stays : goal.returns-in-Err-clause-stays
returns-in-Err-clause-stays c _ = ap (λ (b : RedoBundle). record c.args.self.now { bundle = b }) c.in-Err.ensures.err
