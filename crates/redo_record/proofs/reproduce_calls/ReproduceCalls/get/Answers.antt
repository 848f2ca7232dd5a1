use Rattle.std.proofs.Common.{◌<◌, ◌-◌, ℕ, Option, Some, [], ◌∷◌, get_or, length, sym, ap, ◌∙◌, arith}
use Rattle.pmem_trait.specs.declared.call.Call.{Call}
use Rattle.pmem_trait.specs.declared.call.Call.TheVariants.{Put}
use Rattle.redo_record.specs.BackCalls.{home_writes, lines_touched, mark_writes}
use Rattle.redo_record.proofs.GroupCalls.{group_length, reproduction_fence, reproduction_flush, reproduction_length, reproduction_mark, reproduction_put}
use Rattle.redo_record.proofs.reproduce_calls.ReproduceCalls.get.Goals as goal

pub returns-then-k-puts : goal.returns-then-k-puts
returns-then-k-puts c =
    reproduction_put c.args.self.now.place c.args.self.now.writes.now c.args.self.now.number c.args.k (record { at = 0; value = 0 }) c.if-k-puts.true
    ∙ ap (λ (n : ℕ). (let call : Option Call = Some (Put n (get_or c.args.self.now.writes.now c.args.k (record { at = 0; value = 0 })).value) in call)) (sym c.home.ensures.place)

pub returns-then-flush-self : goal.returns-then-flush-self
returns-then-flush-self c =
    let flush : ℕ = c.args.k - length c.args.self.now.writes.now in
    let counted = c.args.self.now.counted in
    let below = c.if-flush-self.true in
    let behind = c.if-k-puts.false in
    let here : flush < length (lines_touched (home_writes c.args.self.now.place c.args.self.now.writes.now)) = omega arith in
    reproduction_flush c.args.self.now.place c.args.self.now.writes.now c.args.self.now.number c.args.k flush c.touched-line.result.1 (omega arith) here
    (c.touched-line.ensures.line (let count = c.touched-line.ensures.count in omega arith))

pub returns-then-flush-self-2 : goal.returns-then-flush-self-2
returns-then-flush-self-2 c =
    let counted = c.args.self.now.counted in
    let at = c.if-flush-self-2.true in
    let behind = c.if-k-puts.false in
    reproduction_fence c.args.self.now.place c.args.self.now.writes.now c.args.self.now.number c.args.k (omega arith)

pub group_call-requires : goal.group_call-requires
group_call-requires c =
    let long = group_length (mark_writes c.args.self.now.number) (1 ∷ []) in
    let all = reproduction_length c.args.self.now.place c.args.self.now.writes.now c.args.self.now.number in
    let counted = c.args.self.now.counted in
    let below = c.requires in
    omega arith

pub returns : goal.returns
returns c =
    let counted = c.args.self.now.counted in
    let behind = c.if-k-puts.false in
    let over = c.if-flush-self.false in
    let apart = c.if-flush-self-2.false in
    reproduction_mark c.args.self.now.place c.args.self.now.writes.now c.args.self.now.number c.args.k _ (omega arith) ∙ c.group_call.ensures
