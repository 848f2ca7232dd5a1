use Rattle.std.proofs.Common.{ap, sym, arith}
use Rattle.core_events.specs.Words.{State}
use Rattle.dude_core.proofs.Places.{inside_there}
use Rattle.core_events.proofs.Lists.{at_index}
use Rattle.dude_core.proofs.Parted.{join_tells, not_joined}
use Rattle.dude_core.proofs.state.State.may_join.Goals as goal
use Rattle.dude_core.proofs.state.State.may_join.Goals.{then-who-other-via-then-who-other, then-who-other-via-else-who-other+then-who-views, then-who-other-via-else-who-other+else-who-views+then-other-views}

pub returns-then-who-other : goal.returns-then-who-other
returns-then-who-other c = λ t. let n = c.self.inside.views.ok.0 in let l = c.len-views.ensures in
    let one = inside_there c.self.inside.views.items c.args.self.now.views c.args.who t.0 (ap (λ (s : State). s.views) c.self.view_is) t.2.is_there in
    let two = inside_there c.self.inside.views.items c.args.self.now.views c.args.other t.1 (ap (λ (s : State). s.views) c.self.view_is) t.2.other_there in
    elim c.then-who-other.branch [
      | then-who-other-via-then-who-other w ↦ t.2.apart (sym w.if-who-other.true)
      | then-who-other-via-else-who-other+then-who-views w ↦ let h = w.if-who-views.true in absurd (omega arith)
      | then-who-other-via-else-who-other+else-who-views+then-other-views w ↦ let h = w.if-other-views.true in absurd (omega arith)
    ]

pub returns-then-is_live : goal.returns-then-is_live
returns-then-is_live c = let n = c.self.inside.views.ok.0 in let l = c.len-views.ensures in
    rw (← c.self.view_is) (join_tells _ c.args.who c.args.other c.index.result.now c.index-then-is_live.result.now c.may_be_joined.result c.if-who-other.false
    (at_index c.self.inside.views.items c.args.who c.index.result.now (let h = c.if-who-views.false in omega arith) c.index.ensures)
    c.if-is_live.ensures
    (at_index c.self.inside.views.items c.args.other c.index-then-is_live.result.now (let h = c.if-other-views.false in omega arith) c.index-then-is_live.ensures)
    c.may_be_joined.ensures)

pub returns-else-is_live : goal.returns-else-is_live
returns-else-is_live c = let n = c.self.inside.views.ok.0 in let l = c.len-views.ensures in
    rw (← c.self.view_is) (not_joined _ c.args.who c.args.other c.index.result.now c.is_live.result c.if-is_live.false
    (at_index c.self.inside.views.items c.args.who c.index.result.now (let h = c.if-who-views.false in omega arith) c.index.ensures)
    c.is_live.ensures)
