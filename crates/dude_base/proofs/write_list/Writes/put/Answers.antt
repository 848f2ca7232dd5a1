use Rattle.std.proofs.Common.{sym, ◌∙◌, arith, refl}
use Rattle.dude_base.proofs.WriteLists.{written_absent, written_at, put_absent, put_at}
use Rattle.dude_base.proofs.write_list.Writes.put.Goals as goal

pub returns-in-Some-clause-ok : goal.returns-in-Some-clause-ok
returns-in-Some-clause-ok g c =
    let found = c.in-Some.ensures.some in
    c.replace.ensures ∙ sym (put_at _ _ _ found.0 found.1 c.in-Some.ensures.writes.distinct)

pub returns-in-None-clause-ok : goal.returns-in-None-clause-ok
returns-in-None-clause-ok g c = c.append.ensures ∙ sym (put_absent _ _ c.in-None.ensures.none)

pub returns-in-Some-clause-wide : goal.returns-in-Some-clause-wide
returns-in-Some-clause-wide g c =
    let found = c.in-Some.ensures.some in
    let there = written_at c.args.self.now c.args.w.at c.in-Some.k c.args.w c.in-Some.ensures.writes.distinct found.0 (found.1 c.args.w) in
    (λ e. cc, λ wide. let new = wide.new in cc)

pub returns-in-None-2-clause-wide : goal.returns-in-None-2-clause-wide
returns-in-None-2-clause-wide g c =
    let few = c.len.ensures.writes.few in
    (λ e. record { full = omega arith; new = written_absent _ _ c.in-None-2.ensures.none }, λ wide. refl)
